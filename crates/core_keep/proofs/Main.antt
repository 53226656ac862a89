-- A change of the node's document alone: by a revision in flight, or of marks.
use Rattle.std.proofs.Common.{◌≡◌, inl, inr, Bool, true, false, Some, None, Option, List, [], ◌∷◌, refl, sym, ap, ◌∙◌, subst, is_some}
use Rattle.std.specs.Option.{option_map_or, option_or, unwrap_or}
use Rattle.std.specs.Ordering.{eq_by_cmp}
use Rattle.std.specs.List.{filter_map}
use mathlib.Core.Bool.{false≢true}
use Rattle.jr_path.specs.Names.{path_cmp}
use Rattle.jr_path.specs.declared.name.Name.{Name}
use Rattle.jr_path.specs.declared.path.Path.{Path}
use Rattle.jr_path.specs.declared.path.DocId.TheVariants as id
use Rattle.jr_rev.specs.declared.revision.Revision.{Revision}
use Rattle.jr_tree.specs.declared.edit.Write.{Write}
use Rattle.jr_tree.specs.Trees.{born_at, property_at}
use Rattle.jr_tree.specs.Items.{put_of}
use Rattle.jr_tree.proofs.Pointwise.{same_path}
use Rattle.oak_doc.specs.declared.document.Document.{Document}
use Rattle.oak_doc.specs.declared.document.PrevEntry.{PrevEntry}
use Rattle.oak_doc.specs.Updates.{of_revision}
use Rattle.oak_read.specs.Meaning.{Documents, commit_root_of}
use Rattle.oak_read.specs.Shown.{with_previous}
use Rattle.core_read.specs.Commits.{Sight}
use Rattle.core_read.specs.Holds.{prop_entry, root_entry, has_revision}
use Rattle.core_read.specs.Told.{IsIn}
use Rattle.core_read.proofs.Steps.{same_root}
use Rattle.core_keep.specs.Standing.{all_at, gone_of, gone_in, values_in, shows_node, shows_value, HasEntryOf}
use Rattle.core_keep.specs.Keeps.{Course, edit_in, is_done, Keeps, KeepsAt, IsCourse, IsPrevious}
use Rattle.core_keep.specs.Steps.{IsMainAt, IsSameBesides}
use Rattle.core_keep.proofs.Item.{not_true, either_true}
use Rattle.core_keep.proofs.ItemSteps.{item_besides}
use Rattle.core_keep.proofs.AtPath.{gone_entry, listed, gone_same, gone_split, value_split, same_listed, still_said, step_keeps}

-- what may change is neither done nor seen by a bound, but in flight
abbrev pub AreOpen : Course → Sight → Type 0
AreOpen c own = (q : Revision) → own q ≡ true → (edit_in c q ≡ None) × (c.flying q ≡ true) × (c.bound q ≡ false)

module _ (ds now : Documents) (p : Path) (d : Document) (main : IsMainAt ds now p d) where
  -- what is listed stays, where the list does
  pub listed_kept : d.prev ≡ option_map_or (λ d. d.prev) (ds (id.Node p)) [] → listed now p (Some d) ≡ listed ds p (ds (id.Node p))
  listed_kept whole = ap (λ es. filter_map (λ e. now (id.Prev e.number p)) es) whole ∙ same_listed (λ e. now (id.Prev e.number p)) (λ e. ds (id.Prev e.number p)) _ (λ e i. main.previous_here e.number)

  pub all_now : all_at now p ≡ d ∷ listed now p (Some d)
  all_now = ap (λ o. option_map_or (with_previous now p) o []) main.at

  pub gone_now : (q : Revision) → of_revision (gone_in (all_at now p)) q ≡ option_or (gone_entry (Some d) q) (of_revision (gone_in (listed now p (Some d))) q)
  gone_now q = ap (λ l. of_revision (gone_in l) q) all_now ∙ gone_split now p (Some d) q

  pub value_now : (n : Name) (q : Revision) → of_revision (values_in n (all_at now p)) q ≡ option_or (prop_entry (Some d) n q) (of_revision (values_in n (listed now p (Some d))) q)
  value_now n q = ap (λ l. of_revision (values_in n l) q) all_now ∙ value_split now p (Some d) n q

  -- a fact of the document now, and of every other as it was
  pub at_each : (P : Path → Option Document → Type 0) → P p (Some d) → ((q : Path) → eq_by_cmp path_cmp q p ≡ false → P q (ds (id.Node q))) → (q : Path) → P q (now (id.Node q))
  at_each P here others q = by (eq_by_cmp path_cmp q p) refl
    where
      by : (b : Bool) → eq_by_cmp path_cmp q p ≡ b → P q (now (id.Node q))
      by true h = subst (λ (x : Path). P x (now (id.Node x))) (sym (same_path q p h)) (subst (λ o. P p o) (sym main.at) here)
      by false h = subst (λ o. P q o) (sym (main.elsewhere.node q h)) (others q h)

module _ (ds now : Documents) (c : Course) (keeps : Keeps ds c) (course : IsCourse c) (p : Path) (d : Document) (main : IsMainAt ds now p d) (own : Sight) (open_ : AreOpen c own) (same : IsSameBesides c own p (ds (id.Node p)) d) where
  at : KeepsAt ds c p
  at = keeps p

  edited : (q : Revision) (ws : List Write) → edit_in c q ≡ Some ws → own q ≡ false
  edited q ws e = not_true (own q) (λ h. false≢true (ap is_some (sym (open_ q h).0 ∙ e)))

  pub not_done : (q : Revision) → own q ≡ true → is_done c q ≡ true → ⊥
  not_done q h k = elim (either_true (is_some (edit_in c q)) (c.old q) k) [
    | inl e ↦ false≢true (ap is_some (sym (open_ q h).0) ∙ e)
    | inr o ↦ false≢true (sym (open_ q h).2 ∙ course.old_bound q o)
  ]

  still : listed now p (Some d) ≡ listed ds p (ds (id.Node p))
  still = listed_kept ds now p d main same.whole

  gone_is : (q : Revision) → own q ≡ false → of_revision (gone_in (all_at now p)) q ≡ of_revision (gone_in (all_at ds p)) q
  gone_is q h =
      gone_now ds now p d main q
      ∙ (ap (λ l. option_or (gone_entry (Some d) q) (of_revision (gone_in l) q)) still
      ∙ (ap (λ o. option_or o (of_revision (gone_in (listed ds p (ds (id.Node p)))) q)) (gone_same (Some d) (ds (id.Node p)) q (same.at q h).here)
      ∙ sym (gone_split ds p (ds (id.Node p)) q)))

  pub value_is : (n : Name) (q : Revision) → own q ≡ false → of_revision (values_in n (all_at now p)) q ≡ of_revision (values_in n (all_at ds p)) q
  value_is n q h =
      value_now ds now p d main n q
      ∙ (ap (λ l. option_or (prop_entry (Some d) n q) (of_revision (values_in n l) q)) still
      ∙ (ap (λ o. option_or o (of_revision (values_in n (listed ds p (ds (id.Node p)))) q)) ((same.at q h).prop n)
      ∙ sym (value_split ds p (ds (id.Node p)) n q)))

  pub said : (x : Path) (r : Revision) (ws : List Write) → edit_in c r ≡ Some ws → c.swept r ≡ false → has_revision (ds (id.Node x)) r ≡ true → has_revision (now (id.Node x)) r ≡ true
  said x r ws e s = by x
    where
      by : (x : Path) → has_revision (ds (id.Node x)) r ≡ true → has_revision (now (id.Node x)) r ≡ true
      by = at_each ds now p d main (λ x o. has_revision (ds (id.Node x)) r ≡ true → has_revision o r ≡ true) (λ h. same.said r (edited r ws e) h) (λ x k h. h)

  -- an entry of the document now, of a revision that isn't its own, stood before
  stood : (r : Revision) → own r ≡ false → HasEntryOf r d → (o : Option Document) → ds (id.Node p) ≡ o → (old : Document) × (ds (id.Node p) ≡ Some old) × HasEntryOf r old
  stood r h (inl k) None e = absurd (false≢true (sym (ap is_some (gone_same (Some d) (ds (id.Node p)) r (same.at r h).here ∙ ap (λ o. gone_entry o r) e)) ∙ k))
  stood r h (inr k) None e = absurd (false≢true (sym (ap is_some ((same.at r h).prop k.0 ∙ ap (λ o. prop_entry o k.0 r) e)) ∙ k.1))
  stood r h (inl k) (Some old) e = (old, e, inl (sym (ap is_some (gone_same (Some d) (ds (id.Node p)) r (same.at r h).here ∙ ap (λ o. gone_entry o r) e)) ∙ k))
  stood r h (inr k) (Some old) e = (old, e, inr (k.0, sym (ap is_some ((same.at r h).prop k.0 ∙ ap (λ o. prop_entry o k.0 r) e)) ∙ k.1))

  all_was : (o : Option Document) → ds (id.Node p) ≡ o → all_at ds p ≡ option_map_or (with_previous ds p) o []
  all_was o e = ap (λ o. option_map_or (with_previous ds p) o []) e

  -- what was listed was among them
  listed_in : (x : Document) → IsIn x (listed ds p (ds (id.Node p))) → IsIn x (all_at ds p)
  listed_in x i = by (ds (id.Node p)) refl i
    where
      by : (o : Option Document) → ds (id.Node p) ≡ o → IsIn x (listed ds p o) → IsIn x (all_at ds p)
      by None e i = absurd i
      by (Some old) e i = subst (λ l. IsIn x l) (sym (all_was (Some old) e)) (inr i)

  rooted : (x : Document) → IsIn x (d ∷ listed now p (Some d)) → (r : Revision) (ws : List Write) → edit_in c r ≡ Some ws → c.swept r ≡ false → HasEntryOf r x → has_revision (now (commit_root_of x r)) r ≡ true
  rooted x (inr i) r ws e s entry =
      let j : IsIn x (all_at ds p) = listed_in x (subst (λ l. IsIn x l) still i) in
      still_said ds now c keeps said p x j r ws e s _ refl (at.rooted x j r ws e s entry)
  rooted x (inl one) r ws e s entry =
      let k = stood r (edited r ws e) (subst (λ (y : Document). HasEntryOf r y) (sym one) entry) (ds (id.Node p)) refl in
      let j : IsIn k.0 (all_at ds p) = subst (λ l. IsIn k.0 l) (sym (all_was (Some k.0) k.1)) (inl refl) in
      let root : commit_root_of d r ≡ commit_root_of k.0 r = same_root k.0 d p r (at.named k.0 k.1) same.named ((same.at r (edited r ws e)).root ∙ ap (λ o. root_entry o r) k.1) in
      subst (λ (y : Document). has_revision (now (commit_root_of y r)) r ≡ true) one
      (ap (λ i. has_revision (now i) r) root ∙ still_said ds now c keeps said p k.0 j r ws e s _ refl (at.rooted k.0 j r ws e s k.2))

  previous : (e : PrevEntry) → IsIn e d.prev → (x : Document) → now (id.Prev e.number p) ≡ Some x → IsPrevious c p d e.number x
  previous e i x there = by (ds (id.Node p)) refl (subst (λ l. IsIn e l) same.whole i)
    where
      by : (o : Option Document) → ds (id.Node p) ≡ o → IsIn e (option_map_or (λ d. d.prev) o []) → IsPrevious c p d e.number x
      by None k i = absurd i
      by (Some old) k i =
          let f = at.previous old k e i x (sym (main.previous_here e.number) ∙ there) in
          record {
            named = f.named;
            plain = f.plain;
            done = f.done;
            genuine = f.genuine;
            behind = λ n r h. let g = f.behind n r h in (g.0, g.1, g.2, ap is_some ((same.at g.0 (not_true (own g.0) (λ h. not_done g.0 h g.2))).prop n ∙ ap (λ o. prop_entry o n g.0) k) ∙ g.3);
          }

  value_of : (o : Option Document) (x y : Document) → o ≡ Some x → o ≡ Some y → x ≡ y
  value_of o x y h k = ap (λ o. unwrap_or o x) (sym h ∙ k)

  here : KeepsAt now c p
  here = record {
    node = item_besides (gone_of p) shows_node (born_at c.tree p) c _ _ at.node own open_ gone_is;
    prop = λ n. item_besides (put_of p n) shows_value (property_at c.tree p n) c _ _ (at.prop n) own open_ (value_is n);
    rooted = λ x i. rooted x (subst (λ l. IsIn x l) (all_now ds now p d main) i);
    unsaid = λ r e o. ap (λ o. has_revision o r) main.at ∙ same.unsaid r e o (at.unsaid r e o);
    no_root = λ r e o f. ap (λ o. root_entry o r) main.at ∙ ((same.at r (not_true (own r) (λ h. false≢true (sym f ∙ (open_ r h).1)))).root ∙ at.no_root r e o f);
    named = λ x h. ap (λ (y : Document). y.id) (value_of _ x d h main.at) ∙ same.named;
    previous = λ x h. subst (λ (y : Document). (e : PrevEntry) → IsIn e y.prev → (z : Document) → now (id.Prev e.number p) ≡ Some z → IsPrevious c p y e.number z) (value_of _ d x main.at h) previous;
  }

  -- a document changes but for entries of revisions that are open
  pub main_keeps : Keeps now c
  main_keeps = step_keeps ds now c keeps said p main.elsewhere here
