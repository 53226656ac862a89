-- The steps of a world, as others make them between two steps of a reader.
use Rattle.std.proofs.Common.{arith, ◌≡◌, ◌⊎◌, inl, inr, ℕ, Bool, true, false, cond, not, ◌&&◌, Some, None, Option, List, [], ◌∷◌, refl, sym, ap, ◌∙◌, subst, is_some}
use Rattle.std.specs.Prelude.{◌==◌}
use Rattle.std.proofs.lemmas.Bool.Decides.{nat_tests}
use Rattle.std.specs.Option.{option_and_then, option_map_or, unwrap_or}
use Rattle.std.specs.Ordering.{eq_by_cmp}
use Rattle.std.specs.List.{filter}
use mathlib.Core.Bool.{false≢true}
use Rattle.jr_path.specs.Names.{path_cmp}
use Rattle.jr_path.specs.declared.name.Name.{Name}
use Rattle.jr_path.specs.declared.path.Path.{Path}
use Rattle.jr_path.specs.declared.path.DocId.TheVariants as id
use Rattle.jr_rev.specs.declared.revision.Revision.{Revision}
use Rattle.jr_rev.proofs.Entries.{number_same}
use Rattle.jr_tree.specs.declared.edit.Write.{Write}
use Rattle.jr_tree.specs.Items.{put_of, written}
use Rattle.jr_tree.proofs.Pointwise.{same_path}
use Rattle.oak_doc.specs.declared.document.Document.{Document}
use Rattle.oak_doc.specs.declared.document.PrevEntry.{PrevEntry}
use Rattle.oak_doc.specs.Updates.{of_revision, values_of_property}
use Rattle.oak_read.specs.Meaning.{Documents}
use Rattle.core_read.specs.Commits.{Commits, Sight, last_entry, Fall}
use Rattle.core_read.specs.Holds.{has_revision, prop_entry}
use Rattle.core_read.specs.Told.{IsIn}
use Rattle.core_read.proofs.Latest.{only_entry, writing, last_entry_last}
use Rattle.core_keep.specs.Standing.{gone_of}
use Rattle.core_keep.specs.Keeps.{Course, edit_in, is_done, Keeps, IsCourse, IsHeldPair}
use Rattle.core_keep.specs.Steps.{IsChangeAt, IsMainAt, IsSameBesides, IsPruned, IsMoved, IsUnwanted, IsPreviousAt, IsUnlisted}
use Rattle.core_keep.specs.Readers.{IsOutdone, IsListed, GoesOn}
use Rattle.core_keep.proofs.Item.{not_true, some_of, either_true}
use Rattle.core_keep.proofs.Main.{AreOpen}
use Rattle.core_keep.proofs.Pruned.{left_sub}
use Rattle.core_keep.proofs.Main as main_step
use Rattle.core_keep.proofs.Pruned as pruned_step
use Rattle.core_keep.proofs.Moved as moved_step

pub itself : (k : ℕ) → (k == k) ≡ true
itself k = grind (arith, nat_tests)

-- a number is another or not
pub decide : (j i : ℕ) → (j ≡ i) ⊎ (j ≡ i → ⊥)
decide j i = by (j == i) refl
  where
    by : (b : Bool) → (j == i) ≡ b → (j ≡ i) ⊎ (j ≡ i → ⊥)
    by true h = inl (number_same j i h)
    by false h = inr (λ e. false≢true (sym h ∙ (ap (λ (k : ℕ). j == k) (sym e) ∙ itself j)))

-- ---- what the journal tells goes on

-- the last of the writes that are seen, where the edits that are seen are the same
pub same_last : {X : Type 0} (f : Write → Option X) (s : Sight) (es fs : Commits) → Fall es → Fall fs → ((q : Revision) → s q ≡ true → of_revision fs q ≡ of_revision es q) → last_entry f s fs ≡ last_entry f s es
same_last {X} f s es fs fall falls same = only_entry (λ q. writing f s (of_revision fs q) q) (λ q. writing f s (of_revision es q) q) (λ q. by q (s q) refl) _ _ (last_entry_last f s fs falls) (last_entry_last f s es fall)
  where
    by : (q : Revision) (b : Bool) → s q ≡ b → cond b (option_and_then (written f) (of_revision fs q)) None ≡ cond b (option_and_then (written f) (of_revision es q)) None
    by q true h = ap (option_and_then (written f)) (same q h)
    by q false h = refl

-- a course with the same tree, and the same edits where they are seen
pub course_goes : (ds : Documents) (c later : Course) (v t : Sight) (p : Path) (copy : Document) (asked : ℕ → Bool) → Fall c.commits → Fall later.commits → later.tree ≡ c.tree → ((q : Revision) → v q ≡ true → edit_in later q ≡ edit_in c q) → ((r : Revision) → is_done c r ≡ true → is_done later r ≡ true)
    → GoesOn ds ds c later v t p copy asked
course_goes ds c later v t p copy asked fall falls tree same done = record {
  tree = tree;
  node_last = same_last (gone_of p) v c.commits later.commits fall falls same;
  prop_last = λ n. same_last (put_of p n) v c.commits later.commits fall falls same;
  done = done;
  said = λ q r d s u h. h;
  sub = λ d h n q s k. (d, h, k);
  list = λ k x h l. inl l;
  stays = λ k. true;
  previous = λ e i a. inl (refl, refl);
}

-- ---- documents change

module _ (ds now : Documents) (c : Course) (course : IsCourse c) (v t : Sight) (held : IsHeldPair c v t) (p : Path) (copy : Document) (asked : ℕ → Bool)
    (said : (x : Path) (r : Revision) (ws : List Write) → edit_in c r ≡ Some ws → c.swept r ≡ false → has_revision (ds (id.Node x)) r ≡ true → has_revision (now (id.Node x)) r ≡ true) where
  still_said : (q : Path) (r : Revision) → is_done c r ≡ true → v r ≡ true → t r ≡ false → has_revision (ds (id.Node q)) r ≡ true → has_revision (now (id.Node q)) r ≡ true
  still_said q r done seen unswept h = by (edit_in c r) refl (either_true (is_some (edit_in c r)) (c.old r) done)
    where
      by : (o : Option (List Write)) → edit_in c r ≡ o → (is_some (edit_in c r) ≡ true) ⊎ (c.old r ≡ true) → has_revision (now (id.Node q)) r ≡ true
      by o e (inr k) = absurd (false≢true (sym unswept ∙ held.sweep r (course.old_swept r k)))
      by None e (inl k) = absurd (false≢true (ap is_some (sym e) ∙ k))
      by (Some ws) e (inl k) = said q r ws e (not_true (c.swept r) (λ s. false≢true (sym unswept ∙ held.sweep r s))) h

  -- the node's document at p goes on so, and previous documents so
  goes : ((d : Document) → now (id.Node p) ≡ Some d → (n : Name) (q : Revision) → v q ≡ true → is_some (of_revision (values_of_property d.props n) q) ≡ true → (old : Document) × (ds (id.Node p) ≡ Some old) × (is_some (of_revision (values_of_property old.props n) q) ≡ true))
      → ((k : ℕ) (x : Document) → ds (id.Prev k p) ≡ Some x → IsListed ds p k → IsListed now p k ⊎ ((old : Document) × (ds (id.Node p) ≡ Some old) × IsOutdone v old x))
      → (stays : ℕ → Bool) → ((e : PrevEntry) → IsIn e copy.prev → asked e.number ≡ false → ((stays e.number ≡ true) × (now (id.Prev e.number p) ≡ ds (id.Prev e.number p))) ⊎ ((stays e.number ≡ false) × IsUnlisted ds p e.number))
      → GoesOn ds now c c v t p copy asked
  goes sub list stays previous = record { tree = refl; node_last = refl; prop_last = λ n. refl; done = λ r h. h; said = still_said; sub = sub; list = list; stays = stays; previous = previous }

  -- where the node's document at p stays
  same_goes : now (id.Node p) ≡ ds (id.Node p) → (stays : ℕ → Bool) → ((e : PrevEntry) → IsIn e copy.prev → asked e.number ≡ false → ((stays e.number ≡ true) × (now (id.Prev e.number p) ≡ ds (id.Prev e.number p))) ⊎ ((stays e.number ≡ false) × IsUnlisted ds p e.number)) → GoesOn ds now c c v t p copy asked
  same_goes same stays previous = goes (λ d h n q s k. (d, sym same ∙ h, k)) (λ k x h l. inl (l.0, same ∙ l.1, l.2)) stays previous

  -- the node's document at one path is changed
  module _ (at : Path) (d : Document) (main : IsMainAt ds now at d)
      (sub : (n : Name) (q : Revision) → v q ≡ true → is_some (of_revision (values_of_property d.props n) q) ≡ true → (old : Document) × (ds (id.Node at) ≡ Some old) × (is_some (of_revision (values_of_property old.props n) q) ≡ true))
      (list : (old : Document) → ds (id.Node at) ≡ Some old → (e : PrevEntry) → IsIn e old.prev → (x : Document) → ds (id.Prev e.number at) ≡ Some x → (IsIn e d.prev) ⊎ IsOutdone v old x) where
    main_goes : GoesOn ds now c c v t p copy asked
    main_goes = by (eq_by_cmp path_cmp p at) refl
      where
        value : (o : Option Document) (x y : Document) → o ≡ Some x → o ≡ Some y → x ≡ y
        value o x y h k = ap (λ o. unwrap_or o x) (sym h ∙ k)

        listed : (k : ℕ) (x : Document) → ds (id.Prev k at) ≡ Some x → IsListed ds at k → IsListed now at k ⊎ ((old : Document) × (ds (id.Node at) ≡ Some old) × IsOutdone v old x)
        listed k x h l =
            elim (list l.0 l.1 (l.2).0 (l.2).1 x (ap (λ (j : ℕ). ds (id.Prev j at)) (l.2).2 ∙ h)) [
              | inl i ↦ inl (d, main.at, ((l.2).0, i, (l.2).2))
              | inr o ↦ inr (l.0, l.1, o)
            ]

        here : p ≡ at → GoesOn ds now c c v t p copy asked
        here one = goes
            (λ e h n q s k.
            let o = sub n q s (ap (λ (y : Document). is_some (of_revision (values_of_property y.props n) q)) (value _ d e main.at (ap (λ (z : Path). now (id.Node z)) (sym one) ∙ h)) ∙ k) in
            (o.0, ap (λ (z : Path). ds (id.Node z)) one ∙ o.1, o.2))
            (subst (λ (z : Path). (k : ℕ) (x : Document) → ds (id.Prev k z) ≡ Some x → IsListed ds z k → IsListed now z k ⊎ ((old : Document) × (ds (id.Node z) ≡ Some old) × IsOutdone v old x)) (sym one) listed)
            (λ k. true) (λ e i a. inl (refl, subst (λ (z : Path). now (id.Prev e.number z) ≡ ds (id.Prev e.number z)) (sym one) (main.previous_here e.number)))

        by : (b : Bool) → eq_by_cmp path_cmp p at ≡ b → GoesOn ds now c c v t p copy asked
        by true h = here (same_path p at h)
        by false h = same_goes (main.elsewhere.node p h) (λ k. true) (λ e i a. inl (refl, main.elsewhere.previous e.number p h))

-- ---- the steps

module _ (ds now : Documents) (c : Course) (keeps : Keeps ds c) (course : IsCourse c) (v t : Sight) (held : IsHeldPair c v t) (p : Path) (copy : Document) (asked : ℕ → Bool) where
  -- a write, an undo, or marks; nothing that is open is seen
  pub besides_goes : (at : Path) (d : Document) → IsMainAt ds now at d → (own : Sight) → AreOpen c own → ((q : Revision) → own q ≡ true → v q ≡ false) → IsSameBesides c own at (ds (id.Node at)) d → GoesOn ds now c c v t p copy asked
  besides_goes at d main own open_ unseen same = main_goes ds now c course v t held p copy asked (main_step.said ds now c keeps course at d main own open_ same) at d main
      (λ n q s k. by n q (ds (id.Node at)) refl (sym (ap is_some ((same.at q (not_true (own q) (λ h. false≢true (sym (unseen q h) ∙ s)))).prop n)) ∙ k))
      (λ old h e i x k. inl (subst (λ l. IsIn e l) (sym same.whole) (subst (λ o. IsIn e (option_map_or (λ d. d.prev) o [])) (sym h) i)))
    where
      by : (n : Name) (q : Revision) (o : Option Document) → ds (id.Node at) ≡ o → is_some (prop_entry o n q) ≡ true → (old : Document) × (ds (id.Node at) ≡ Some old) × (is_some (of_revision (values_of_property old.props n) q) ≡ true)
      by n q None h k = absurd (false≢true k)
      by n q (Some old) h k = (old, h, k)

  -- garbage entries go, and previous documents are unlisted
  pub pruned_goes : (at : Path) (old d : Document) → ds (id.Node at) ≡ Some old → IsMainAt ds now at d → IsPruned ds c at old d → GoesOn ds now c c v t p copy asked
  pruned_goes at old d is main pruned = main_goes ds now c course v t held p copy asked (pruned_step.said ds now c keeps course at old d is main pruned) at d main
      (λ n q s k. let x = some_of (of_revision (values_of_property d.props n) q) k in (old, is, ap is_some (left_sub c _ _ (pruned.props n) q x.0 x.1)))
      (λ o h e i x k. by o h e (subst (λ (y : Document). IsIn e y.prev) (value o h) i) x k (pruned.prev.0 e) refl)
    where
      value : (o : Document) → ds (id.Node at) ≡ Some o → o ≡ old
      value o h = ap (λ x. unwrap_or x o) (sym h ∙ is)

      in_filter : (keep : PrevEntry → Bool) (es : List PrevEntry) (e : PrevEntry) → IsIn e es → keep e ≡ true → IsIn e (filter keep es)
      in_filter keep [] e i k = i
      in_filter keep (f ∷ es) e (inl one) k = subst (λ b. IsIn e (cond b (f ∷ filter keep es) (filter keep es))) (sym (ap keep one ∙ k)) (inl one)
      in_filter keep (f ∷ es) e (inr i) k = elim (keep f) as (λ b. IsIn e (cond b (f ∷ filter keep es) (filter keep es))) [ true ↦ inr (in_filter keep es e i k) | false ↦ in_filter keep es e i k ]

      by : (o : Document) → ds (id.Node at) ≡ Some o → (e : PrevEntry) → IsIn e old.prev → (x : Document) → ds (id.Prev e.number at) ≡ Some x → (b : Bool) → pruned.prev.0 e ≡ b → IsIn e d.prev ⊎ IsOutdone v o x
      by o h e i x k true m = inl (subst (λ l. IsIn e l) (sym pruned.prev.1) (in_filter pruned.prev.0 old.prev e i m))
      by o h e i x k false m = inr (λ n r s u.
          let g = pruned.prev.2 e i m x k n r u in
          let l = g.1 in
          let w = some_of (of_revision (values_of_property d.props n) l.0) l.3 in
          (l.0, l.1, held.base l.0 l.2, subst (λ (y : Document). is_some (of_revision (values_of_property y.props n) l.0) ≡ true) (sym (value o h)) (ap is_some (left_sub c _ _ (pruned.props n) l.0 w.0 w.1))))

  -- a split lists what it moved
  pub moved_goes : (at : Path) (old d : Document) (e : PrevEntry) (x : Document) → ds (id.Node at) ≡ Some old → ds (id.Prev e.number at) ≡ Some x → IsMainAt ds now at d → IsMoved c at old d e x → GoesOn ds now c c v t p copy asked
  moved_goes at old d e x is there main moved = main_goes ds now c course v t held p copy asked (moved_step.said ds now c keeps at old d e x is there main moved) at d main
      (λ n q s k. (old, is, moved_step.stayed_was ds now c keeps at old d e x is there main moved n q k))
      (λ o h f i y k. inl (subst (λ l. IsIn f l) (sym moved.prev) (inr (subst (λ (z : Document). IsIn f z.prev) (ap (λ u. unwrap_or u o) (sym h ∙ is)) i))))

  -- a document of an absent node goes; its previous documents go later
  pub removed_goes : (at : Path) (old : Document) → ds (id.Node at) ≡ Some old → IsChangeAt ds now at → now (id.Node at) ≡ None → ((k : ℕ) → now (id.Prev k at) ≡ ds (id.Prev k at)) → IsUnwanted c at old → GoesOn ds now c c v t p copy asked
  removed_goes at old is elsewhere gone stay unwanted = by (eq_by_cmp path_cmp p at) refl
    where
      said : (y : Path) (r : Revision) (ws : List Write) → edit_in c r ≡ Some ws → c.swept r ≡ false → has_revision (ds (id.Node y)) r ≡ true → has_revision (now (id.Node y)) r ≡ true
      said y r ws e s h = at_path (eq_by_cmp path_cmp y at) refl
        where
          at_path : (b : Bool) → eq_by_cmp path_cmp y at ≡ b → has_revision (now (id.Node y)) r ≡ true
          at_path false k = ap (λ o. has_revision o r) (elsewhere.node y k) ∙ h
          at_path true k = absurd (false≢true (sym s ∙ unwanted.statuses r (sym (ap (λ o. has_revision o r) (ap (λ (x : Path). ds (id.Node x)) (same_path y at k) ∙ is)) ∙ h)))

      listed : (k : ℕ) (x : Document) → ds (id.Prev k at) ≡ Some x → IsListed ds at k → (o : Document) × (ds (id.Node at) ≡ Some o) × IsOutdone v o x
      listed k x h l = (
        old,
        is,
        λ n r s u.
            let one : l.0 ≡ old = ap (λ o. unwrap_or o (l.0)) (sym l.1 ∙ is) in
            let f = (keeps at).previous old is (l.2).0 (subst (λ (y : Document). IsIn (l.2).0 y.prev) one (l.2).1) x (ap (λ (j : ℕ). ds (id.Prev j at)) (l.2).2 ∙ h) in
            let g = f.behind n r u in
            (g.0, g.1, held.base g.0 (unwanted.entries g.0 (inr (n, g.3))), g.3),
      )

      here : p ≡ at → GoesOn ds now c c v t p copy asked
      here one = goes ds now c course v t held p copy asked said
          (λ e h. absurd (false≢true (ap is_some (sym (ap (λ (z : Path). now (id.Node z)) one ∙ gone) ∙ h))))
          (λ k x h l. inr (subst (λ (z : Path). (o : Document) × (ds (id.Node z) ≡ Some o) × IsOutdone v o x) (sym one) (listed k x (ap (λ (z : Path). ds (id.Prev k z)) (sym one) ∙ h) (subst (λ (z : Path). IsListed ds z k) one l))))
          (λ k. true) (λ e i a. inl (refl, subst (λ (z : Path). now (id.Prev e.number z) ≡ ds (id.Prev e.number z)) (sym one) (stay e.number)))

      by : (b : Bool) → eq_by_cmp path_cmp p at ≡ b → GoesOn ds now c c v t p copy asked
      by true h = here (same_path p at h)
      by false h = same_goes ds now c course v t held p copy asked said (elsewhere.node p h) (λ k. true) (λ e i a. inl (refl, elsewhere.previous e.number p h))

  -- a previous document that nobody lists changes: it goes, or one comes
  pub previous_goes : (at : Path) (k : ℕ) → IsPreviousAt ds now at k → IsUnlisted ds at k → GoesOn ds now c c v t p copy asked
  previous_goes at k change unlisted = same_goes ds now c course v t held p copy asked (λ x r ws e s h. ap (λ o. has_revision o r) (change.node x) ∙ h) (change.node p) stays (λ e i a. by e (eq_by_cmp path_cmp p at) refl (e.number == k) refl)
    where
      stays : ℕ → Bool
      stays j = not (eq_by_cmp path_cmp p at && (j == k))

      apart : (j : ℕ) → (j == k) ≡ false → j ≡ k → ⊥
      apart j h e = false≢true (sym h ∙ (ap (λ (i : ℕ). j == i) (sym e) ∙ itself j))

      by : (e : PrevEntry) → (b : Bool) → eq_by_cmp path_cmp p at ≡ b → (a : Bool) → (e.number == k) ≡ a
          → ((not (eq_by_cmp path_cmp p at && (e.number == k)) ≡ true) × (now (id.Prev e.number p) ≡ ds (id.Prev e.number p))) ⊎ ((not (eq_by_cmp path_cmp p at && (e.number == k)) ≡ false) × IsUnlisted ds p e.number)
      by e false h a m = inl (ap (λ b. not (b && (e.number == k))) h, change.elsewhere e.number p h)
      by e true h false m = inl (ap (λ b. not (b && (e.number == k))) h ∙ ap not m, subst (λ (z : Path). now (id.Prev e.number z) ≡ ds (id.Prev e.number z)) (sym (same_path p at h)) (change.other e.number (apart e.number m)))
      by e true h true m = inr (ap (λ b. not (b && (e.number == k))) h ∙ ap not m, subst (λ (z : Path). IsUnlisted ds z e.number) (sym (same_path p at h)) (λ d is f j same. unlisted d is f j (same ∙ number_same e.number k m)))

  -- documents of no node change
  pub others_go : ((q : Path) → now (id.Node q) ≡ ds (id.Node q)) → ((k : ℕ) (q : Path) → now (id.Prev k q) ≡ ds (id.Prev k q)) → GoesOn ds now c c v t p copy asked
  others_go node previous = same_goes ds now c course v t held p copy asked (λ x r ws e s h. ap (λ o. has_revision o r) (node x) ∙ h) (node p) (λ k. true) (λ e i a. inl (refl, previous e.number p))

-- ---- the last write of a draw, with its Commit: the document is changed, and then the journal tells more

-- the commit root says one revision more, and has every entry as it was
pub last_goes : (ds now : Documents) (c : Course) → Keeps ds c → IsCourse c → (v t : Sight) → IsHeldPair c v t → (p : Path) (copy : Document) (asked : ℕ → Bool) → (at : Path) (d : Document) → IsMainAt ds now at d
    → ((q : Revision) → Rattle.core_read.specs.Holds.IsSameAt q (ds (id.Node at)) d) → ((q : Revision) → has_revision (ds (id.Node at)) q ≡ true → has_revision (Some d) q ≡ true) → d.prev ≡ option_map_or (λ d. d.prev) (ds (id.Node at)) [] → GoesOn ds now c c v t p copy asked
last_goes ds now c keeps course v t held p copy asked at d main same said whole = main_goes ds now c course v t held p copy asked still at d main
    (λ n q s k. by n q (ds (id.Node at)) refl (sym (ap is_some ((same q).prop n)) ∙ k))
    (λ old h e i x k. inl (subst (λ l. IsIn e l) (sym whole) (subst (λ o. IsIn e (option_map_or (λ d. d.prev) o [])) (sym h) i)))
  where
    by : (n : Name) (q : Revision) (o : Option Document) → ds (id.Node at) ≡ o → is_some (prop_entry o n q) ≡ true → (old : Document) × (ds (id.Node at) ≡ Some old) × (is_some (of_revision (values_of_property old.props n) q) ≡ true)
    by n q None h k = absurd (false≢true k)
    by n q (Some old) h k = (old, h, k)

    still : (x : Path) (r : Revision) (ws : List Write) → edit_in c r ≡ Some ws → c.swept r ≡ false → has_revision (ds (id.Node x)) r ≡ true → has_revision (now (id.Node x)) r ≡ true
    still x r ws e s h = at_path (eq_by_cmp path_cmp x at) refl
      where
        at_path : (b : Bool) → eq_by_cmp path_cmp x at ≡ b → has_revision (now (id.Node x)) r ≡ true
        at_path false k = ap (λ o. has_revision o r) (main.elsewhere.node x k) ∙ h
        at_path true k =
            let one : x ≡ at = same_path x at k in
            subst (λ (z : Path). has_revision (now (id.Node z)) r ≡ true) (sym one) (ap (λ o. has_revision o r) main.at ∙ said r (subst (λ (z : Path). has_revision (ds (id.Node z)) r ≡ true) one h))
