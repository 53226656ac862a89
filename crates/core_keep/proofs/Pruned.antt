-- Garbage entries go, and previous documents are listed no more.
use Rattle.std.proofs.Common.{◌≡◌, ◌⊎◌, inl, inr, Bool, true, false, cond, Some, None, Option, List, [], ◌∷◌, refl, sym, ap, ◌∙◌, subst, is_some}
use Rattle.std.specs.Option.{option_map_or, option_or, unwrap_or}
use Rattle.std.specs.List.{filter, filter_map, cons_option}
use mathlib.Core.Bool.{false≢true}
use Rattle.jr_path.specs.declared.name.Name.{Name}
use Rattle.jr_path.specs.declared.path.Path.{Path}
use Rattle.jr_path.specs.declared.path.DocId.TheVariants as id
use Rattle.jr_value.specs.declared.value.Property.{Property}
use Rattle.jr_rev.specs.declared.revision.Revision.{Revision}
use Rattle.jr_rev.specs.Revisions.{is_before, is_at_most}
use Rattle.jr_tree.specs.declared.edit.Write.{Write}
use Rattle.jr_tree.specs.Trees.{born_at, property_at}
use Rattle.jr_tree.specs.Items.{put_of, written}
use Rattle.oak_doc.specs.declared.document.Document.{Document}
use Rattle.oak_doc.specs.declared.document.PrevEntry.{PrevEntry}
use Rattle.oak_doc.specs.Updates.{of_revision, values_of_property}
use Rattle.oak_read.specs.Meaning.{Documents, commit_root_of}
use Rattle.oak_read.specs.Shown.{with_previous}
use Rattle.core_read.specs.Holds.{has_revision, root_entry}
use Rattle.core_read.specs.Told.{IsIn}
use Rattle.core_read.proofs.Steps.{same_root}
use Rattle.core_read.proofs.Latest.{at_most_trans, at_most_both, before_at_most, not_before, before_itself}
use Rattle.core_keep.specs.Standing.{all_at, gone_of, gone_in, values_in, shows_node, shows_value, HasEntryOf}
use Rattle.core_keep.specs.Keeps.{Course, edit_in, is_done, Keeps, KeepsAt, IsCourse, IsPrevious}
use Rattle.core_keep.specs.Steps.{IsMainAt, AreLeft, IsPruned}
use Rattle.core_keep.proofs.Item.{is_none, not_true, some_of, entry_done}
use Rattle.core_keep.proofs.ItemSteps.{item_left}
use Rattle.core_keep.proofs.Named.{previous_in}
use Rattle.core_keep.proofs.Found.{found_append}
use Rattle.core_keep.proofs.AtPath.{gone_entry, listed, gone_split, value_split, same_listed, still_said, step_keeps, plain_listed, value_from}
use Rattle.core_keep.proofs.Main.{all_now, gone_now, value_now, at_each}

-- before one that is before another
pub before_trans : (a b c : Revision) → is_before a b ≡ true → is_before b c ≡ true → is_before a c ≡ true
before_trans a b c h k = by (is_before a c) refl
  where
    by : (t : Bool) → is_before a c ≡ t → t ≡ true
    by true e = refl
    by false e =
        let back : is_at_most c b ≡ true = at_most_trans c a b (not_before a c e) (before_at_most a b h) in
        let one : b ≡ c = at_most_both b c (before_at_most b c k) back in
        absurd (false≢true (sym (before_itself b) ∙ subst (λ (z : Revision). is_before b z ≡ true) (sym one) k))

-- of what is filtered
pub in_filter : {A : Type 0} (keep : A → Bool) (es : List A) (x : A) → IsIn x (filter keep es) → IsIn x es
in_filter keep [] x i = i
in_filter keep (e ∷ es) x i =
    (elim (keep e) as (λ b. IsIn x (cond b (e ∷ filter keep es) (filter keep es)) → IsIn x (e ∷ es)) [
      | true ↦ λ j. elim j [ inl one ↦ inl one | inr k ↦ inr (in_filter keep es x k) ]
      | false ↦ λ j. inr (in_filter keep es x j)
    ]) i

or_left : {X : Type 0} (a b : Option X) → is_some a ≡ true → is_some (option_or a b) ≡ true
or_left None b h = absurd (false≢true h)
or_left (Some x) b h = refl

or_right : {X : Type 0} (a b : Option X) → is_some b ≡ true → is_some (option_or a b) ≡ true
or_right None b h = h
or_right (Some x) b h = refl

or_either : {X : Type 0} (a b : Option X) → is_some (option_or a b) ≡ true → (is_some a ≡ true) ⊎ (is_some b ≡ true)
or_either None b h = inr h
or_either (Some x) b h = inl refl

or_value : {X : Type 0} (a b : Option X) (x : X) → option_or a b ≡ Some x → (a ≡ Some x) ⊎ ((a ≡ None) × (b ≡ Some x))
or_value None b x h = inr (refl, h)
or_value (Some y) b x h = inl h

pub left_sub : {X : Type 0} (c : Course) (es left : List (Revision × X)) → AreLeft c es left → (q : Revision) (x : X) → of_revision left q ≡ Some x → of_revision es q ≡ Some x
left_sub c es left l q x h = elim (l.each q) [ inl same ↦ sym same ∙ h | inr gone ↦ absurd (false≢true (ap is_some (sym gone.0 ∙ h))) ]

-- the bound sees q, and a later one that stands in d
abbrev IsBehind : Course → Document → Name → Revision → Type 0
IsBehind c d n q = (c.bound q ≡ true) × ((r : Revision) × (is_before q r ≡ true) × (c.bound r ≡ true) × (is_some (of_revision (values_of_property d.props n) r) ≡ true))

module _ (ds now : Documents) (c : Course) (keeps : Keeps ds c) (course : IsCourse c) (p : Path) (old d : Document) (is : ds (id.Node p) ≡ Some old) (main : IsMainAt ds now p d) (pruned : IsPruned ds c p old d) where
  at : KeepsAt ds c p
  at = keeps p

  abbrev keep : PrevEntry → Bool
  keep = pruned.prev.0

  all_was : all_at ds p ≡ old ∷ listed ds p (Some old)
  all_was = ap (λ o. option_map_or (with_previous ds p) o []) is

  gone_was : (q : Revision) → of_revision (gone_in (all_at ds p)) q ≡ option_or (gone_entry (Some old) q) (of_revision (gone_in (listed ds p (Some old))) q)
  gone_was q = ap (λ l. of_revision (gone_in l) q) all_was ∙ gone_split ds p (Some old) q

  value_was : (n : Name) (q : Revision) → of_revision (values_in n (all_at ds p)) q ≡ option_or (of_revision (values_of_property old.props n) q) (of_revision (values_in n (listed ds p (Some old))) q)
  value_was n q = ap (λ l. of_revision (values_in n l) q) all_was ∙ value_split ds p (Some old) n q

  -- what is listed now was listed
  kept_list : listed now p (Some d) ≡ filter_map (λ e. ds (id.Prev e.number p)) (filter keep old.prev)
  kept_list = ap (λ es. filter_map (λ e. now (id.Prev e.number p)) es) pruned.prev.1 ∙ same_listed (λ e. now (id.Prev e.number p)) (λ e. ds (id.Prev e.number p)) _ (λ e i. main.previous_here e.number)

  in_old : (e : PrevEntry) → IsIn e d.prev → IsIn e old.prev
  in_old e i = in_filter keep old.prev e (subst (λ l. IsIn e l) pruned.prev.1 i)

  plain_old : (e : PrevEntry) → IsIn e old.prev → (x : Document) → ds (id.Prev e.number p) ≡ Some x → x.deleted ≡ []
  plain_old e i x h = (at.previous old is e i x h).plain

  gone_old : gone_in (listed ds p (Some old)) ≡ []
  gone_old = plain_listed ds c p old plain_old

  gone_new : gone_in (listed now p (Some d)) ≡ []
  gone_new = plain_listed now c p d (λ e i x h. plain_old e (in_old e i) x (sym (main.previous_here e.number) ∙ h))

  or_none : {X : Type 0} (o : Option X) → option_or o None ≡ o
  or_none None = refl
  or_none (Some x) = refl

  gone_main : (q : Revision) → of_revision (gone_in (all_at now p)) q ≡ of_revision d.deleted q
  gone_main q = gone_now ds now p d main q ∙ (ap (λ l. option_or (of_revision d.deleted q) (of_revision l q)) gone_new ∙ or_none (of_revision d.deleted q))

  gone_old_main : (q : Revision) → of_revision (gone_in (all_at ds p)) q ≡ of_revision old.deleted q
  gone_old_main q = gone_was q ∙ (ap (λ l. option_or (of_revision old.deleted q) (of_revision l q)) gone_old ∙ or_none (of_revision old.deleted q))

  -- ---- values of previous documents

  abbrev value_kept : Name → Revision → Option (Option Property)
  value_kept n q = of_revision (values_in n (listed now p (Some d))) q

  over_kept : (n : Name) (q : Revision) (es : List PrevEntry) → ((e : PrevEntry) → IsIn e es → keep e ≡ false → (x : Document) → ds (id.Prev e.number p) ≡ Some x → is_some (of_revision (values_of_property x.props n) q) ≡ true → IsBehind c d n q)
      → (of_revision (values_in n (filter_map (λ e. ds (id.Prev e.number p)) (filter keep es))) q ≡ of_revision (values_in n (filter_map (λ e. ds (id.Prev e.number p)) es)) q) ⊎ IsBehind c d n q
  over_kept n q [] dropped = inl refl
  over_kept n q (e ∷ es) dropped = by (over_kept n q es (λ f i. dropped f (inr i))) (keep e) refl (ds (id.Prev e.number p)) refl
    where
      all : List Document
      all = filter_map (λ e. ds (id.Prev e.number p)) es

      kept : List Document
      kept = filter_map (λ e. ds (id.Prev e.number p)) (filter keep es)

      G : List Document → List Document → Type 0
      G a b = (of_revision (values_in n a) q ≡ of_revision (values_in n b) q) ⊎ IsBehind c d n q

      went : (x : Document) → keep e ≡ false → ds (id.Prev e.number p) ≡ Some x → (o : Option (Option Property)) → of_revision (values_of_property x.props n) q ≡ o → of_revision (values_in n kept) q ≡ of_revision (values_in n all) q → G kept (x ∷ all)
      went x k h None m same = inl (same ∙ sym (found_append (values_of_property x.props n) (values_in n all) q ∙ ap (λ o. option_or o (of_revision (values_in n all) q)) m))
      went x k h (Some v) m same = inr (dropped e (inl refl) k x h (ap is_some m))

      by : G kept all → (b : Bool) → keep e ≡ b → (o : Option Document) → ds (id.Prev e.number p) ≡ o
          → G (filter_map (λ e. ds (id.Prev e.number p)) (cond b (e ∷ filter keep es) (filter keep es))) (cons_option o all)
      by (inr behind) b k o h = inr behind
      by (inl same) true k None h = inl (ap (λ o. of_revision (values_in n (cons_option o kept)) q) h ∙ same)
      by (inl same) true k (Some x) h = inl (ap (λ o. of_revision (values_in n (cons_option o kept)) q) h
          ∙ (found_append (values_of_property x.props n) (values_in n kept) q ∙ (ap (option_or (of_revision (values_of_property x.props n) q)) same ∙ sym (found_append (values_of_property x.props n) (values_in n all) q))))
      by (inl same) false k None h = inl same
      by (inl same) false k (Some x) h = went x k h (of_revision (values_of_property x.props n) q) refl same

  value_each : (n : Name) (q : Revision) → (value_kept n q ≡ of_revision (values_in n (listed ds p (Some old))) q) ⊎ IsBehind c d n q
  value_each n q = elim (over_kept n q old.prev (λ e i k x h m. pruned.prev.2 e i k x h n q m)) [ inl same ↦ inl (ap (λ l. of_revision (values_in n l) q) kept_list ∙ same) | inr behind ↦ inr behind ]

  -- what is found in those that are listed now was found
  kept_in : (es : List PrevEntry) (x : Document) → IsIn x (filter_map (λ e. ds (id.Prev e.number p)) (filter keep es)) → IsIn x (filter_map (λ e. ds (id.Prev e.number p)) es)
  kept_in [] x i = i
  kept_in (e ∷ es) x i = by (λ j. kept_in es x j) (keep e) (ds (id.Prev e.number p)) refl i
    where
      by : (IsIn x (filter_map (λ e. ds (id.Prev e.number p)) (filter keep es)) → IsIn x (filter_map (λ e. ds (id.Prev e.number p)) es)) → (b : Bool) (o : Option Document) → ds (id.Prev e.number p) ≡ o
          → IsIn x (filter_map (λ e. ds (id.Prev e.number p)) (cond b (e ∷ filter keep es) (filter keep es))) → IsIn x (cons_option o (filter_map (λ e. ds (id.Prev e.number p)) es))
      by rest false None h i = rest i
      by rest false (Some y) h i = inr (rest i)
      by rest true None h i = rest (subst (λ o. IsIn x (cons_option o (filter_map (λ e. ds (id.Prev e.number p)) (filter keep es)))) h i)
      by rest true (Some y) h i = elim (subst (λ o. IsIn x (cons_option o (filter_map (λ e. ds (id.Prev e.number p)) (filter keep es)))) h i) [ inl one ↦ inl one | inr j ↦ inr (rest j) ]

  listed_was : (x : Document) → IsIn x (listed now p (Some d)) → IsIn x (listed ds p (Some old))
  listed_was x i = kept_in old.prev x (subst (λ l. IsIn x l) kept_list i)

  among_some : (n : Name) (all : List Document) (x : Document) → IsIn x all → (q : Revision) → is_some (of_revision (values_of_property x.props n) q) ≡ true → is_some (of_revision (values_in n all) q) ≡ true
  among_some n all x i q h = Rattle.core_keep.proofs.Found.among (λ d. values_of_property d.props n) all x i q h

  -- ---- the items

  node : Rattle.core_keep.specs.Keeps.KeepsNode c p (gone_in (all_at now p))
  node = item_left (gone_of p) shows_node (born_at c.tree p) c (gone_in (all_at ds p)) _ at.node each sub
      (λ r ws x e h. at.node.genuine r ws x e (gone_old_main r ∙ left_sub c _ _ pruned.deleted r x (sym (gone_main r) ∙ h)))
    where
      each : (q : Revision) → (of_revision (gone_in (all_at now p)) q ≡ of_revision (gone_in (all_at ds p)) q) ⊎ ((c.bound q ≡ true) × ((r : Revision) × (is_before q r ≡ true) × (c.bound r ≡ true) × (is_some (of_revision (gone_in (all_at now p)) r) ≡ true)))
      each q = elim (pruned.deleted.each q) [
        | inl same ↦ inl (gone_main q ∙ (same ∙ sym (gone_old_main q)))
        | inr gone ↦ inr (gone.1, ((gone.2).0, (gone.2).1, (gone.2).2, ap is_some (gone_main (gone.2).0) ∙ (gone.2).3))
      ]

      sub : (q : Revision) → is_some (of_revision (gone_in (all_at now p)) q) ≡ true → is_some (of_revision (gone_in (all_at ds p)) q) ≡ true
      sub q h = let x = some_of (of_revision d.deleted q) (sym (ap is_some (gone_main q)) ∙ h) in ap is_some (gone_old_main q ∙ left_sub c _ _ pruned.deleted q x.0 x.1)

  pub prop_each : (n : Name) (q : Revision) → (of_revision (values_in n (all_at now p)) q ≡ of_revision (values_in n (all_at ds p)) q) ⊎ ((c.bound q ≡ true) × ((r : Revision) × (is_before q r ≡ true) × (c.bound r ≡ true) × (is_some (of_revision (values_in n (all_at now p)) r) ≡ true)))
  prop_each n q = by ((pruned.props n).each q) (value_each n q)
    where
      raised : (r : Revision) → is_some (of_revision (values_of_property d.props n) r) ≡ true → is_some (of_revision (values_in n (all_at now p)) r) ≡ true
      raised r h = ap is_some (value_now ds now p d main n r) ∙ or_left _ _ h

      by : (of_revision (values_of_property d.props n) q ≡ of_revision (values_of_property old.props n) q) ⊎ ((of_revision (values_of_property d.props n) q ≡ None) × (c.bound q ≡ true) × ((r : Revision) × (is_before q r ≡ true) × (c.bound r ≡ true) × (is_some (of_revision (values_of_property d.props n) r) ≡ true)))
          → (value_kept n q ≡ of_revision (values_in n (listed ds p (Some old))) q) ⊎ IsBehind c d n q
          → (of_revision (values_in n (all_at now p)) q ≡ of_revision (values_in n (all_at ds p)) q) ⊎ ((c.bound q ≡ true) × ((r : Revision) × (is_before q r ≡ true) × (c.bound r ≡ true) × (is_some (of_revision (values_in n (all_at now p)) r) ≡ true)))
      by (inl same) (inl also) = inl (value_now ds now p d main n q ∙ (ap (λ o. option_or o (value_kept n q)) same ∙ (ap (option_or (of_revision (values_of_property old.props n) q)) also ∙ sym (value_was n q))))
      by (inl same) (inr behind) = inr (behind.0, ((behind.1).0, (behind.1).1, (behind.1).2, raised (behind.1).0 (behind.1).3))
      by (inr gone) also = inr (gone.1, ((gone.2).0, (gone.2).1, (gone.2).2, raised (gone.2).0 (gone.2).3))

  prop_sub : (n : Name) (q : Revision) → is_some (of_revision (values_in n (all_at now p)) q) ≡ true → is_some (of_revision (values_in n (all_at ds p)) q) ≡ true
  prop_sub n q h = ap is_some (value_was n q) ∙ by (or_either _ _ (sym (ap is_some (value_now ds now p d main n q)) ∙ h))
    where
      by : (is_some (of_revision (values_of_property d.props n) q) ≡ true) ⊎ (is_some (value_kept n q) ≡ true) → is_some (option_or (of_revision (values_of_property old.props n) q) (of_revision (values_in n (listed ds p (Some old))) q)) ≡ true
      by (inl k) = let x = some_of (of_revision (values_of_property d.props n) q) k in or_left _ _ (ap is_some (left_sub c _ _ (pruned.props n) q x.0 x.1))
      by (inr k) =
          let x = some_of (value_kept n q) k in
          let f = value_from n (listed now p (Some d)) q x.0 x.1 in
          or_right (of_revision (values_of_property old.props n) q) _ (among_some n (listed ds p (Some old)) f.0 (listed_was f.0 f.1) q (ap is_some f.2))

  prop_genuine : (n : Name) (r : Revision) (ws : List Write) (v : Option Property) → edit_in c r ≡ Some ws → of_revision (values_in n (all_at now p)) r ≡ Some v → written (put_of p n) ws ≡ Some v
  prop_genuine n r ws v e h = by (or_value _ _ v (sym (value_now ds now p d main n r) ∙ h))
    where
      by : (of_revision (values_of_property d.props n) r ≡ Some v) ⊎ ((of_revision (values_of_property d.props n) r ≡ None) × (value_kept n r ≡ Some v)) → written (put_of p n) ws ≡ Some v
      by (inl k) = (at.prop n).genuine r ws v e (value_was n r ∙ ap (λ o. option_or o (of_revision (values_in n (listed ds p (Some old))) r)) (left_sub c _ _ (pruned.props n) r v k))
      by (inr k) =
          let f = value_from n (listed now p (Some d)) r v k.1 in
          let g = previous_in ds p old.prev f.0 (listed_was f.0 f.1) in
          (at.previous old is g.0 g.1 f.0 g.2).genuine n r ws v e f.2

  prop : (n : Name) → Rattle.core_keep.specs.Keeps.KeepsValue c p n (values_in n (all_at now p))
  prop n = item_left (put_of p n) shows_value (property_at c.tree p n) c (values_in n (all_at ds p)) _ (at.prop n) (prop_each n) (prop_sub n) (prop_genuine n)

  -- ---- statuses

  pub said : (x : Path) (r : Revision) (ws : List Write) → edit_in c r ≡ Some ws → c.swept r ≡ false → has_revision (ds (id.Node x)) r ≡ true → has_revision (now (id.Node x)) r ≡ true
  said x r ws e s = by x
    where
      by : (x : Path) → has_revision (ds (id.Node x)) r ≡ true → has_revision (now (id.Node x)) r ≡ true
      by = at_each ds now p d main (λ x o. has_revision (ds (id.Node x)) r ≡ true → has_revision o r ≡ true) (λ h. ap is_some (pruned.revisions.kept r s) ∙ (sym (ap (λ o. has_revision o r) is) ∙ h)) (λ x k h. h)

  entry_was : (r : Revision) → HasEntryOf r d → HasEntryOf r old
  entry_was r (inl h) = let x = some_of (of_revision d.deleted r) h in inl (ap is_some (left_sub c _ _ pruned.deleted r x.0 x.1))
  entry_was r (inr h) = let x = some_of (of_revision (values_of_property d.props h.0) r) h.1 in inr (h.0, ap is_some (left_sub c _ _ (pruned.props h.0) r x.0 x.1))

  rooted : (x : Document) → IsIn x (d ∷ listed now p (Some d)) → (r : Revision) (ws : List Write) → edit_in c r ≡ Some ws → c.swept r ≡ false → HasEntryOf r x → has_revision (now (commit_root_of x r)) r ≡ true
  rooted x (inr i) r ws e s entry =
      let j : IsIn x (all_at ds p) = subst (λ l. IsIn x l) (sym all_was) (inr (listed_was x i)) in
      still_said ds now c keeps said p x j r ws e s _ refl (at.rooted x j r ws e s entry)
  rooted x (inl one) r ws e s entry =
      let j : IsIn old (all_at ds p) = subst (λ l. IsIn old l) (sym all_was) (inl refl) in
      let root : commit_root_of d r ≡ commit_root_of old r = same_root old d p r (at.named old is) pruned.named (pruned.roots.kept r s) in
      subst (λ (y : Document). has_revision (now (commit_root_of y r)) r ≡ true) one
      (ap (λ i. has_revision (now i) r) root ∙ still_said ds now c keeps said p old j r ws e s _ refl (at.rooted old j r ws e s (entry_was r (subst (λ (y : Document). HasEntryOf r y) (sym one) entry))))

  -- ---- what is listed

  -- an entry of the document that a bound sees is done
  bound_done : (n : Name) (q : Revision) → c.bound q ≡ true → is_some (of_revision (values_of_property d.props n) q) ≡ true → is_done c q ≡ true
  bound_done n q b h =
      let x = some_of (of_revision (values_of_property d.props n) q) h in
      entry_done (put_of p n) shows_value (property_at c.tree p n) c course _ (at.prop n) q x.0
      (value_was n q ∙ ap (λ o. option_or o (of_revision (values_in n (listed ds p (Some old))) q)) (left_sub c _ _ (pruned.props n) q x.0 x.1))
      (λ f e. false≢true (sym (course.bound_done q f e) ∙ b))

  previous : (e : PrevEntry) → IsIn e d.prev → (x : Document) → now (id.Prev e.number p) ≡ Some x → IsPrevious c p d e.number x
  previous e i x there =
      let f = at.previous old is e (in_old e i) x (sym (main.previous_here e.number) ∙ there) in
      record {
        named = f.named;
        plain = f.plain;
        done = f.done;
        genuine = f.genuine;
        behind = λ n r h. let g = f.behind n r h in by n r g.0 g.1 g.2 g.3 ((pruned.props n).each g.0);
      }
    where
      by : (n : Name) (r q : Revision) → is_before r q ≡ true → is_done c q ≡ true → is_some (of_revision (values_of_property old.props n) q) ≡ true
          → (of_revision (values_of_property d.props n) q ≡ of_revision (values_of_property old.props n) q) ⊎ ((of_revision (values_of_property d.props n) q ≡ None) × (c.bound q ≡ true) × ((r : Revision) × (is_before q r ≡ true) × (c.bound r ≡ true) × (is_some (of_revision (values_of_property d.props n) r) ≡ true)))
          → (z : Revision) × (is_before r z ≡ true) × (is_done c z ≡ true) × (is_some (of_revision (values_of_property d.props n) z) ≡ true)
      by n r q before done h (inl same) = (q, before, done, ap is_some same ∙ h)
      by n r q before done h (inr gone) = ((gone.2).0, before_trans r q (gone.2).0 before (gone.2).1, bound_done n (gone.2).0 (gone.2).2 (gone.2).3, (gone.2).3)

  value_of : (o : Option Document) (x y : Document) → o ≡ Some x → o ≡ Some y → x ≡ y
  value_of o x y h k = ap (λ o. unwrap_or o x) (sym h ∙ k)

  here : KeepsAt now c p
  here = record {
    node = node;
    prop = prop;
    rooted = λ x i. rooted x (subst (λ l. IsIn x l) (all_now ds now p d main) i);
    unsaid = λ r e o. ap (λ o. has_revision o r) main.at ∙ not_true _ (λ h. false≢true (sym (at.unsaid r e o) ∙ (ap (λ o. has_revision o r) is ∙ pruned.revisions.sub r h)));
    no_root = λ r e o f. ap (λ o. root_entry o r) main.at ∙ is_none _ (λ x h. false≢true (sym (ap is_some (at.no_root r e o f)) ∙ (ap (λ o. is_some (root_entry o r)) is ∙ pruned.roots.sub r (ap is_some h))));
    named = λ x h. ap (λ (y : Document). y.id) (value_of _ x d h main.at) ∙ pruned.named;
    previous = λ x h. subst (λ (y : Document). (e : PrevEntry) → IsIn e y.prev → (z : Document) → now (id.Prev e.number p) ≡ Some z → IsPrevious c p y e.number z) (value_of _ d x main.at h) previous;
  }

  -- a document loses garbage entries, and lists no more what is garbage
  pub pruned_keeps : Keeps now c
  pruned_keeps = step_keeps ds now c keeps said p main.elsewhere here
