-- The changes of the new commits, grouped, are what the commits between two vectors change.
use Rattle.std.proofs.Common.{◌≡◌, ◌≢◌, ◌⊎◌, inl, inr, Bool, true, false, cond, not, ◌&&◌, Some, None, Option, List, [], ◌∷◌, map, fold, refl, sym, ap, ◌∙◌, subst, is_some}
use Rattle.std.specs.Prelude.{unwrap_or}
use Rattle.std.specs.Option.{option_map, option_or}
use Rattle.std.specs.declared.cmp.Ordering.{Ordering}
use Rattle.std.specs.declared.cmp.Ordering.TheVariants.{Less, Equal, Greater}
use Rattle.std.specs.Ordering.{eq_by_cmp, is_eq, ordering_then}
use Rattle.std.specs.FinMap.{is_sorted}
use Rattle.std.specs.FinMap.Entries.{below_all}
use Rattle.std.specs.List.{filter}
use Rattle.std.specs.Map.{lookup, values_of}
use Rattle.std.specs.BTreeMap.{insert_entry, is_at}
use Rattle.std.specs.Cmp.{tied_itself}
use mathlib.Core.Bool.{false≢true}
use Rattle.basics.proofs.Orders.{equal_of}
use Rattle.jr_path.proofs.Maps.{lookup-insert_entry, name_exact, path_exact}
use Rattle.jr_path.proofs.Orders.{item_exact, item_total}
use Rattle.jr_path.specs.Names.{name_cmp, path_cmp}
use Rattle.jr_path.specs.declared.path.Item.{Item}
use Rattle.jr_path.specs.declared.name.Name.{Name}
use Rattle.jr_path.specs.declared.path.Path.{Path}
use Rattle.jr_value.specs.declared.value.Property.{Property}
use Rattle.jr_rev.specs.declared.revision.Revision.{Revision}
use Rattle.jr_rev.specs.declared.vector.RevVec.{RevVec}
use Rattle.jr_rev.specs.Revisions.{revision_cmp}
use Rattle.jr_rev.specs.Vectors.{sees}
use Rattle.jr_rev.proofs.Order.{revision_total}
use Rattle.jr_tree.specs.declared.edit.Write.{Write}
use Rattle.jr_tree.specs.declared.edit.Write.TheVariants.{Here, Gone, Put, Unset}
use Rattle.jr_tree.specs.declared.shared.ItemChange.{ItemChange}
use Rattle.jr_tree.specs.Edits.{item_cmp, item_of}
use Rattle.jr_tree.specs.Items.{here_of, put_of, written}
use Rattle.jr_tree.specs.Trees.{node_at, Nodes, property_at}
use Rattle.oak_changes.specs.declared.said.Said.{Said}
use Rattle.oak_changes.specs.Saying.{changes_at, Grouped, grouped, with_said}
use Rattle.oak_doc.specs.Updates.{of_revision}
use Rattle.oak_machine.specs.Changed.{changes_between, item_change, tree_below}
use Rattle.oak_machine.specs.Commits.{committed_edits}
use Rattle.oak_machine.specs.History.{Past}
use Rattle.core_keep.proofs.Item.{and_both, not_true, some_of}
use Rattle.core_read.proofs.Entries.{both, first, same_lists, second, sorted_insert}
use Rattle.core_read.proofs.Falling.{committed_sorted}
use Rattle.core_read.proofs.Latest.{same_revision}
use Rattle.core_read.specs.Commits.{Commits}
use Rattle.core_begun.specs.Told.{edit_since}
use Rattle.core_read.specs.Told.{IsIn}
use Rattle.core_changes.proofs.Item.{filter_at}
use Rattle.core_changes.specs.Between.{change_of, is_new, IsChange}
use Rattle.core_changes.specs.Instants.{AreWriting}
use Rattle.core_changes.specs.Observing.{AreSaid}
use Rattle.oak_machine.specs.declared.event.Start.{Start}

-- ---- what an edit changes at an item

own_item : (i : Item) → eq_by_cmp item_cmp i i ≡ true
own_item i = ap is_eq (tied_itself item_total i)

own_revision : (r : Revision) → eq_by_cmp revision_cmp r r ≡ true
own_revision r = ap is_eq (tied_itself revision_total r)

then_equal : (o : Ordering) → is_eq (ordering_then o Equal) ≡ is_eq o
then_equal Less = refl
then_equal Equal = refl
then_equal Greater = refl

then_else : (o e : Ordering) → is_eq e ≡ false → is_eq (ordering_then o e) ≡ false
then_else Less e h = refl
then_else Equal e h = h
then_else Greater e h = refl

then_both : (o e : Ordering) → is_eq (ordering_then o e) ≡ (is_eq o && is_eq e)
then_both Less e = refl
then_both Equal e = refl
then_both Greater e = refl

module _ (t : Nodes) where
  abbrev step : List (Item × ItemChange) → Write → List (Item × ItemChange)
  step es w = insert_entry item_cmp es (item_of w) (item_change t w)

  abbrev of_item : List (Item × ItemChange) → Item → Option ItemChange
  of_item es i = lookup (is_at (item_cmp i)) es

  abbrev node_changed : Path → Bool → ItemChange
  node_changed p there = record { item = record { path = p; name = None }; before = is_some (node_at t p); after = there }

  abbrev property_changed : Path → Name → Option Property → ItemChange
  property_changed p n x = record { item = record { path = p; name = Some n }; before = is_some (property_at t p n); after = is_some x }

  -- one write
  one_node : (p : Path) (w : Write) → option_map (node_changed p) (here_of p w) ≡ cond (eq_by_cmp item_cmp (record { path = p; name = None }) (item_of w)) (Some (item_change t w)) None
  one_node p (Here q) = by (eq_by_cmp path_cmp p q) refl ∙ ap (λ b. cond b (Some (item_change t (Here q))) None) (sym (then_equal (path_cmp p q)))
    where
      by : (b : Bool) → eq_by_cmp path_cmp p q ≡ b → option_map (node_changed p) (cond b (Some true) None) ≡ cond b (Some (item_change t (Here q))) None
      by true h = ap (λ (z : Path). Some (node_changed z true)) (path_exact p q (equal_of (path_cmp p q) h))
      by false h = refl
  one_node p (Gone q) = by (eq_by_cmp path_cmp p q) refl ∙ ap (λ b. cond b (Some (item_change t (Gone q))) None) (sym (then_equal (path_cmp p q)))
    where
      by : (b : Bool) → eq_by_cmp path_cmp p q ≡ b → option_map (node_changed p) (cond b (Some false) None) ≡ cond b (Some (item_change t (Gone q))) None
      by true h = ap (λ (z : Path). Some (node_changed z false)) (path_exact p q (equal_of (path_cmp p q) h))
      by false h = refl
  one_node p (Put q m x) = ap (λ b. cond b (Some (item_change t (Put q m x))) None) (sym (then_else (path_cmp p q) Less refl))
  one_node p (Unset q m) = ap (λ b. cond b (Some (item_change t (Unset q m))) None) (sym (then_else (path_cmp p q) Less refl))

  one_property : (p : Path) (n : Name) (w : Write) → option_map (property_changed p n) (put_of p n w) ≡ cond (eq_by_cmp item_cmp (record { path = p; name = Some n }) (item_of w)) (Some (item_change t w)) None
  one_property p n (Here q) = ap (λ b. cond b (Some (item_change t (Here q))) None) (sym (then_else (path_cmp p q) Greater refl))
  one_property p n (Gone q) = ap (λ b. cond b (Some (item_change t (Gone q))) None) (sym (then_else (path_cmp p q) Greater refl))
  one_property p n (Put q m x) = by (eq_by_cmp path_cmp p q) refl (eq_by_cmp name_cmp n m) refl ∙ ap (λ b. cond b (Some (item_change t (Put q m x))) None) (sym (then_both (path_cmp p q) (name_cmp n m)))
    where
      by : (b : Bool) → eq_by_cmp path_cmp p q ≡ b → (d : Bool) → eq_by_cmp name_cmp n m ≡ d → option_map (property_changed p n) (cond (b && d) (Some (Some x)) None) ≡ cond (b && d) (Some (item_change t (Put q m x))) None
      by true h true k = λ i. Some (property_changed (path_exact p q (equal_of (path_cmp p q) h) i) (name_exact n m (equal_of (name_cmp n m) k) i) (Some x))
      by true h false k = refl
      by false h d k = refl
  one_property p n (Unset q m) = by (eq_by_cmp path_cmp p q) refl (eq_by_cmp name_cmp n m) refl ∙ ap (λ b. cond b (Some (item_change t (Unset q m))) None) (sym (then_both (path_cmp p q) (name_cmp n m)))
    where
      by : (b : Bool) → eq_by_cmp path_cmp p q ≡ b → (d : Bool) → eq_by_cmp name_cmp n m ≡ d → option_map (property_changed p n) (cond (b && d) (Some None) None) ≡ cond (b && d) (Some (item_change t (Unset q m))) None
      by true h true k = λ i. Some (property_changed (path_exact p q (equal_of (path_cmp p q) h) i) (name_exact n m (equal_of (name_cmp n m) k) i) None)
      by true h false k = refl
      by false h d k = refl

  module _ {X : Type 0} (f : Write → Option X) (g : X → ItemChange) (i : Item) (one : (w : Write) → option_map g (f w) ≡ cond (eq_by_cmp item_cmp i (item_of w)) (Some (item_change t w)) None) where
    all_writes : (ws : List Write) (es : List (Item × ItemChange)) → of_item (fold step es ws) i ≡ option_or (option_map g (written f ws)) (of_item es i)
    all_writes [] es = refl
    all_writes (w ∷ ws) es =
        all_writes ws (step es w)
        ∙ (ap (option_or (option_map g (written f ws))) (lookup-insert_entry item_cmp item_total i (item_of w) (item_change t w) es)
        ∙ by (written f ws))
      where
        here : (b : Bool) → option_map g (f w) ≡ cond b (Some (item_change t w)) None → cond b (Some (item_change t w)) (of_item es i) ≡ option_or (option_map g (f w)) (of_item es i)
        here true h = sym (ap (λ o. option_or o (of_item es i)) h)
        here false h = sym (ap (λ o. option_or o (of_item es i)) h)

        by : (o : Option X) → option_or (option_map g o) (cond (eq_by_cmp item_cmp i (item_of w)) (Some (item_change t w)) (of_item es i)) ≡ option_or (option_map g (option_or o (f w))) (of_item es i)
        by None = here (eq_by_cmp item_cmp i (item_of w)) (one w)
        by (Some x) = refl

  alone : {X : Type 0} (o : Option X) → option_or o None ≡ o
  alone None = refl
  alone (Some x) = refl

  -- the change of an item among those of an edit
  pub edit_change : (ws : List Write) (i : Item) → of_item (fold step [] ws) i ≡ change_of t ws i
  edit_change ws i = by i.name refl
    where
      item_is : (o : Option Name) → i.name ≡ o → i ≡ record { path = i.path; name = o }
      item_is o h = λ j. record { path = i.path; name = h j }

      by : (o : Option Name) → i.name ≡ o → of_item (fold step [] ws) i ≡ change_of t ws i
      by None h = subst (λ (z : Item). of_item (fold step [] ws) z ≡ change_of t ws z) (sym (item_is None h))
          (all_writes (here_of i.path) (node_changed i.path) (record { path = i.path; name = None }) (one_node i.path) ws [] ∙ alone _)
      by (Some n) h = subst (λ (z : Item). of_item (fold step [] ws) z ≡ change_of t ws z) (sym (item_is (Some n) h))
          (all_writes (put_of i.path n) (property_changed i.path n) (record { path = i.path; name = Some n }) (one_property i.path n) ws [] ∙ alone _)

  -- an edit that writes something changes some item
  some_change : (ws : List Write) → ws ≢ [] → (i : Item) × (c : ItemChange) × (change_of t ws i ≡ Some c)
  some_change [] h = absurd (h refl)
  some_change (w ∷ ws) h = let c = some_of (of_item (fold step [] (w ∷ ws)) (item_of w)) (there ws (step [] w) (ap is_some (lookup-insert_entry item_cmp item_total (item_of w) (item_of w) (item_change t w) []) ∙ ap (λ b. is_some (cond b (Some (item_change t w)) None)) (own_item (item_of w)))) in (item_of w, c.0, sym (edit_change (w ∷ ws) (item_of w)) ∙ c.1)
    where
      there : (vs : List Write) (es : List (Item × ItemChange)) → is_some (of_item es (item_of w)) ≡ true → is_some (of_item (fold step es vs) (item_of w)) ≡ true
      there [] es k = k
      there (v ∷ vs) es k = there vs (step es v) (ap is_some (lookup-insert_entry item_cmp item_total (item_of w) (item_of v) (item_change t v) es) ∙ at (eq_by_cmp item_cmp (item_of w) (item_of v)))
        where
          at : (b : Bool) → is_some (cond b (Some (item_change t v)) (of_item es (item_of w))) ≡ true
          at true = refl
          at false = k

  -- the change of an item is one of that item
  change_item : (ws : List Write) (i : Item) (c : ItemChange) → change_of t ws i ≡ Some c → c.item ≡ i
  change_item ws i c h = by i.name refl
    where
      value : (x y : ItemChange) → Some x ≡ Some y → x ≡ y
      value x y h = ap (λ o. unwrap_or o x) h

      item_is : (o : Option Name) → i.name ≡ o → i ≡ record { path = i.path; name = o }
      item_is o h = λ j. record { path = i.path; name = h j }

      at : {X : Type 0} (g : X → ItemChange) (z : Item) → ((x : X) → (g x).item ≡ z) → (o : Option X) → option_map g o ≡ Some c → c.item ≡ z
      at g z own None h = absurd (false≢true (ap is_some h))
      at g z own (Some x) h = ap (λ (z : ItemChange). z.item) (sym (value (g x) c h)) ∙ own x

      by : (o : Option Name) → i.name ≡ o → c.item ≡ i
      by None e = at (node_changed i.path) (record { path = i.path; name = None }) (λ x. refl) (written (here_of i.path) ws) (ap (change_of t ws) (sym (item_is None e)) ∙ h) ∙ sym (item_is None e)
      by (Some n) e = at (property_changed i.path n) (record { path = i.path; name = Some n }) (λ x. refl) (written (put_of i.path n) ws) (ap (change_of t ws) (sym (item_is (Some n) e)) ∙ h) ∙ sym (item_is (Some n) e)

  edit_sorted : (ws : List Write) (es : List (Item × ItemChange)) → is_sorted item_cmp es ≡ true → is_sorted item_cmp (fold step es ws) ≡ true
  edit_sorted [] es s = s
  edit_sorted (w ∷ ws) es s = edit_sorted ws (step es w) (sorted_insert item_cmp item_total (item_of w) (item_change t w) es s)

-- ---- groups

abbrev at_revision : Grouped → Revision → Option (List (Item × ItemChange))
at_revision g r = lookup (is_at (revision_cmp r)) g

abbrev at_item : Grouped → Revision → Item → Option ItemChange
at_item g r i = lookup (is_at (item_cmp i)) (changes_at g r)

group_with : (g : Grouped) (s : Said) (r : Revision) → at_revision (with_said g s) r ≡ cond (eq_by_cmp revision_cmp r s.revision) (Some (insert_entry item_cmp (changes_at g s.revision) s.change.item s.change)) (at_revision g r)
group_with g s r = lookup-insert_entry revision_cmp revision_total r s.revision (insert_entry item_cmp (changes_at g s.revision) s.change.item s.change) g

item_with : (g : Grouped) (s : Said) (r : Revision) (i : Item) → at_item (with_said g s) r i ≡ cond (eq_by_cmp revision_cmp r s.revision) (cond (eq_by_cmp item_cmp i s.change.item) (Some s.change) (at_item g s.revision i)) (at_item g r i)
item_with g s r i = ap (λ o. lookup (is_at (item_cmp i)) (unwrap_or o [])) (group_with g s r) ∙ by (eq_by_cmp revision_cmp r s.revision)
  where
    by : (b : Bool) → lookup (is_at (item_cmp i)) (unwrap_or (cond b (Some (insert_entry item_cmp (changes_at g s.revision) s.change.item s.change)) (at_revision g r)) []) ≡ cond b (cond (eq_by_cmp item_cmp i s.change.item) (Some s.change) (at_item g s.revision i)) (at_item g r i)
    by true = lookup-insert_entry item_cmp item_total i s.change.item s.change (changes_at g s.revision)
    by false = refl

-- in order, with each group in order
pub record AreInOrder (g : Grouped) : Type 0 where
  pub rising : is_sorted revision_cmp g ≡ true
  pub each : (r : Revision) → is_sorted item_cmp (changes_at g r) ≡ true

one_in_order : (g : Grouped) (s : Said) → AreInOrder g → AreInOrder (with_said g s)
one_in_order g s order = record {
  rising = sorted_insert revision_cmp revision_total s.revision _ g order.rising;
  each = λ r. ap (λ o. is_sorted item_cmp (unwrap_or o [])) (group_with g s r) ∙ by r (eq_by_cmp revision_cmp r s.revision);
}
  where
    by : (r : Revision) (b : Bool) → is_sorted item_cmp (unwrap_or (cond b (Some (insert_entry item_cmp (changes_at g s.revision) s.change.item s.change)) (at_revision g r)) []) ≡ true
    by r true = sorted_insert item_cmp item_total s.change.item s.change (changes_at g s.revision) (order.each s.revision)
    by r false = order.each r

all_in_order : (said : List Said) (g : Grouped) → AreInOrder g → AreInOrder (fold with_said g said)
all_in_order [] g order = order
all_in_order (s ∷ said) g order = all_in_order said (with_said g s) (one_in_order g s order)

-- an item that is found stays found
still_found : (said : List Said) (g : Grouped) (r : Revision) (i : Item) → is_some (at_item g r i) ≡ true → is_some (at_item (fold with_said g said) r i) ≡ true
still_found [] g r i h = h
still_found (s ∷ said) g r i h = still_found said (with_said g s) r i (ap is_some (item_with g s r i) ∙ by (eq_by_cmp revision_cmp r s.revision) refl (eq_by_cmp item_cmp i s.change.item))
  where
    by : (b : Bool) → eq_by_cmp revision_cmp r s.revision ≡ b → (d : Bool) → is_some (cond b (cond d (Some s.change) (at_item g s.revision i)) (at_item g r i)) ≡ true
    by true k true = refl
    by true k false = subst (λ (z : Revision). is_some (at_item g z i) ≡ true) (same_revision r s.revision k) h
    by false k d = h

each_found : (said : List Said) (g : Grouped) (s : Said) → IsIn s said → is_some (at_item (fold with_said g said) s.revision s.change.item) ≡ true
each_found [] g s i = absurd i
each_found (z ∷ said) g s (inl one) = still_found said (with_said g z) s.revision s.change.item (subst (λ (w : Said). is_some (at_item (with_said g z) w.revision w.change.item) ≡ true) one
    (ap is_some (item_with g z z.revision z.change.item) ∙ (ap (λ b. is_some (cond b (cond (eq_by_cmp item_cmp z.change.item z.change.item) (Some z.change) (at_item g z.revision z.change.item)) (at_item g z.revision z.change.item))) (own_revision z.revision)
    ∙ ap (λ b. is_some (cond b (Some z.change) (at_item g z.revision z.change.item))) (own_item z.change.item))))
each_found (z ∷ said) g s (inr i) = each_found said (with_said g z) s i

-- what is found was said, or was there
was_said : (said : List Said) (g : Grouped) (r : Revision) (i : Item) (c : ItemChange) → at_item (fold with_said g said) r i ≡ Some c → (at_item g r i ≡ Some c) ⊎ ((s : Said) × IsIn s said × (s.revision ≡ r) × (s.change.item ≡ i) × (s.change ≡ c))
was_said [] g r i c h = inl h
was_said (z ∷ said) g r i c h = elim (was_said said (with_said g z) r i c h) [
  | inl k ↦ by (eq_by_cmp revision_cmp r z.revision) refl (eq_by_cmp item_cmp i z.change.item) refl (sym (item_with g z r i) ∙ k)
  | inr k ↦ inr (k.0, inr k.1, k.2, k.3, k.4)
]
  where
    value : (x y : ItemChange) → Some x ≡ Some y → x ≡ y
    value x y h = ap (λ o. unwrap_or o x) h

    by : (b : Bool) → eq_by_cmp revision_cmp r z.revision ≡ b → (d : Bool) → eq_by_cmp item_cmp i z.change.item ≡ d → cond b (cond d (Some z.change) (at_item g z.revision i)) (at_item g r i) ≡ Some c → (at_item g r i ≡ Some c) ⊎ ((s : Said) × IsIn s (z ∷ said) × (s.revision ≡ r) × (s.change.item ≡ i) × (s.change ≡ c))
    by true k true l h = inr (z, inl refl, sym (same_revision r z.revision k), sym (item_exact i z.change.item (equal_of (item_cmp i z.change.item) l)), value z.change c h)
    by true k false l h = inl (subst (λ (w : Revision). at_item g w i ≡ Some c) (sym (same_revision r z.revision k)) h)
    by false k d l h = inl h

-- a group that is there is of something said
group_said : (said : List Said) (g : Grouped) (r : Revision) → is_some (at_revision (fold with_said g said) r) ≡ true → (is_some (at_revision g r) ≡ true) ⊎ ((s : Said) × IsIn s said × (s.revision ≡ r))
group_said [] g r h = inl h
group_said (z ∷ said) g r h = elim (group_said said (with_said g z) r h) [
  | inl k ↦ by (eq_by_cmp revision_cmp r z.revision) refl (sym (ap is_some (group_with g z r)) ∙ k)
  | inr k ↦ inr (k.0, inr k.1, k.2)
]
  where
    by : (b : Bool) → eq_by_cmp revision_cmp r z.revision ≡ b → is_some (cond b (Some (insert_entry item_cmp (changes_at g z.revision) z.change.item z.change)) (at_revision g r)) ≡ true → (is_some (at_revision g r) ≡ true) ⊎ ((s : Said) × IsIn s (z ∷ said) × (s.revision ≡ r))
    by true k h = inr (z, inl refl, sym (same_revision r z.revision k))
    by false k h = inl h

-- ---- the commits, each with the changes of its edit

module _ {X Y : Type 0} (h : Revision → X → Y) where
  mapped_at : (es : List (Revision × X)) (r : Revision) → of_revision (map (λ e. (e.0, h e.0 e.1)) es) r ≡ option_map (h r) (of_revision es r)
  mapped_at [] r = refl
  mapped_at (e ∷ es) r = by (eq_by_cmp revision_cmp r e.0) refl (mapped_at es r)
    where
      by : (b : Bool) → eq_by_cmp revision_cmp r e.0 ≡ b → of_revision (map (λ e. (e.0, h e.0 e.1)) es) r ≡ option_map (h r) (of_revision es r)
          → cond b (Some (h e.0 e.1)) (of_revision (map (λ e. (e.0, h e.0 e.1)) es) r) ≡ option_map (h r) (cond b (Some e.1) (of_revision es r))
      by true k rest = ap (λ (z : Revision). Some (h z e.1)) (sym (same_revision r e.0 k))
      by false k rest = rest

  below_mapped : (x : Revision) (es : List (Revision × X)) → below_all revision_cmp x es ≡ true → below_all revision_cmp x (map (λ e. (e.0, h e.0 e.1)) es) ≡ true
  below_mapped x [] s = refl
  below_mapped x (e ∷ es) s = both _ _ (first _ _ s) (below_mapped x es (second _ _ s))

  sorted_mapped : (es : List (Revision × X)) → is_sorted revision_cmp es ≡ true → is_sorted revision_cmp (map (λ e. (e.0, h e.0 e.1)) es) ≡ true
  sorted_mapped [] s = refl
  sorted_mapped (e ∷ es) s = both _ _ (below_mapped e.0 es (first _ _ s)) (sorted_mapped es (second _ _ s))

module _ {X : Type 0} (test : Revision → Bool) where
  below_kept : (x : Revision) (es : List (Revision × X)) → below_all revision_cmp x es ≡ true → below_all revision_cmp x (filter (λ e. test e.0) es) ≡ true
  below_kept x [] s = refl
  below_kept x (e ∷ es) s = by (test e.0) (below_kept x es (second _ _ s))
    where
      by : (b : Bool) → below_all revision_cmp x (filter (λ e. test e.0) es) ≡ true → below_all revision_cmp x (cond b (e ∷ filter (λ e. test e.0) es) (filter (λ e. test e.0) es)) ≡ true
      by true rest = both _ _ (first _ _ s) rest
      by false rest = rest

  pub sorted_kept : (es : List (Revision × X)) → is_sorted revision_cmp es ≡ true → is_sorted revision_cmp (filter (λ e. test e.0) es) ≡ true
  sorted_kept [] s = refl
  sorted_kept (e ∷ es) s = by (test e.0) (sorted_kept es (second _ _ s))
    where
      by : (b : Bool) → is_sorted revision_cmp (filter (λ e. test e.0) es) ≡ true → is_sorted revision_cmp (cond b (e ∷ filter (λ e. test e.0) es) (filter (λ e. test e.0) es)) ≡ true
      by true rest = both _ _ (below_kept e.0 es (first _ _ s)) rest
      by false rest = rest

  -- what is found among those that pass
  pub kept_at : (es : List (Revision × X)) (r : Revision) → of_revision (filter (λ e. test e.0) es) r ≡ cond (test r) (of_revision es r) None
  kept_at = filter_at (λ x. true) test

map_twice : {X Y Z : Type 0} (f : X → Y) (g : Y → Z) (xs : List X) → map g (map f xs) ≡ map (λ x. g (f x)) xs
map_twice f g [] = refl
map_twice f g (x ∷ xs) = ap (λ ys. g (f x) ∷ ys) (map_twice f g xs)

module _ (start : Start) (past : Past) (from to : RevVec) where
  pub committed_is : (r : Revision) → is_new from to r ≡ true → edit_since past r ≡ of_revision (committed_edits past) r
  committed_is r new = refl

  module _ (writing : AreWriting past from to) (said : List Said) (are : AreSaid start past from to (λ p. true) said) where
    abbrev groups : Grouped
    groups = fold with_said [] said

    abbrev tree : Revision → Nodes
    tree r = tree_below (Some start) past to r

    abbrev changed : Revision → List Write → List (Item × ItemChange)
    changed r ws = fold (step (tree r)) [] ws

    abbrev commits : Commits
    commits = filter (λ e. is_new from to e.0) (committed_edits past)

    abbrev all_changed : Grouped
    all_changed = map (λ e. (e.0, changed e.0 e.1)) commits

    in_order : AreInOrder groups
    in_order = all_in_order said [] (record { rising = refl; each = λ r. refl })

    changed_at : (r : Revision) → at_revision all_changed r ≡ option_map (changed r) (cond (is_new from to r) (of_revision (committed_edits past) r) None)
    changed_at r = mapped_at changed commits r ∙ ap (option_map (changed r)) (kept_at (is_new from to) (committed_edits past) r)

    -- each change of a new commit is found, and nothing else
    found_all : (r : Revision) (ws : List Write) → edit_since past r ≡ Some ws → is_new from to r ≡ true → (i : Item) → at_item groups r i ≡ change_of (tree r) ws i
    found_all r ws is new i = by (at_item groups r i) refl
      where
        value : (x y : List Write) → Some x ≡ Some y → x ≡ y
        value x y h = ap (λ o. unwrap_or o x) h

        none : (o : Option ItemChange) → change_of (tree r) ws i ≡ o → at_item groups r i ≡ None → None ≡ o
        none None e h = refl
        none (Some c) e h =
            let own : c.item ≡ i = change_item (tree r) ws i c e in
            let s : Said = record { revision = r; change = c } in
            let member : IsIn (record { revision = r; change = c }) said = are.all (record { revision = r; change = c }) (record { edit = ws; is_edit = is; new = new; change = ap (change_of (tree r) ws) own ∙ e }) refl in
            absurd (false≢true (sym (ap is_some h) ∙ subst (λ (z : Item). is_some (at_item groups r z) ≡ true) own (each_found said [] (record { revision = r; change = c }) member)))

        by : (o : Option ItemChange) → at_item groups r i ≡ o → at_item groups r i ≡ change_of (tree r) ws i
        by None h = h ∙ none (change_of (tree r) ws i) refl h
        by (Some c) h = elim (was_said said [] r i c h) [
          | inl k ↦ absurd (false≢true (ap is_some k))
          | inr k ↦ h ∙ sym (its k.0 (are.each k.0 k.1).0 k.2 k.3 k.4)
        ]
          where
            its : (s : Said) → IsChange start past from to s → s.revision ≡ r → s.change.item ≡ i → s.change ≡ c → change_of (tree r) ws i ≡ Some c
            its s change rev item same =
                let edit : change.edit ≡ ws = value change.edit ws (sym change.is_edit ∙ (ap (edit_since past) rev ∙ is)) in
                sym (λ j. change_of (tree (rev j)) (edit j) (item j)) ∙ (change.change ∙ ap Some same)

    each_group : (r : Revision) → at_revision groups r ≡ at_revision all_changed r
    each_group r = by (is_new from to r) refl (of_revision (committed_edits past) r) refl ∙ sym (changed_at r)
      where
        nothing : ((s : Said) → IsChange start past from to s → s.revision ≡ r → ⊥) → at_revision groups r ≡ None
        nothing never = at (at_revision groups r) refl
          where
            at : (o : Option (List (Item × ItemChange))) → at_revision groups r ≡ o → at_revision groups r ≡ None
            at None h = h
            at (Some m) h = elim (group_said said [] r (ap is_some h)) [
              | inl k ↦ absurd (false≢true k)
              | inr k ↦ absurd (never k.0 (are.each k.0 k.1).0 k.2)
            ]

        whole : (ws : List Write) → edit_since past r ≡ Some ws → is_new from to r ≡ true → at_revision groups r ≡ Some (changed r ws)
        whole ws is new =
            let first_change = some_change (tree r) ws (writing r ws is new) in
            at first_change.1 first_change.0 (at_revision groups r) refl (found_all r ws is new first_change.0 ∙ first_change.2)
          where
            at : (c : ItemChange) (i : Item) (o : Option (List (Item × ItemChange))) → at_revision groups r ≡ o → at_item groups r i ≡ Some c → o ≡ Some (changed r ws)
            at c i None h k = absurd (false≢true (ap is_some (sym (ap (λ o. lookup (is_at (item_cmp i)) (unwrap_or o [])) h) ∙ k)))
            at c i (Some m) h k = ap Some (same_lists item_cmp item_total (λ x y e. item_exact x y e) m (changed r ws)
                (ap (λ o. is_sorted item_cmp (unwrap_or o [])) (sym h) ∙ in_order.each r) (edit_sorted (tree r) ws [] refl)
                (λ i. ap (λ o. lookup (is_at (item_cmp i)) (unwrap_or o [])) (sym h) ∙ (found_all r ws is new i ∙ sym (edit_change (tree r) ws i))))

        by : (b : Bool) → is_new from to r ≡ b → (o : Option (List Write)) → of_revision (committed_edits past) r ≡ o → at_revision groups r ≡ option_map (changed r) (cond b o None)
        by true new (Some ws) e = whole ws (committed_is r new ∙ e) new
        by true new None e = nothing (λ s c same. false≢true (sym (ap is_some (committed_is r new ∙ e)) ∙ ap is_some (ap (edit_since past) (sym same) ∙ c.is_edit)))
        by false new o e = nothing (λ s c same. false≢true (sym new ∙ (ap (is_new from to) (sym same) ∙ c.new)))

    groups_are : groups ≡ all_changed
    groups_are = same_lists revision_cmp revision_total (λ x y h. same_revision x y (ap is_eq h)) groups all_changed in_order.rising (sorted_mapped changed commits (sorted_kept (is_new from to) (committed_edits past) (committed_sorted past))) each_group

    pub grouped_is : grouped said ≡ changes_between (Some start) past from to
    grouped_is = ap (map (λ e. record { revision = e.0; changes = values_of e.1 })) groups_are ∙ map_twice (λ e. (e.0, changed e.0 e.1)) (λ e. record { revision = e.0; changes = values_of e.1 }) commits
