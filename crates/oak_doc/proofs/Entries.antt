-- Entries of a map in the order of their keys, and the values of properties.
use Rattle.std.proofs.Common.{◌≡◌, Bool, true, false, cond, not, nat_eq, List, [], ◌∷◌, length, refl, sym, ap, ◌∙◌, Option, Some, None, filter, map, arith}
use Rattle.std.proofs.lemmas.Bool.Decides.{nat_tests}
use Rattle.std.proofs.lemmas.Cmp.{nat_list_cmp_total}
use Rattle.std.proofs.lemmas.Map.{NonePasses, lookup-none, none_passes_from_lookup}
use Rattle.std.proofs.lemmas.Map.Keys.{sorted_tail}
use Rattle.std.proofs.lemmas.Map.Entries.{none_below_head}
use Rattle.std.specs.declared.cmp.Ordering.{Ordering}
use Rattle.std.specs.declared.cmp.Ordering.TheVariants.{Less, Equal, Greater}
use Rattle.std.specs.Cmp.{IsTotalOrder}
use Rattle.std.specs.List.Sorted.{IsStrictlySortedBy}
use Rattle.std.specs.Map.{keys_of, lookup, set_value, remove_entry}
use Rattle.std.specs.Map.Calls.{RetainsPairs}
use Rattle.std.specs.Ordering.{match_ordering}
use Rattle.std.specs.BTreeMap.{insert_entry, is_at}
use Rattle.jr_path.specs.Names.{name_cmp}
use Rattle.jr_path.specs.declared.name.Name.{Name}
use Rattle.jr_rev.specs.declared.revision.Revision.{Revision}
use Rattle.jr_rev.specs.Revisions.{revision_cmp}
use Rattle.jr_value.specs.declared.value.Property.{Property}
use Rattle.oak_doc.specs.Updates.{Props, with_values, with_revision, without_revision, values_of_property}

module _ {K X : Type 0} (cmp : K → K → Ordering) (o : IsTotalOrder cmp) where
  set_step : (e : K × X) (es : List (K × X)) (q : K) (v w : X) → IsStrictlySortedBy cmp (keys_of (e ∷ es)) → lookup (is_at (cmp q)) (e ∷ es) ≡ Some v → (lookup (is_at (cmp q)) es ≡ Some v → set_value (is_at (cmp q)) es w ≡ insert_entry cmp es q w) → (r : Ordering) → cmp q e.0 ≡ r → set_value (is_at (cmp q)) (e ∷ es) w ≡ insert_entry cmp (e ∷ es) q w
  set_step e es q v w sorted there rest Less is = let none = lookup-none (is_at (cmp q)) (e ∷ es) (none_below_head o q e es sorted is) in cc
  set_step e es q v w sorted there rest Equal is = rw is refl
  set_step e es q v w sorted there rest Greater is = rw is (ap (λ xs. e ∷ xs) (rest (rw is at there)))

  -- a value that is set at a key which is there is put there
  pub set_is_insert : (es : List (K × X)) (q : K) (v w : X) → IsStrictlySortedBy cmp (keys_of es) → lookup (is_at (cmp q)) es ≡ Some v → set_value (is_at (cmp q)) es w ≡ insert_entry cmp es q w
  set_is_insert [] q v w sorted there = cc
  set_is_insert (e ∷ es) q v w sorted there =
      set_step e es q v w sorted there (set_is_insert es q v w (sorted_tail cmp e.0 (keys_of es) sorted)) (cmp q e.0) refl

module _ {K X : Type 0} (test : K → Bool) where
  -- nothing is removed where no key passes
  pub remove-none : (es : List (K × X)) → NonePasses test es → remove_entry test es ≡ es
  remove-none [] h = refl
  remove-none (e ∷ es) h = rw h.0 (ap (λ xs. e ∷ xs) (remove-none es h.1))

  -- what is removed may be set before
  pub remove-set_value : (es : List (K × X)) (w : X) → remove_entry test (set_value test es w) ≡ remove_entry test es
  remove-set_value [] w = refl
  remove-set_value (e ∷ es) w = by (test e.0) refl (remove-set_value es w)
    where
      by : (b : Bool) → test e.0 ≡ b → remove_entry test (set_value test es w) ≡ remove_entry test es → remove_entry test (cond b ((e.0, w) ∷ es) (e ∷ set_value test es w)) ≡ cond b es (e ∷ remove_entry test es)
      by true at rest = rw at refl
      by false at rest = rw at (ap (λ xs. e ∷ xs) rest)

-- what a closure that changes each value and keeps some leaves
pub kept_values : {F K X : Type 0} (T : F → K → X → Bool → X → F → Type 0) (f : F) (step : X → X) (test : X → Bool) → ((k : K) (v : X) (b : Bool) (w : X) (f' : F) → T f k v b w f' → (b ≡ test (step v)) × (w ≡ step v) × (f' ≡ f)) → (es kept : List (K × X)) → RetainsPairs T f es kept → kept ≡ filter (λ e. test e.1) (map (λ e. (e.0, step e.1)) es)
kept_values T f step test says [] kept h = h
kept_values {F} {K} {X} T f step test says (e ∷ es) kept h =
    let s = says e.0 e.1 h.0 h.1 h.2 h.4 in
    let rest = kept_values T f step test says es h.3 (rw s.2 at h.5) in
    rw (h.6, s.0, s.1, rest) refl

-- a property with a value that is put has a value
pub with_values-put : (ps : Props) (n : Name) (es : List (Revision × Option Property)) (r : Revision) (x : Option Property) → with_values ps n (insert_entry revision_cmp es r x) ≡ insert_entry name_cmp ps n (insert_entry revision_cmp es r x)
with_values-put ps n [] r x = refl
with_values-put ps n (e ∷ es) r x = by (revision_cmp r e.0)
  where
    by : (o : Ordering) → with_values ps n (match_ordering o ((r, x) ∷ e ∷ es) ((e.0, x) ∷ es) (e ∷ insert_entry revision_cmp es r x)) ≡ insert_entry name_cmp ps n (match_ordering o ((r, x) ∷ e ∷ es) ((e.0, x) ∷ es) (e ∷ insert_entry revision_cmp es r x))
    by Less = refl
    by Equal = refl
    by Greater = refl

with_values-some : (ps : Props) (n : Name) (es : List (Revision × Option Property)) → not (nat_eq (length es) 0) ≡ true → with_values ps n es ≡ insert_entry name_cmp ps n es
with_values-some ps n [] h = cc
with_values-some ps n (e ∷ es) h = refl

none_left : (es : List (Revision × Option Property)) → not (nat_eq (length es) 0) ≡ false → es ≡ []
none_left [] h = refl
none_left (e ∷ es) h = grind (arith, nat_tests)

-- a value that is put at a property that is there
pub put_at_value : (ps : Props) (n : Name) (r : Revision) (x : Option Property) (values new : List (Revision × Option Property)) (after : Props) → IsStrictlySortedBy name_cmp (keys_of ps) → lookup (is_at (name_cmp n)) ps ≡ Some values → new ≡ with_revision values r x → after ≡ set_value (is_at (name_cmp n)) ps new → after ≡ with_values ps n (with_revision (values_of_property ps n) r x)
put_at_value ps n r x values new after sorted there put set =
    rw there (set ∙ set_is_insert name_cmp nat_list_cmp_total ps n values new sorted there ∙ ap (insert_entry name_cmp ps n) put ∙ sym (with_values-put ps n values r x))

-- a value that is dropped at a property that has others
pub dropped_others : (ps : Props) (n : Name) (r : Revision) (values new : List (Revision × Option Property)) (after : Props) → IsStrictlySortedBy name_cmp (keys_of ps) → lookup (is_at (name_cmp n)) ps ≡ Some values → new ≡ without_revision r values → not (nat_eq (length new) 0) ≡ true → after ≡ set_value (is_at (name_cmp n)) ps new → after ≡ with_values ps n (without_revision r (values_of_property ps n))
dropped_others ps n r values new after sorted there drop left set =
    rw (there, ← drop) (set ∙ set_is_insert name_cmp nat_list_cmp_total ps n values new sorted there ∙ sym (with_values-some ps n new left))

-- a value that is dropped at a property that has no other
pub dropped_last : (ps : Props) (n : Name) (r : Revision) (values new : List (Revision × Option Property)) (set after : Props) → lookup (is_at (name_cmp n)) ps ≡ Some values → new ≡ without_revision r values → not (nat_eq (length new) 0) ≡ false → set ≡ set_value (is_at (name_cmp n)) ps new → after ≡ remove_entry (is_at (name_cmp n)) set → after ≡ with_values ps n (without_revision r (values_of_property ps n))
dropped_last ps n r values new set after there drop left is_set removed =
    rw (there, ← drop, none_left new left) (removed ∙ ap (remove_entry (is_at (name_cmp n))) is_set ∙ remove-set_value (is_at (name_cmp n)) ps new)

-- a value that is dropped at a property that isn't there
pub dropped_none : (ps : Props) (n : Name) (r : Revision) → lookup (is_at (name_cmp n)) ps ≡ None → ps ≡ with_values ps n (without_revision r (values_of_property ps n))
dropped_none ps n r none = rw none (sym (remove-none (is_at (name_cmp n)) ps (none_passes_from_lookup (is_at (name_cmp n)) ps none)))
