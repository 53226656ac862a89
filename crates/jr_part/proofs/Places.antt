-- Names in their order: what an edit at the place where a search ends makes of them.
use Rattle.std.proofs.Common.{◌≡◌, ℕ, zero, suc, ◌<◌, ◌≤◌, ◌+◌, true, cond, Option, Result, Ok, Err, MatchResult, [], ◌∷◌, length, get_or, set, refl, sym, ap, ◌∙◌, arith}
use Rattle.std.specs.BTreeMap.{is_at, insert_entry}
use Rattle.std.specs.Cmp.{tied_itself}
use Rattle.std.specs.FinMap.{is_sorted}
use Rattle.std.specs.FinMap.Entries.{below_all}
use Rattle.std.specs.List.{AllWithin, HoldsAt, insert, remove}
use Rattle.std.specs.List.Sorted.{IsBinarySearchResult, IsSearchInRange, IsSortedBy}
use Rattle.std.specs.Map.{remove_entry}
use Rattle.std.specs.Ordering.{is_eq, is_lt, match_ordering, ordering_reverse}
use Rattle.std.specs.declared.cmp.Ordering.{Ordering}
use Rattle.std.specs.declared.cmp.Ordering.TheVariants.{Less, Equal, Greater}
use Rattle.std.proofs.lemmas.Cmp.{nat_list_cmp_total}
use Rattle.std.proofs.lemmas.List.Sorted.{searchable_from_sorted}
use Rattle.basics.proofs.Orders.{less_of}
use Rattle.jr_path.specs.Names.{name_cmp}
use Rattle.jr_path.specs.declared.name.Name.{Name}
use Rattle.jr_path.proofs.Maps.{name_exact}
use Rattle.jr_rev.specs.declared.revision.Revision.{Revision}
use Rattle.jr_tree.proofs.Entries.{first, second}
use Rattle.jr_part.specs.Parts.{ChildNames}
use Rattle.jr_part.specs.Follows.{IsNameGap, IsNamePlace}

turned : (a b : Name) (o : Ordering) → name_cmp a b ≡ o → name_cmp b a ≡ ordering_reverse o
turned a b o h = nat_list_cmp_total.antisymm b a ∙ ap ordering_reverse h

at_itself : (n m : Name) → m ≡ n → name_cmp n m ≡ Equal
at_itself n m same = ap (name_cmp n) same ∙ tied_itself nat_list_cmp_total n

-- ---- the order

below_at : (n : Name) (es : ChildNames) → below_all name_cmp n es ≡ true → (j : ℕ) (d : Name × Option Revision) → j < length es → name_cmp n (get_or es j d).0 ≡ Less
below_at n [] h j d within = absurd (omega arith)
below_at n (e ∷ es) h zero d within = less_of _ (first _ _ h)
below_at n (e ∷ es) h (suc j) d within = below_at n es (second _ _ h) j d (omega arith)

rises_at : (es : ChildNames) → is_sorted name_cmp es ≡ true → (i j : ℕ) (d : Name × Option Revision) → i < j → j < length es → name_cmp (get_or es i d).0 (get_or es j d).0 ≡ Less
rises_at [] h i j d less within = absurd (omega arith)
rises_at (e ∷ es) h i zero d less within = absurd (omega arith)
rises_at (e ∷ es) h zero (suc j) d less within = below_at e.0 es (first _ _ h) j d (omega arith)
rises_at (e ∷ es) h (suc i) (suc j) d less within = rises_at es (second _ _ h) i j d (omega arith) (omega arith)

in_order : (es : ChildNames) → is_sorted name_cmp es ≡ true → IsSortedBy (λ a b. is_lt (name_cmp a.0 b.0)) es
in_order es h j d low high = ap is_lt (turned (get_or es j d).0 (get_or es (j + 1) d).0 Less (rises_at es h j (j + 1) d (omega arith) high))

pub place_is : (es : ChildNames) (n : Name) (r : Result ℕ ℕ) → is_sorted name_cmp es ≡ true → IsSearchInRange r (length es) → IsBinarySearchResult (λ y. name_cmp y.0 n) es r → MatchResult r (IsNamePlace es n) (IsNameGap es n)
place_is es n (Ok i) sorted bound h = record { within = bound; there = λ d. name_exact (get_or es i d).0 n (h d) }
place_is es n (Err i) sorted bound h =
    let parts = h (searchable_from_sorted nat_list_cmp_total (λ (e : Name × Option Revision). e.0) es n (in_order es sorted)) in
    record {
      within = bound;
      front = λ j d low high. parts.0 j d low high;
      back = λ j d low high. parts.1 j d low high;
    }

-- ---- where the name stands

-- those in front of a name are below it
abbrev IsFront : Name → ChildNames → ℕ → Type 0
IsFront n es i = AllWithin (λ e. name_cmp e.0 n ≡ Less) es 0 i

front_of : (n : Name) (es : ChildNames) (i : ℕ) → is_sorted name_cmp es ≡ true → IsNamePlace es n i → IsFront n es i
front_of n es i sorted place j d low high = ap (name_cmp (get_or es j d).0) (sym (place.there d)) ∙ rises_at es sorted j i d high place.within

module _ (n : Name) where
  set_at : (v : Option Revision) (es : ChildNames) (i : ℕ) → i < length es → IsFront n es i → HoldsAt (λ e. e.0 ≡ n) es i → set es i (n, v) ≡ insert_entry name_cmp es n v
  set_at v [] i within front there = absurd (omega arith)
  set_at v (e ∷ es) zero within front there =
      ap (λ (m : Name). (m, v) ∷ es) (sym (there e))
      ∙ sym (ap (λ o. match_ordering o ((n, v) ∷ e ∷ es) ((e.0, v) ∷ es) (e ∷ insert_entry name_cmp es n v)) (at_itself n e.0 (there e)))
  set_at v (e ∷ es) (suc i) within front there =
      ap (λ (fs : ChildNames). e ∷ fs) (set_at v es i (omega arith) (λ j d low high. front (suc j) d (omega arith) (omega arith)) there)
      ∙ sym (ap (λ o. match_ordering o ((n, v) ∷ e ∷ es) ((e.0, v) ∷ es) (e ∷ insert_entry name_cmp es n v)) (turned e.0 n Less (front 0 e (omega arith) (omega arith))))

  remove_at : (es : ChildNames) (i : ℕ) → i < length es → IsFront n es i → HoldsAt (λ e. e.0 ≡ n) es i → remove es i ≡ remove_entry (is_at (name_cmp n)) es
  remove_at [] i within front there = absurd (omega arith)
  remove_at (e ∷ es) zero within front there = sym (ap (λ o. cond (is_eq o) es (e ∷ remove_entry (is_at (name_cmp n)) es)) (at_itself n e.0 (there e)))
  remove_at (e ∷ es) (suc i) within front there =
      ap (λ (fs : ChildNames). e ∷ fs) (remove_at es i (omega arith) (λ j d low high. front (suc j) d (omega arith) (omega arith)) there)
      ∙ sym (ap (λ o. cond (is_eq o) es (e ∷ remove_entry (is_at (name_cmp n)) es)) (turned e.0 n Less (front 0 e (omega arith) (omega arith))))

  pub set_found : (v : Option Revision) (es : ChildNames) (i : ℕ) → is_sorted name_cmp es ≡ true → IsNamePlace es n i → set es i (n, v) ≡ insert_entry name_cmp es n v
  set_found v es i sorted place = set_at v es i place.within (front_of n es i sorted place) place.there

  pub remove_found : (es : ChildNames) (i : ℕ) → is_sorted name_cmp es ≡ true → IsNamePlace es n i → remove es i ≡ remove_entry (is_at (name_cmp n)) es
  remove_found es i sorted place = remove_at es i place.within (front_of n es i sorted place) place.there

  -- ---- where it would go

  abbrev IsBack : ChildNames → ℕ → Type 0
  IsBack es i = AllWithin (λ e. name_cmp e.0 n ≡ Greater) es i (length es)

  insert_at : (v : Option Revision) (es : ChildNames) (i : ℕ) → i ≤ length es → IsFront n es i → IsBack es i → insert es i (n, v) ≡ insert_entry name_cmp es n v
  insert_at v [] zero within front back = refl
  insert_at v [] (suc i) within front back = absurd (omega arith)
  insert_at v (e ∷ es) zero within front back =
      sym (ap (λ o. match_ordering o ((n, v) ∷ e ∷ es) ((e.0, v) ∷ es) (e ∷ insert_entry name_cmp es n v)) (turned e.0 n Greater (back 0 e (omega arith) (omega arith))))
  insert_at v (e ∷ es) (suc i) within front back =
      ap (λ (fs : ChildNames). e ∷ fs) (insert_at v es i (omega arith) (λ j d low high. front (suc j) d (omega arith) (omega arith)) (λ j d low high. back (suc j) d (omega arith) (omega arith)))
      ∙ sym (ap (λ o. match_ordering o ((n, v) ∷ e ∷ es) ((e.0, v) ∷ es) (e ∷ insert_entry name_cmp es n v)) (turned e.0 n Less (front 0 e (omega arith) (omega arith))))

  pub insert_gap : (v : Option Revision) (es : ChildNames) (i : ℕ) → IsNameGap es n i → insert es i (n, v) ≡ insert_entry name_cmp es n v
  insert_gap v es i gap = insert_at v es i gap.within gap.front gap.back

  stays_out : (es : ChildNames) (i : ℕ) → i ≤ length es → IsFront n es i → IsBack es i → remove_entry (is_at (name_cmp n)) es ≡ es
  stays_out [] i within front back = refl
  stays_out (e ∷ es) zero within front back =
      ap (λ o. cond (is_eq o) es (e ∷ remove_entry (is_at (name_cmp n)) es)) (turned e.0 n Greater (back 0 e (omega arith) (omega arith)))
      ∙ ap (λ (fs : ChildNames). e ∷ fs) (stays_out es zero (omega arith) (λ j d low high. absurd (omega arith)) (λ j d low high. back (suc j) d (omega arith) (omega arith)))
  stays_out (e ∷ es) (suc i) within front back =
      ap (λ o. cond (is_eq o) es (e ∷ remove_entry (is_at (name_cmp n)) es)) (turned e.0 n Less (front 0 e (omega arith) (omega arith)))
      ∙ ap (λ (fs : ChildNames). e ∷ fs) (stays_out es i (omega arith) (λ j d low high. front (suc j) d (omega arith) (omega arith)) (λ j d low high. back (suc j) d (omega arith) (omega arith)))

  pub remove_gap : (es : ChildNames) (i : ℕ) → IsNameGap es n i → remove_entry (is_at (name_cmp n)) es ≡ es
  remove_gap es i gap = stays_out es i gap.within gap.front gap.back
