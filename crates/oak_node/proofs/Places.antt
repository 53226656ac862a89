-- Entries in the order of their numbers: what an edit by key is at the place where a search ends.
use Rattle.std.proofs.Common.{◌≡◌, ◌≢◌, ℕ, zero, suc, ◌<◌, ◌≤◌, ◌+◌, Bool, true, false, cond, Some, None, Result, Ok, Err, MatchResult, List, [], ◌∷◌, length, get_or, set, inl, inr, refl, sym, ap, ◌∙◌, arith}
use Rattle.std.specs.BTreeMap.{is_at, insert_entry}
use Rattle.std.specs.List.{AllByRecursion, AllWithin, HoldsAt, insert, remove}
use Rattle.std.specs.List.Sorted.{IsStrictlySortedBy, IsSortedBy, IsSearchInRange, IsBinarySearchResult}
use Rattle.std.specs.Map.{lookup, remove_entry, keys_of}
use Rattle.std.specs.Ordering.{nat_cmp, is_eq, is_lt, match_ordering, ordering_reverse}
use Rattle.std.specs.declared.cmp.Ordering.{Ordering}
use Rattle.std.specs.declared.cmp.Ordering.TheVariants.{Less, Equal, Greater}
use Rattle.std.proofs.lemmas.Bool.{cases_lt}
use Rattle.std.proofs.lemmas.Bool.Decides.{nat_tests}
use Rattle.std.proofs.lemmas.Cmp.{nat_cmp_total}
use Rattle.std.proofs.lemmas.List.{get_or-map, length-map}
use Rattle.std.proofs.lemmas.List.Sorted.{searchable_from_sorted}
use Rattle.std.proofs.lemmas.Map.Keys.{below_from_sorted}
use Rattle.jr_rev.specs.declared.vector.Pin.{Pin}
use Rattle.oak_node.specs.Pins.{IsPlaceOf, IsGapOf}

less : (a b : ℕ) → a < b → nat_cmp a b ≡ Less
less a b h = grind (arith, nat_tests)

equal : (a b : ℕ) → b ≡ a → nat_cmp a b ≡ Equal
equal a b h = grind (arith, nat_tests)

greater : (a b : ℕ) → b < a → nat_cmp a b ≡ Greater
greater a b h = grind (arith, nat_tests)

missed : (k a : ℕ) → a ≢ k → is_eq (nat_cmp k a) ≡ false
missed k a h = grind (arith, nat_tests)

after_both : (k a : ℕ) (ks : List ℕ) → nat_cmp k a ≡ Less → AllByRecursion (λ y. nat_cmp a y ≡ Less) ks → AllByRecursion (λ y. nat_cmp k y ≡ Less) ks
after_both k a [] h all = tt
after_both k a (y ∷ ks) h all = (nat_cmp_total.trans k a y h all.0, after_both k a ks h all.1)

-- those in front of a key in sorted entries are below it
pub front_of : {X : Type 0} (k : ℕ) (es : List (ℕ × X)) (i : ℕ) → IsStrictlySortedBy nat_cmp (keys_of es) → i < length es → HoldsAt (λ e. e.0 ≡ k) es i → AllWithin (λ e. e.0 < k) es 0 i
front_of {X} k es i sorted within there j d low high =
    let read : (n : ℕ) → n < length es → get_or (keys_of es) n 0 ≡ (get_or es n d).0 = λ n l. get_or-map (λ (e : ℕ × X). e.0) es n d 0 l in
    let long : length (keys_of es) ≡ length es = length-map es (λ (e : ℕ × X). e.0) in
    let below : get_or (keys_of es) j 0 < get_or (keys_of es) i 0 = below_from_sorted (keys_of es) j i 0 sorted high (omega arith) in
    let here : (get_or es i d).0 ≡ k = there d in
    omega (arith, read j (omega arith), read i within)

module _ {X : Type 0} (k : ℕ) where
  -- ---- where the key stands

  pub set_found : (v : X) (es : List (ℕ × X)) (i : ℕ) → i < length es → AllWithin (λ e. e.0 < k) es 0 i → HoldsAt (λ e. e.0 ≡ k) es i → set es i (k, v) ≡ insert_entry nat_cmp es k v
  set_found v [] i within front there = absurd (omega arith)
  set_found v (e ∷ es) zero within front there = rw (equal k e.0 (there e)) (ap (λ (q : ℕ). (q, v) ∷ es) (sym (there e)))
  set_found v (e ∷ es) (suc i) within front there =
      rw (greater k e.0 (front 0 e (omega arith) (omega arith))) (ap (λ fs. e ∷ fs) (set_found v es i (omega arith) (λ j d low high. front (suc j) d (omega arith) (omega arith)) there))

  pub remove_found : (es : List (ℕ × X)) (i : ℕ) → i < length es → AllWithin (λ e. e.0 < k) es 0 i → HoldsAt (λ e. e.0 ≡ k) es i → remove es i ≡ remove_entry (is_at (nat_cmp k)) es
  remove_found [] i within front there = absurd (omega arith)
  remove_found (e ∷ es) zero within front there = rw (equal k e.0 (there e)) refl
  remove_found (e ∷ es) (suc i) within front there =
      rw (greater k e.0 (front 0 e (omega arith) (omega arith))) (ap (λ fs. e ∷ fs) (remove_found es i (omega arith) (λ j d low high. front (suc j) d (omega arith) (omega arith)) there))

  pub lookup_found : (d : ℕ × X) (es : List (ℕ × X)) (i : ℕ) → i < length es → AllWithin (λ e. e.0 < k) es 0 i → HoldsAt (λ e. e.0 ≡ k) es i → lookup (is_at (nat_cmp k)) es ≡ Some (get_or es i d).1
  lookup_found d [] i within front there = absurd (omega arith)
  lookup_found d (e ∷ es) zero within front there = rw (equal k e.0 (there e)) refl
  lookup_found d (e ∷ es) (suc i) within front there =
      rw (greater k e.0 (front 0 e (omega arith) (omega arith))) (lookup_found d es i (omega arith) (λ j d' low high. front (suc j) d' (omega arith) (omega arith)) there)

  -- ---- where it would go

  pub insert_gap : (v : X) (es : List (ℕ × X)) (i : ℕ) → i ≤ length es → AllWithin (λ e. e.0 < k) es 0 i → AllWithin (λ e. k < e.0) es i (length es) → insert es i (k, v) ≡ insert_entry nat_cmp es k v
  insert_gap v [] zero within front back = refl
  insert_gap v [] (suc i) within front back = absurd (omega arith)
  insert_gap v (e ∷ es) zero within front back = rw (less k e.0 (back 0 e (omega arith) (omega arith))) refl
  insert_gap v (e ∷ es) (suc i) within front back =
      rw (greater k e.0 (front 0 e (omega arith) (omega arith))) (ap (λ fs. e ∷ fs) (insert_gap v es i (omega arith) (λ j d low high. front (suc j) d (omega arith) (omega arith)) (λ j d low high. back (suc j) d (omega arith) (omega arith))))

  -- the key is at no place
  abbrev pub IsNowhere : List (ℕ × X) → Type 0
  IsNowhere es = (j : ℕ) (d : ℕ × X) → j < length es → (get_or es j d).0 ≢ k

  pub lookup_nowhere : (es : List (ℕ × X)) → IsNowhere es → lookup (is_at (nat_cmp k)) es ≡ None
  lookup_nowhere [] none = refl
  lookup_nowhere (e ∷ es) none = rw (missed k e.0 (none 0 e (omega arith))) (lookup_nowhere es (λ j d h. none (suc j) d (omega arith)))

  pub remove_nowhere : (es : List (ℕ × X)) → IsNowhere es → remove_entry (is_at (nat_cmp k)) es ≡ es
  remove_nowhere [] none = refl
  remove_nowhere (e ∷ es) none = rw (missed k e.0 (none 0 e (omega arith))) (ap (λ fs. e ∷ fs) (remove_nowhere es (λ j d h. none (suc j) d (omega arith))))

-- ---- the order of the keys stays

module _ {X : Type 0} (k : ℕ) where
  all_inserted : (P : ℕ → Type 0) (v : X) (es : List (ℕ × X)) → P k → AllByRecursion P (keys_of es) → AllByRecursion P (keys_of (insert_entry nat_cmp es k v))
  all_inserted P v [] p all = (p, tt)
  all_inserted P v (e ∷ es) p all = by (nat_cmp k e.0) (all_inserted P v es p all.1)
    where
      by : (o : Ordering) → AllByRecursion P (keys_of (insert_entry nat_cmp es k v)) → AllByRecursion P (keys_of (match_ordering o ((k, v) ∷ e ∷ es) ((e.0, v) ∷ es) (e ∷ insert_entry nat_cmp es k v)))
      by Less rest = (p, all)
      by Equal rest = all
      by Greater rest = (all.0, rest)

  pub insert_sorted : (v : X) (es : List (ℕ × X)) → IsStrictlySortedBy nat_cmp (keys_of es) → IsStrictlySortedBy nat_cmp (keys_of (insert_entry nat_cmp es k v))
  unfolding IsStrictlySortedBy
  insert_sorted v [] sorted = (tt, tt)
  insert_sorted v (e ∷ es) sorted = by (nat_cmp k e.0) refl (insert_sorted v es sorted.1)
    where
      by : (o : Ordering) → nat_cmp k e.0 ≡ o → IsStrictlySortedBy nat_cmp (keys_of (insert_entry nat_cmp es k v)) → IsStrictlySortedBy nat_cmp (keys_of (match_ordering o ((k, v) ∷ e ∷ es) ((e.0, v) ∷ es) (e ∷ insert_entry nat_cmp es k v)))
      by Less is rest = ((is, after_both k e.0 (keys_of es) is sorted.0), sorted)
      by Equal is rest = sorted
      by Greater is rest = (all_inserted (λ y. nat_cmp e.0 y ≡ Less) v es (nat_cmp_total.antisymm e.0 k ∙ ap ordering_reverse is) sorted.0, rest)

  all_removed : (P : ℕ → Type 0) (es : List (ℕ × X)) → AllByRecursion P (keys_of es) → AllByRecursion P (keys_of (remove_entry (is_at (nat_cmp k)) es))
  all_removed P [] all = tt
  all_removed P (e ∷ es) all = by (is_at (nat_cmp k) e.0) (all_removed P es all.1)
    where
      by : (b : Bool) → AllByRecursion P (keys_of (remove_entry (is_at (nat_cmp k)) es)) → AllByRecursion P (keys_of (cond b es (e ∷ remove_entry (is_at (nat_cmp k)) es)))
      by true rest = all.1
      by false rest = (all.0, rest)

  pub remove_sorted : (es : List (ℕ × X)) → IsStrictlySortedBy nat_cmp (keys_of es) → IsStrictlySortedBy nat_cmp (keys_of (remove_entry (is_at (nat_cmp k)) es))
  unfolding IsStrictlySortedBy
  remove_sorted [] sorted = tt
  remove_sorted (e ∷ es) sorted = by (is_at (nat_cmp k) e.0) (remove_sorted es sorted.1)
    where
      by : (b : Bool) → IsStrictlySortedBy nat_cmp (keys_of (remove_entry (is_at (nat_cmp k)) es)) → IsStrictlySortedBy nat_cmp (keys_of (cond b es (e ∷ remove_entry (is_at (nat_cmp k)) es)))
      by true rest = sorted.1
      by false rest = (all_removed (λ y. nat_cmp e.0 y ≡ Less) es sorted.0, rest)

-- ---- what a binary search finds

equals : (a b : ℕ) → nat_cmp a b ≡ Equal → a ≡ b
equals a b h = grind (arith, nat_tests)

lesser : (a b : ℕ) → nat_cmp a b ≡ Less → a < b
lesser a b h = grind (arith, nat_tests)

larger : (a b : ℕ) → nat_cmp a b ≡ Greater → b < a
larger a b h = grind (arith, nat_tests)

not_less : (a b : ℕ) → a < b → is_lt (nat_cmp b a) ≡ false
not_less a b h = grind (arith, nat_tests)

in_order : (es : List (ℕ × Pin)) → IsStrictlySortedBy nat_cmp (keys_of es) → IsSortedBy (λ a b. is_lt (nat_cmp a.0 b.0)) es
in_order es sorted j d low high =
    let read : (n : ℕ) → n < length es → get_or (keys_of es) n 0 ≡ (get_or es n d).0 = λ n l. get_or-map (λ (e : ℕ × Pin). e.0) es n d 0 l in
    let long : length (keys_of es) ≡ length es = length-map es (λ (e : ℕ × Pin). e.0) in
    let below : get_or (keys_of es) j 0 < get_or (keys_of es) (j + 1) 0 = below_from_sorted (keys_of es) j (j + 1) 0 sorted (omega arith) (omega arith) in
    not_less (get_or es j d).0 (get_or es (j + 1) d).0 (omega (arith, read j (omega arith), read (j + 1) high))

pub place_is : (es : List (ℕ × Pin)) (k : ℕ) (r : Result ℕ ℕ) → IsStrictlySortedBy nat_cmp (keys_of es) → IsSearchInRange r (length es) → IsBinarySearchResult (λ y. nat_cmp y.0 k) es r → MatchResult r (IsPlaceOf es k) (IsGapOf es k)
place_is es k (Ok i) sorted bound h = record { within = bound; there = λ d. equals (get_or es i d).0 k (h d) }
place_is es k (Err i) sorted bound h =
    let parts = h (searchable_from_sorted nat_cmp_total (λ (e : ℕ × Pin). e.0) es k (in_order es sorted)) in
    record {
      within = bound;
      front = λ j d low high. lesser (get_or es j d).0 k (parts.0 j d low high);
      back = λ j d low high. larger (get_or es j d).0 k (parts.1 j d low high);
    }

-- a gap is no place of the key
pub gap_nowhere : (k : ℕ) (es : List (ℕ × Pin)) (i : ℕ) → IsGapOf es k i → IsNowhere k es
gap_nowhere k es i gap j d h same =
    elim (cases_lt j i) [ inl l ↦ (let b = gap.front j d (omega arith) l in absurd (omega arith)) | inr l ↦ (let b = gap.back j d l h in absurd (omega arith)) ]
