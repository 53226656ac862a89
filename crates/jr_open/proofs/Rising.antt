-- Ids that rise, each behind the one before, stand in store order.
use Rattle.std.proofs.Common.{◌≡◌, ◌≤◌, ◌<◌, ◌↔◌, ℕ, zero, suc, ◌+◌, Bool, true, false, ◌&&◌, List, [], ◌∷◌, Option, None, Some, IsTrue, length, map, drop, get_or, refl, sym, ap, ◌∙◌, arith}
use Rattle.std.specs.declared.cmp.Ordering.TheVariants.{Less}
use Rattle.std.specs.Ordering.{is_lt}
use Rattle.std.specs.Cmp.{IsTotalOrder}
use Rattle.std.specs.List.{AllByRecursion}
use Rattle.std.specs.Option.{option_map_or}
use Rattle.oak_doc.specs.declared.document.Document.{Document}
use Rattle.basics.proofs.Lists.{drop_next}
use Rattle.std.proofs.lemmas.Bool.{false≢true}
use Rattle.std.specs.List.Sorted.{IsStrictlySortedBy}
use Rattle.jr_path.specs.Ids.{id_cmp}
use Rattle.jr_path.specs.declared.path.DocId.{DocId}
use Rattle.jr_path.proofs.Orders.{id_total}
use Rattle.basics.proofs.Bools.{first_of_both, second_of_both}
use Rattle.basics.proofs.Orders.{less_of}
use Rattle.std.proofs.lemmas.Bool.{and_from}
use Rattle.jr_open.specs.Ordered.{rises_behind}

above : (i j : DocId) (is : List DocId) → id_cmp i j ≡ Less → AllByRecursion (λ y. id_cmp j y ≡ Less) is → AllByRecursion (λ y. id_cmp i y ≡ Less) is
above i j [] less all = tt
above i j (k ∷ is) less all = (id_total.trans i j k less all.0, above i j is less all.1)

-- behind one id all are later than it, and in order
behind_one : (i : DocId) (is : List DocId) → rises_behind (Some i) is ≡ true → AllByRecursion (λ y. id_cmp i y ≡ Less) is × IsStrictlySortedBy id_cmp is
unfolding IsStrictlySortedBy
behind_one i [] h = (tt, tt)
behind_one i (j ∷ is) h =
    let less = less_of (id_cmp i j) (first_of_both _ _ h) in
    let rest = behind_one j is (second_of_both (is_lt (id_cmp i j)) _ h) in
    ((less, above i j is less rest.0), (rest.0, rest.1))

pub sorted_rises : (is : List DocId) → rises_behind None is ≡ true → IsStrictlySortedBy id_cmp is
unfolding IsStrictlySortedBy
sorted_rises [] h = tt
sorted_rises (i ∷ is) h = behind_one i is h

rising_one : (i : DocId) (is : List DocId) → AllByRecursion (λ y. id_cmp i y ≡ Less) is → IsStrictlySortedBy id_cmp is → rises_behind (Some i) is ≡ true
unfolding IsStrictlySortedBy
rising_one i [] all h = refl
rising_one i (j ∷ is) all h = and_from _ _ (ap is_lt all.0) (rising_one j is h.0 h.1)

pub rises_sorted : (is : List DocId) → IsStrictlySortedBy id_cmp is → rises_behind None is ≡ true
unfolding IsStrictlySortedBy
rises_sorted [] h = refl
rises_sorted (i ∷ is) h = rising_one i is h.0 h.1

dropped_all : {X : Type 0} (xs : List X) (i : ℕ) → length xs ≤ i → drop i xs ≡ []
dropped_all [] zero h = refl
dropped_all [] (suc i) h = refl
dropped_all (x ∷ xs) zero h = absurd (omega (arith, h))
dropped_all (x ∷ xs) (suc i) h = dropped_all xs i (omega (arith, h))

-- all were gone through
pub all_behind : (ds : List Document) (last : Option DocId) (i : ℕ) → length ds ≤ i
    → rises_behind last (map (λ d. d.id) (drop i ds)) ≡ rises_behind None (map (λ d. d.id) ds) → IsTrue true ↔ IsStrictlySortedBy id_cmp (map (λ d. d.id) ds)
all_behind ds last i end so_far =
    (λ _. sorted_rises (map (λ d. d.id) ds) (sym so_far ∙ ap (λ (l : List Document). rises_behind last (map (λ d. d.id) l)) (dropped_all ds i end)), λ _. refl)

-- one isn't behind the last
pub one_before : (ds : List Document) (last : Option DocId) (i : ℕ) (d : Document) (b : Bool) → i < length ds → d ≡ get_or ds i d
    → b ≡ option_map_or (λ l. is_lt (id_cmp l d.id)) last true → b ≡ false
    → rises_behind last (map (λ d. d.id) (drop i ds)) ≡ rises_behind None (map (λ d. d.id) ds) → IsTrue false ↔ IsStrictlySortedBy id_cmp (map (λ d. d.id) ds)
one_before ds last i d b within is behind broken so_far =
    (λ h. absurd (false≢true h), λ sorted. absurd (false≢true (sym broken_all ∙ rises_sorted (map (λ d. d.id) ds) sorted)))
  where
    broken_all : rises_behind None (map (λ d. d.id) ds) ≡ false
    broken_all =
        sym so_far
        ∙ ap (λ (l : List Document). rises_behind last (map (λ d. d.id) l)) (drop_next ds i d within is)
        ∙ ap (λ c. c && rises_behind (Some d.id) (map (λ d. d.id) (drop (i + 1) ds))) (sym behind ∙ broken)
