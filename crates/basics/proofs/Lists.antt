-- Lists: the parts of an empty one, what all of two have, and what is left from a place on.
use Rattle.std.proofs.Common.{◌≡◌, ℕ, suc, ◌+◌, ◌<◌, Bool, true, List, [], ◌∷◌, ◌++◌, length, map, drop, get_or, refl, sym, ap, ◌∙◌, arith}
use Rattle.std.specs.List.{list_all}
use Rattle.std.proofs.lemmas.Bool.{and_from}
use Rattle.std.proofs.lemmas.List.Folds.{list_all-append}
use Rattle.std.proofs.Math.Seq.{drop-cons}

-- both lists are empty where they make an empty one
pub empty_first : {X : Type 0} (xs ys : List X) → xs ++ ys ≡ [] → xs ≡ []
empty_first [] ys h = refl
empty_first (x ∷ xs) ys h = grind arith

pub empty_second : {X : Type 0} (xs ys : List X) → xs ++ ys ≡ [] → ys ≡ []
empty_second [] ys h = h
empty_second (x ∷ xs) ys h = grind arith

-- a list is empty where what is made of its elements is
pub empty_mapped : {X Y : Type 0} (f : X → Y) (xs : List X) → map f xs ≡ [] → xs ≡ []
empty_mapped f [] h = refl
empty_mapped f (x ∷ xs) h = grind arith

-- what all elements of two lists have, all have of the two behind each other
pub all_joined : {X : Type 0} (test : X → Bool) (xs ys : List X) → list_all test xs ≡ true → list_all test ys ≡ true → list_all test (xs ++ ys) ≡ true
all_joined test xs ys h k = list_all-append test xs ys ∙ and_from (list_all test xs) (list_all test ys) h k

-- what is left from the i-th on
pub drop_next : {X : Type 0} (xs : List X) (i : ℕ) (x : X) → i < length xs → x ≡ get_or xs i x → drop i xs ≡ x ∷ drop (i + 1) xs
drop_next xs i x below at =
    let on : suc i ≡ i + 1 = omega arith in
    drop-cons xs i x below ∙ (ap (λ y. y ∷ drop (suc i) xs) (sym at) ∙ ap (λ n. x ∷ drop n xs) on)
