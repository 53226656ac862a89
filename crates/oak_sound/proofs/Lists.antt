-- Lists that are gone through.
use Rattle.std.proofs.Common.{◌≡◌, ℕ, suc, Bool, true, false, List, [], ◌∷◌, Option, None, Some, refl, sym, ap, ◌∙◌, arith}
use Rattle.std.specs.Prelude.{◌&&◌, ◌==◌, length}
use Rattle.std.specs.Map.{keys_of}
use Rattle.std.proofs.lemmas.Bool.Decides.{nat_tests}
use Rattle.std.specs.List.{filter_map, list_all}
use Rattle.std.specs.Option.{option_map, option_map_or, option_or}

-- all that is found keeps a test, where each that is found does
pub all_found : {X Y : Type 0} (f : X → Option Y) (p : Y → Bool) (xs : List X) → list_all (λ x. option_map_or p (f x) true) xs ≡ list_all p (filter_map f xs)
all_found f p [] = refl
all_found {X} {Y} f p (x ∷ xs) = by (f x) refl (all_found f p xs)
  where
    by : (o : Option Y) → f x ≡ o → list_all (λ z. option_map_or p (f z) true) xs ≡ list_all p (filter_map f xs) → list_all (λ z. option_map_or p (f z) true) (x ∷ xs) ≡ list_all p (filter_map f (x ∷ xs))
    by None is rest = rw is rest
    by (Some y) is rest = rw is (ap (λ b. p y && b) rest)

other : (n : ℕ) → (suc n == 0) ≡ false
other n = grind (arith, nat_tests)

-- a test that none passes, all pass where there are none
pub all_of_none : {K X : Type 0} (es : List (K × X)) → (length es == 0) ≡ list_all (λ k. false) (keys_of es)
all_of_none [] = refl
all_of_none (e ∷ es) = other (length es)

-- the first of some choices that is there counts
pub passed : {A B : Type 0} (f : A → B) (o : Option A) (rest x : Option B) → o ≡ None → x ≡ rest → x ≡ option_or (option_map f o) rest
passed f o rest x none is = is ∙ sym (ap (λ p. option_or (option_map f p) rest) none)

pub chosen : {A B : Type 0} (f : A → B) (o : Option A) (i : A) (rest : Option B) → o ≡ Some i → Some (f i) ≡ option_or (option_map f o) rest
chosen f o i rest is = sym (ap (λ p. option_or (option_map f p) rest) is)
