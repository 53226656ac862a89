-- The parts of a pattern, the first by the first.
use Rattle.std.proofs.Common.{◌≡◌, ℕ, Bool, true, false, List, [], ◌∷◌, refl, arith}
use Rattle.std.proofs.lemmas.Bool.Decides.{nat_tests}
use Rattle.std.specs.Prelude.{◌==◌}
use Rattle.sql_values.specs.Patterns.{behind_part, first_part, parts_of, plain_part}

same_number : (a b : ℕ) → (a == b) ≡ true → a ≡ b
same_number a b h = grind (arith, nat_tests)

-- a part, and those of what is left behind it
pub more_parts : (c : ℕ) (cs : List ℕ) → parts_of (c ∷ cs) ≡ first_part c cs ∷ parts_of (behind_part c cs)
more_parts c [] = by (c == 92) refl
  where
    by : (b : Bool) → (c == 92) ≡ b → parts_of (c ∷ []) ≡ plain_part c ∷ []
    by true is = rw (same_number c 92 is) refl
    by false is = rw is refl
more_parts c (d ∷ ds) = by (c == 92) refl
  where
    by : (b : Bool) → (c == 92) ≡ b → parts_of (c ∷ d ∷ ds) ≡ first_part c (d ∷ ds) ∷ parts_of (behind_part c (d ∷ ds))
    by true is = rw is refl
    by false is = rw is refl
