-- Truth values: the parts of an `and` that holds, and of an `or` that doesn't.
use Rattle.std.proofs.Common.{◌≡◌, ℕ, Bool, true, false, refl}
use Rattle.std.specs.Prelude.{◌&&◌, ◌||◌, ◌==◌}
use Rattle.std.proofs.lemmas.Bool.{eq-eqb, false≢true, true≢false}

-- both hold, so the first does
pub first_of_both : (a b : Bool) → (a && b) ≡ true → a ≡ true
first_of_both true b h = refl
first_of_both false b h = h

-- both hold, so the second does
pub second_of_both : (a b : Bool) → (a && b) ≡ true → b ≡ true
second_of_both true b h = h
second_of_both false b h = absurd (false≢true h)

-- neither holds, so the first doesn't
pub first_of_neither : (a b : Bool) → (a || b) ≡ false → a ≡ false
first_of_neither true b h = h
first_of_neither false b h = refl

-- neither holds, so the second doesn't
pub second_of_neither : (a b : Bool) → (a || b) ≡ false → b ≡ false
second_of_neither true b h = absurd (true≢false h)
second_of_neither false b h = h

-- a number is itself, as a test
pub number_itself : (n : ℕ) → (n == n) ≡ true
number_itself n = eq-eqb n n refl

-- what never holds beside another fact
pub and_never : (b : Bool) → (b && false) ≡ false
and_never true = refl
and_never false = refl

-- what never holds adds nothing
pub or_never : (b : Bool) → (b || false) ≡ b
or_never true = refl
or_never false = refl
