-- Decimal digits read one after another, with a cap.
use Rattle.std.proofs.Common.{rules, arith, ◌≡◌, ◌≤◌, ◌<◌, ℕ, ◌+◌, ◌-◌, ◌*◌, ◌^◌, Bool, true, false, cond, ◌&&◌, None, Some, List, length, take, min, refl, sym, ap, ◌∙◌, slice_index_or}
use Rattle.std.specs.Prelude.{nat_le, unwrap_or}
use Rattle.std.specs.List.{list_all}
use Rattle.std.specs.Char.{digit_value}
use Rattle.std.specs.Str.Parse.{digits_value}
use Rattle.std.proofs.lemmas.Int.Digits.{digits_value_more}
use Rattle.std.proofs.lemmas.Str.{digit_value_digit}
use Rattle.std.proofs.lemmas.Option.{none-some}
use Rattle.std.proofs.lemmas.List.Folds.{list_all_more}

abbrev is_digit : ℕ → Bool
is_digit c = nat_le 48 c && nat_le c 57

capped : (a d : ℕ) → min (min (2 ^ 64) a * 10 + d) (2 ^ 64) ≡ min (2 ^ 64) (a * 10 + d)
capped a d = grind arith

digit_is : (c d : ℕ) → Some d ≡ cond (is_digit c) (Some (c - 48)) None → (is_digit c ≡ true) × (digit_value c ≡ d)
digit_is c d h = by (nat_le 48 c) (nat_le c 57) refl refl h
  where
    by : (a b : Bool) → nat_le 48 c ≡ a → nat_le c 57 ≡ b → Some d ≡ cond (a && b) (Some (c - 48)) None → ((a && b) ≡ true) × (digit_value c ≡ d)
    by true true p q e =
        let low : 48 ≤ c = search rules in
        let high : c ≤ 57 = search rules in
        let value : digit_value c + 48 ≡ c = digit_value_digit c (low, high) in
        let same : d ≡ c - 48 = ap (λ o. unwrap_or o 0) e in
        (refl, omega arith)
    by true false p q e = absurd (none-some d (sym e))
    by false b p q e = absurd (none-some d (sym e))

pub more_digits : (bs : List ℕ) (i s d : ℕ) → i < length bs → Some d ≡ cond (is_digit (slice_index_or bs i 0)) (Some (slice_index_or bs i 0 - 48)) None
    → s ≡ min (2 ^ 64) (digits_value 10 (take i bs)) → min (s * 10 + d) (2 ^ 64) ≡ min (2 ^ 64) (digits_value 10 (take (i + 1) bs))
more_digits bs i s d l h e =
    let value : digits_value 10 (take (i + 1) bs) ≡ digits_value 10 (take i bs) * 10 + d = digits_value_more 10 bs i l ∙ ap (λ v. digits_value 10 (take i bs) * 10 + v) (digit_is (slice_index_or bs i 0) d h).1 in
    ap (λ s. min (s * 10 + d) (2 ^ 64)) e ∙ (capped (digits_value 10 (take i bs)) d ∙ ap (min (2 ^ 64)) (sym value))

pub all_digits : (bs : List ℕ) (i d : ℕ) → i < length bs → Some d ≡ cond (is_digit (slice_index_or bs i 0)) (Some (slice_index_or bs i 0 - 48)) None
    → list_all is_digit (take i bs) ≡ true → list_all is_digit (take (i + 1) bs) ≡ true
all_digits bs i d l h e = list_all_more is_digit bs i 0 l ∙ (ap (λ b. b && is_digit (slice_index_or bs i 0)) e ∙ (digit_is (slice_index_or bs i 0) d h).0)
