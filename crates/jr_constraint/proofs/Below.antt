-- Numbers below zero, where a greater number than 64 bits was capped.
use Rattle.std.proofs.Common.{arith, ◌≡◌, ℕ, ◌^◌, Bool, true, false, cond, ◌&&◌, Option, None, Some, List, [], ◌∷◌, ◌-◌, length, take, drop, min, sym, ap, ◌∙◌, ℤ, pos}
use Rattle.std.specs.Prelude.{neg_ℤ, unwrap_or}
use Rattle.std.specs.Str.Parse.{digits_value}
use Rattle.std.proofs.lemmas.Option.{none-some}
use Rattle.std.proofs.Math.Seq.{take-length}
use Rattle.jr_constraint.specs.Constraints.{are_digits, is_in_64_bits, number_in}

abbrev pub read : ℤ → Option ℤ
read z = cond (is_in_64_bits z) (Some z) None

capped : (v : ℕ) → read (neg_ℤ (pos (min (2 ^ 64) v))) ≡ read (neg_ℤ (pos v))
capped v = grind arith

after_minus : (rest : List ℕ) (z : ℤ) (r : Option ℤ) → Some z ≡ cond (are_digits rest) (Some (pos (min (2 ^ 64) (digits_value 10 rest)))) None → r ≡ read (neg_ℤ z) → r ≡ number_in (45 ∷ rest)
after_minus rest z r h e = by (are_digits rest) h
  where
    by : (b : Bool) → Some z ≡ cond b (Some (pos (min (2 ^ 64) (digits_value 10 rest)))) None → r ≡ cond (b && is_in_64_bits (neg_ℤ (pos (digits_value 10 rest)))) (Some (neg_ℤ (pos (digits_value 10 rest)))) None
    by true k = e ∙ (ap read (ap neg_ℤ (ap (λ o. unwrap_or o z) k)) ∙ capped (digits_value 10 rest))
    by false k = absurd (none-some z (sym k))

pub below : (bs rest : List ℕ) (z : ℤ) (r : Option ℤ) → bs ≡ 45 ∷ rest → Some z ≡ cond (are_digits rest) (Some (pos (min (2 ^ 64) (digits_value 10 rest)))) None → r ≡ read (neg_ℤ z) → r ≡ number_in bs
below bs rest z r is h e = after_minus rest z r h e ∙ ap number_in (sym is)

pub behind : (bs : List ℕ) → bs ≡ 45 ∷ drop 1 bs → bs ≡ 45 ∷ take (length bs - 1) (drop 1 bs)
behind [] h = h
behind (c ∷ cs) h = h ∙ ap (λ xs. 45 ∷ xs) (sym (ap (λ n. take n cs) (let e : length (c ∷ cs) - 1 ≡ length cs = omega arith in e) ∙ take-length cs))
