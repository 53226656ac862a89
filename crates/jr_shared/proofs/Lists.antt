-- Lists that begin one another, told from both ends; and what is found in a list of parts.
use mathlib.Core.Bool.{false≢true}
use mathlib.Core.List.{IsPrefix}
use Rattle.std.proofs.Common.{◌≡◌, ◌≢◌, ℕ, zero, suc, ◌+◌, Bool, true, false, cond, Some, List, [], ◌∷◌, ◌++◌, length, map, Contains, is_some, refl, sym, ap, ◌∙◌, arith, length-append}
use Rattle.std.proofs.lemmas.List.{append-nil, reverse-append, reverse-reverse}
use Rattle.std.specs.Map.{lookup}
use Rattle.std.specs.Option.{option_map}
use Rattle.std.specs.Prelude.{◌==◌, reverse, slice_get, slice_set}
use Rattle.core_world.proofs.Flights.{other_number, same_number}
use Rattle.seat_lock.proofs.Lists.{contains_more}

pub flipped : (q s : ℕ) → (q == s) ≡ false → (s == q) ≡ false
flipped q s h = by (s == q) refl
  where
    by : (b : Bool) → (s == q) ≡ b → b ≡ false
    by true k = absurd (other_number q s h (sym (same_number s q k)))
    by false k = refl

module _ {X : Type 0} where
  -- what goes on from a beginning, the newest first
  pub grown_by : (xs past : List X) (p : IsPrefix xs (reverse past)) → past ≡ reverse p.0 ++ reverse xs
  grown_by xs past p = sym (reverse-reverse past) ∙ (ap reverse (sym p.1) ∙ reverse-append xs p.0)

  pub begins_by : (more past new : List X) → new ≡ more ++ past → IsPrefix (reverse past) (reverse new)
  begins_by more past new is = (reverse more, sym (reverse-append more past) ∙ ap reverse (sym is))

  pub begins_itself : (xs : List X) → IsPrefix xs xs
  begins_itself xs = ([], append-nil xs)

  -- nothing comes before a list that stays so long
  pub none_more : (more past : List X) → past ≡ more ++ past → more ≡ []
  none_more [] past h = refl
  none_more (x ∷ more) past h = let l : length past ≡ length (x ∷ more) + length past = ap length h ∙ length-append (x ∷ more) past in absurd (omega arith)

  pub never_longer : (x : X) (past : List X) → past ≡ x ∷ past → ⊥
  never_longer x past h = let l = ap length h in absurd (omega arith)

  pub never_two_longer : (x y : X) (past : List X) → past ≡ x ∷ (y ∷ past) → ⊥
  never_two_longer x y past h = let l = ap length h in absurd (omega arith)

  pub set_other : (xs : List X) (i q : ℕ) (x : X) → q ≢ i → slice_get (slice_set xs i x) q ≡ slice_get xs q
  set_other [] i q x apart = refl
  set_other (y ∷ xs) zero zero x apart = absurd (apart refl)
  set_other (y ∷ xs) zero (suc q) x apart = refl
  set_other (y ∷ xs) (suc i) zero x apart = refl
  set_other (y ∷ xs) (suc i) (suc q) x apart = set_other xs i q x (λ e. apart (ap suc e))

module _ {P : Type 0} where
  found_first : (y : ℕ × P) (ys : List (ℕ × P)) (s : ℕ) (q : P) → (lookup (λ a. a == s) ys ≡ Some q → Contains {X = ℕ × P} ys (s, q)) → (b : Bool) → (y.0 == s) ≡ b → cond b (Some y.1) (lookup (λ a. a == s) ys) ≡ Some q → Contains {X = ℕ × P} (y ∷ ys) (s, q)
  found_first y ys s q rest true is h =
      let first : y.0 ≡ s = same_number y.0 s is in
      let second : y.1 ≡ q = cc in
      (0, omega arith, λ i. (first i, second i))
  found_first y ys s q rest false is h = contains_more y (s, q) ys (rest h)

  -- what is found stands there
  pub found_part : (parts : List (ℕ × P)) (s : ℕ) (q : P) → lookup (λ a. a == s) parts ≡ Some q → Contains {X = ℕ × P} parts (s, q)
  found_part [] s q h = absurd (false≢true (ap is_some h))
  found_part (y ∷ ys) s q h = found_first y ys s q (found_part ys s q) (y.0 == s) refl h

  found_again : (f : ℕ → P) (y : ℕ × P) (ys : List (ℕ × P)) (s : ℕ) → lookup (λ a. a == s) (map (λ z. (z.0, f z.0)) ys) ≡ option_map (λ q. f s) (lookup (λ a. a == s) ys) → (b : Bool) → (y.0 == s) ≡ b
      → cond b (Some (f y.0)) (lookup (λ a. a == s) (map (λ z. (z.0, f z.0)) ys)) ≡ option_map (λ q. f s) (cond b (Some y.1) (lookup (λ a. a == s) ys))
  found_again f y ys s rest true is = ap (λ n. Some (f n)) (same_number y.0 s is)
  found_again f y ys s rest false is = rest

  -- what is found once each part is told anew of its author
  pub found_retold : (f : ℕ → P) (parts : List (ℕ × P)) (s : ℕ) → lookup (λ a. a == s) (map (λ z. (z.0, f z.0)) parts) ≡ option_map (λ q. f s) (lookup (λ a. a == s) parts)
  found_retold f [] s = refl
  found_retold f (y ∷ ys) s = found_again f y ys s (found_retold f ys s) (y.0 == s) refl
