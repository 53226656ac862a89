-- A list read from its last item on: what was read is left of it.
use Rattle.std.proofs.Common.{◌≡◌, ◌<◌, ◌≤◌, ℕ, zero, suc, ◌-◌, List, [], ◌∷◌, sym, ap, ◌∙◌, refl, drop, length, arith, get_or}

dropped : {X : Type 0} (xs : List X) (i : ℕ) (d : X) → i < length xs → drop i xs ≡ get_or xs i d ∷ drop (suc i) xs
dropped [] i d h = absurd (omega arith)
dropped (x ∷ xs) zero d h = refl
dropped (x ∷ xs) (suc i) d h = dropped xs i d (omega arith)

-- one item more
pub left_more : {X : Type 0} (xs : List X) (i : ℕ) (x : X) → 0 < i → i ≤ length xs → x ≡ get_or xs (i - 1) x → drop (i - 1) xs ≡ x ∷ drop i xs
left_more xs i x low high is =
    let s : suc (i - 1) ≡ i = omega arith in
    dropped xs (i - 1) x (omega arith) ∙ (ap (λ y. y ∷ drop (suc (i - 1)) xs) (sym is) ∙ ap (λ k. x ∷ drop k xs) s)
