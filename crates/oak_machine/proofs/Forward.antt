-- A journal read from its first event on, against histories, whose newest event comes first.
use Rattle.std.proofs.Common.{◌≡◌, ◌<◌, ℕ, suc, ◌+◌, List, [], ◌∷◌, ◌++◌, sym, ap, ◌∙◌, reverse, take, length, arith, get_or}
use Rattle.std.proofs.Math.Seq.{take-suc}
use Rattle.std.proofs.lemmas.List.{reverse-append}

-- one event more
pub past_more : {X : Type 0} (xs : List X) (i : ℕ) (x : X) → i < length xs → x ≡ get_or xs i x → reverse (take (i + 1) xs) ≡ x ∷ reverse (take i xs)
past_more xs i x within is =
    let p : i + 1 ≡ suc i = omega arith in
    let taken : take (i + 1) xs ≡ take i xs ++ x ∷ [] = ap (λ k. take k xs) p ∙ take-suc xs i x within ∙ ap (λ y. take i xs ++ y ∷ []) (sym is) in
    ap reverse taken ∙ reverse-append (take i xs) (x ∷ [])

-- one event more, whatever it is
pub past_longer : {X : Type 0} (xs : List X) (i : ℕ) (d : X) → i < length xs → reverse (take (i + 1) xs) ≡ get_or xs i d ∷ reverse (take i xs)
past_longer xs i d within =
    let p : i + 1 ≡ suc i = omega arith in
    ap reverse (ap (λ k. take k xs) p ∙ take-suc xs i d within) ∙ reverse-append (take i xs) (get_or xs i d ∷ [])
