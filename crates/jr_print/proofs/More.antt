-- One session more.
use Rattle.std.proofs.Common.{◌≡◌, ℕ, zero, suc, ◌+◌, List, [], ◌∷◌, ◌++◌, refl, sym, ap, ◌∙◌, append_assoc, append-nil, arith}
use Rattle.std.specs.List.{flat_map, range_with_len}

same_place : (f : ℕ → List ℕ) (a b : ℕ) → a ≡ b → f a ≡ f b
same_place f a b p = ap f p

one_more : (f : ℕ → List ℕ) (a n : ℕ) → flat_map f (range_with_len a (suc n)) ≡ flat_map f (range_with_len a n) ++ f (a + n)
one_more f a zero = append-nil (f a) ∙ same_place f a (a + 0) (omega arith)
one_more f a (suc n) =
    ap (λ (rest : List ℕ). f a ++ rest) (one_more f (a + 1) n)
    ∙ (sym (append_assoc (f a) (flat_map f (range_with_len (a + 1) n)) (f (a + 1 + n)))
    ∙ ap (λ (last : List ℕ). f a ++ flat_map f (range_with_len (a + 1) n) ++ last) (same_place f (a + 1 + n) (a + suc n) (omega arith)))

-- what comes of the first n + 1 numbers
pub flat_map_more : (f : ℕ → List ℕ) (n : ℕ) → flat_map f (range_with_len 0 (n + 1)) ≡ flat_map f (range_with_len 0 n) ++ f n
flat_map_more f n =
    let p : n + 1 ≡ suc n = omega arith in
    ap (λ k. flat_map f (range_with_len 0 k)) p ∙ (one_more f 0 n ∙ ap (λ (last : List ℕ). flat_map f (range_with_len 0 n) ++ last) (same_place f (0 + n) n (omega arith)))
