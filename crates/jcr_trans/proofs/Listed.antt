-- The JSON of things, put one behind another, is the list of all.
use Rattle.std.proofs.Common.{◌≡◌, ◌<◌, ◌≤◌, ◌+◌, ℕ, zero, suc, List, [], ◌∷◌, ◌++◌, length, map, take, get_or, refl, sym, ap, ◌∙◌, arith}
use Rattle.std.proofs.lemmas.List.{take_more}
use Rattle.serde_json.specs.Data.{Data}

seen_behind : {X : Type 0} (f : X → Data) (xs : List X) (x : X) → map f (xs ++ x ∷ []) ≡ map f xs ++ f x ∷ []
seen_behind f [] x = refl
seen_behind f (y ∷ ys) x = ap (λ ds. f y ∷ ds) (seen_behind f ys x)

-- the first ones, with one more
pub listed_more : {X : Type 0} (f : X → Data) (xs : List X) (i : ℕ) (x : X) (old new : List Data) → i < length xs → x ≡ get_or xs i x
    → old ≡ map f (take i xs) → new ≡ old ++ f x ∷ [] → new ≡ map f (take (i + 1) xs)
listed_more f xs i x old new l at so_far put =
    put ∙ (ap (λ ds. ds ++ f x ∷ []) so_far
    ∙ (sym (seen_behind f (take i xs) x)
    ∙ ap (map f) (sym (take_more xs i x l ∙ ap (λ y. take i xs ++ y ∷ []) (sym at)))))

past : {X : Type 0} (xs : List X) (i : ℕ) → length xs ≤ i → take i xs ≡ xs
past [] zero l = refl
past [] (suc i) l = refl
past (x ∷ xs) zero l = absurd (none l)
  where
    none : length (x ∷ xs) ≤ 0 → ⊥
    none l = omega arith
past (x ∷ xs) (suc i) l = ap (λ ys. x ∷ ys) (past xs i (let m : length xs ≤ i = omega arith in m))

-- no one is left
pub listed_all : {X : Type 0} (f : X → Data) (xs : List X) (i : ℕ) (all : List Data) → length xs ≤ i → all ≡ map f (take i xs) → all ≡ map f xs
listed_all f xs i all l so_far = so_far ∙ ap (map f) (past xs i l)
