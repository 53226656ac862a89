-- Missing nodes, one more.
use Rattle.std.proofs.Common.{◌≡◌, ℕ, zero, suc, ◌+◌, List, [], ◌∷◌, ◌++◌, map, refl, sym, ap, ◌∙◌, add-one}
use Rattle.std.specs.Prelude.{Option, None}
use Rattle.std.specs.List.{repeat}
use Rattle.std.specs.Option.{option_map}
use Rattle.std.proofs.lemmas.List.{map-append}

one_more : {X : Type 0} (x : X) (n : ℕ) → repeat (suc n) (x ∷ []) ≡ repeat n (x ∷ []) ++ x ∷ []
one_more x zero = refl
one_more x (suc n) = ap (λ xs. x ∷ xs) (one_more x n)

pub missing_more : {A B : Type 0} (f : A → B) (n : ℕ) (xs ys : List (Option A)) → map (option_map f) xs ≡ repeat n (None ∷ []) → ys ≡ xs ++ None ∷ [] → map (option_map f) ys ≡ repeat (n + 1) (None ∷ [])
missing_more f n xs ys h is =
    ap (map (option_map f)) is
    ∙ map-append (option_map f) xs (None ∷ [])
    ∙ ap (λ zs. zs ++ None ∷ []) h
    ∙ sym (one_more None n)
    ∙ ap (λ k. repeat k (None ∷ [])) (sym (add-one n))
