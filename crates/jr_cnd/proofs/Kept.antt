-- Names that are kept, one behind another.
use Rattle.std.proofs.Common.{◌≡◌, ◌<◌, ◌+◌, ℕ, Bool, List, [], ◌∷◌, ◌++◌, length, take, get_or, sym, ap, ◌∙◌}
use Rattle.std.specs.List.{filter}
use Rattle.std.proofs.lemmas.List.{take_more}
use Rattle.std.proofs.lemmas.List.Elements.{filter-append}

-- those of the first ones that are kept, with one more
pub kept_more : {X : Type 0} (test : X → Bool) (xs : List X) (i : ℕ) (x : X) (old new : List X) → i < length xs → x ≡ get_or xs i x
    → old ≡ filter test (take i xs) → new ≡ old ++ filter test (x ∷ []) → new ≡ filter test (take (i + 1) xs)
kept_more test xs i x old new l at so_far put =
    put ∙ (ap (λ ys. ys ++ filter test (x ∷ [])) so_far
    ∙ (sym (filter-append test (take i xs) (x ∷ []))
    ∙ ap (filter test) (sym (take_more xs i x l ∙ ap (λ y. take i xs ++ y ∷ []) (sym at)))))
