-- A loop that makes a step for each element, up to the first refusal.
use Rattle.std.proofs.Common.{◌≡◌, ℕ, suc, ◌+◌, ◌<◌, add-one, List, ◌∷◌, get_or, drop, length, map, sym, ap, ◌∙◌}
use Rattle.std.specs.Prelude.{Result, Ok}
use Rattle.std.proofs.Math.Seq.{drop-cons}
use Rattle.jr_tree.specs.declared.shared.Refusal.{Refusal}
use Rattle.jr_overlay.specs.Overlays.{Sighted}
use Rattle.jcr_write.specs.Places.{IsDueRefusal}
use Rattle.jcr_fill.specs.Steps.{and_then, each}

-- what is left to do begins with the step of the element
step_first : {R X S : Type 0} (see : R → X) (step : X → S → Result S Refusal) (rs : List R) (i : ℕ) (d : R) (s : S)
    → d ≡ get_or rs i d → i < length rs → each step (map see (drop i rs)) s ≡ and_then (step (see d) s) (each step (map see (drop (suc i) rs)))
step_first see step rs i d s is lt = ap (λ ds. each step (map see ds) s) (drop-cons rs i d lt ∙ ap (λ e. e ∷ drop (suc i) rs) (sym is))

-- the first refusal is the one that is due
pub loop_err : {R X S : Type 0} (see : R → X) (step : X → S → Result S Refusal) (rs : List R) (i : ℕ) (d : R) (all : Result S Refusal) (s : S) (r : Refusal)
    → d ≡ get_or rs i d → i < length rs → each step (map see (drop i rs)) s ≡ all → IsDueRefusal (step (see d) s) r → IsDueRefusal all r
loop_err see step rs i d all s r is lt before due m =
    sym before ∙ (step_first see step rs i d s is lt ∙ ap (λ q. and_then q (each step (map see (drop (suc i) rs)))) (due m))

-- the same, of elements that are seen as they are
pub own_loop_err : {X S : Type 0} (step : X → S → Result S Refusal) (xs : List X) (i : ℕ) (d : X) (all : Result S Refusal) (s : S) (r : Refusal)
    → d ≡ get_or xs i d → i < length xs → each step (drop i xs) s ≡ all → IsDueRefusal (step d s) r → IsDueRefusal all r
own_loop_err step xs i d all s r is lt before due m =
    sym before ∙ (ap (λ ds. each step ds s) (drop-cons xs i d lt ∙ ap (λ e. e ∷ drop (suc i) xs) (sym is)) ∙ ap (λ q. and_then q (each step (drop (suc i) xs))) (due m))

-- what is left after a step that was made, over a view that stays the same
pub own_loop_next : {X S : Type 0} (step : Sighted → X → S → Result S Refusal) (s t : Sighted) (xs : List X) (i : ℕ) (d : X) (all : Result S Refusal) (m n : S)
    → t ≡ s → d ≡ get_or xs i d → i < length xs → each (step s) (drop i xs) m ≡ all → step t d m ≡ Ok n → each (step s) (drop (i + 1) xs) n ≡ all
own_loop_next step s t xs i d all m n same is lt before made =
    ap (λ k. each (step s) (drop k xs) n) (add-one i)
    ∙ (sym (ap (λ q. and_then q (each (step s) (drop (suc i) xs))) (ap (λ v. step v d m) (sym same) ∙ made))
    ∙ (sym (ap (λ ds. each (step s) ds m) (drop-cons xs i d lt ∙ ap (λ e. e ∷ drop (suc i) xs) (sym is))) ∙ before))

-- the first refusal among the entries of a map, of which the first that is left is this one
pub left_err : {X S : Type 0} (step : X → S → Result S Refusal) (left rest : List X) (e : X) (all : Result S Refusal) (s : S) (r : Refusal)
    → left ≡ e ∷ rest → each step left s ≡ all → IsDueRefusal (step e s) r → IsDueRefusal all r
left_err step left rest e all s r is before due m = sym before ∙ (ap (λ ds. each step ds s) is ∙ ap (λ q. and_then q (each step rest)) (due m))
