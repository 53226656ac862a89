-- Steps that follow each other: what came of each, and what all of them keep.
use Rattle.std.proofs.Common.{◌≡◌, List, refl}
use Rattle.std.specs.Prelude.{IfOk, Result, Ok, Err}
use Rattle.std.proofs.lemmas.Result.{IfOk-at_ok}
use Rattle.jr_tree.specs.declared.shared.Refusal.{Refusal}
use Rattle.jcr_fill.specs.Steps.{and_then, each}
use Rattle.jcr_fill.proofs.Fills.{err-ok}
use Rattle.jcr_fill.proofs.Touched.{all_have, each_holds}

-- what came of the first step, and that the second made the rest of it
pub came_first : {A B : Type 0} (r : Result A Refusal) (next : A → Result B Refusal) (b : B)
    → and_then r next ≡ Ok b → (a : A) × (r ≡ Ok a) × (next a ≡ Ok b)
came_first (Ok a) next b h = (a, refl, h)
came_first (Err r) next b h = absurd (err-ok h)

-- what holds of each result
for_ok : {A : Type 0} (J : A → Type 0) (r : Result A Refusal) → ((a : A) → r ≡ Ok a → J a) → IfOk r J
for_ok J (Ok a) h = h a refl
for_ok J (Err r) h = tt

-- what each step keeps, all of them keep
pub each_keeps : {X S : Type 0} (P : S → Type 0) (step : X → S → Result S Refusal)
    → ((x : X) (s t : S) → step x s ≡ Ok t → P s → P t) → (xs : List X) (s t : S) → each step xs s ≡ Ok t → P s → P t
each_keeps {S = S} P step keeps xs s t h is = IfOk-at_ok P h (each_holds P step xs
    (all_have (λ x. (u : S) → P u → IfOk (step x u) P) (λ x u held. for_ok P (step x u) (λ w e. keeps x u w e held)) xs) s is)
