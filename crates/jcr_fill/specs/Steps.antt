-- One step after the other, up to the first refusal.
use Rattle.std.specs.Prelude.{List, [], ◌∷◌, Result, Ok, Err}
use Rattle.jr_tree.specs.declared.shared.Refusal.{Refusal}

-- refused, or else what follows
abbrev pub and_then : {A B : Type 0} → Result A Refusal → (A → Result B Refusal)
    → Result B Refusal
and_then (Ok a) next = next a
and_then (Err r) next = Err r

-- a step for each element, on what those before it made, up to the first refusal
abbrev pub each : {X S : Type 0} → (X → S → Result S Refusal) → List X → S → Result S Refusal
each step [] s = Ok s
each step (x ∷ xs) s = and_then (step x s) (each step xs)
