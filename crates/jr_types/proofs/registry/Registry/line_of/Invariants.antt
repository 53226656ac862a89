use Rattle.std.proofs.Common.{◌≡◌, ◌∷◌, length, take}
use Rattle.jr_types.proofs.registry.Registry.line_of.Given as goal

abbrev pub invariant-loop-place : goal.invariant-loop-place
invariant-loop-place l = l.line ≡ length l.self ∷ take l.place-index l.place-items
