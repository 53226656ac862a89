use Rattle.std.proofs.Common.{◌≡◌, ◌++◌, map, take}
use Rattle.jr_types.specs.Registered.{types_at}
use Rattle.jr_types.proofs.registry.Registry.add_at.Given as goal

abbrev pub invariant-loop-place : goal.invariant-loop-place
invariant-loop-place l = map (λ d. d.now) l.types.items ≡ map (λ d. d.now) l.initial.types.items ++ types_at l.self (take l.place-index l.places)
