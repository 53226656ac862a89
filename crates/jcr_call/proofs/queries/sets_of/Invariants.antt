use Rattle.std.proofs.Common.{◌≡◌, map, take}
use Rattle.jr_types.specs.Types.{subtypes}
use Rattle.jcr_call.proofs.queries.sets_of.Given as goal

abbrev pub invariant-loop-name : goal.invariant-loop-name
invariant-loop-name l = map (λ set. set.items) l.sets.items ≡ map (subtypes l.types) (take l.name-index l.names)
