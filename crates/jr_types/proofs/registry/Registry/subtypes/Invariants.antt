use Rattle.std.proofs.Common.{◌≡◌, map, take}
use Rattle.std.specs.List.{filter}
use Rattle.jr_types.specs.Types.{is_a}
use Rattle.jr_types.proofs.registry.Registry.subtypes.Given as goal

abbrev pub invariant-loop-registered : goal.invariant-loop-registered
invariant-loop-registered l = l.names.items ≡ map (λ d. d.name) (filter (λ d. is_a l.self d.name l.name) (map (λ r. r.definition) (take l.registered-index l.registered-items)))
