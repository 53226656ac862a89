use Rattle.std.proofs.Common.{◌≡◌, map, take}
use Rattle.std.specs.List.{flat_map}
use Rattle.jr_types.specs.Types.{props_of}
use Rattle.jr_types.proofs.registry.Registry.props_of.Given as goal

-- what the types so far say of properties
abbrev pub invariant-loop-definition : goal.invariant-loop-definition
invariant-loop-definition l = map (λ d. d.now) l.props.items ≡ flat_map props_of (map (λ d. d.now) (take l.definition-index l.types))
