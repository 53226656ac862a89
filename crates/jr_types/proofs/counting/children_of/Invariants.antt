use Rattle.std.proofs.Common.{◌≡◌, map, take}
use Rattle.std.specs.List.{flat_map}
use Rattle.jr_types.proofs.counting.children_of.Given as goal

-- what the types so far say of children
abbrev pub invariant-loop-definition : goal.invariant-loop-definition
invariant-loop-definition l = map (λ d. d.now) l.children.items ≡ flat_map (λ d. d.children) (map (λ d. d.now) (take l.definition-index l.types))
