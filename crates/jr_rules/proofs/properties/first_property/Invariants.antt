use Rattle.std.proofs.Common.{◌≡◌, map, take}
use Rattle.jr_rules.specs.Checking.{first_break, property_rule}
use Rattle.jr_rules.proofs.properties.first_property.Given as goal

abbrev pub invariant-loop-name : goal.invariant-loop-name
invariant-loop-name l = l.first ≡ first_break (property_rule l.types l.node) (map (λ n. n.now) (take l.name-index l.names))
