use Rattle.std.proofs.Common.{◌≡◌, map, take}
use Rattle.jr_rules.specs.Checking.{child_rule, first_break}
use Rattle.jr_rules.proofs.children.first_child.Given as goal

abbrev pub invariant-loop-name : goal.invariant-loop-name
invariant-loop-name l = l.first ≡ first_break (child_rule l.types l.tree l.path) (map (λ n. n.now) (take l.name-index l.names))
