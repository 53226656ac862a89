use Rattle.std.proofs.Common.{◌≡◌, ◌++◌, map}
use Rattle.jr_order.specs.Order.{by_birth}
use Rattle.jr_order.proofs.children.push_by_birth.Given as goal

-- what is left leads there
abbrev pub invariant-loop-birth : goal.invariant-loop-birth
invariant-loop-birth l = l.names ++ map (λ e. e.0.name) l.birth-iterator ≡ l.initial.names ++ by_birth l.rest
