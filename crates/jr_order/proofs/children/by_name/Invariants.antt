use Rattle.std.proofs.Common.{◌≡◌, drop}
use Rattle.std.specs.List.{fold}
use Rattle.jr_order.specs.Order.{by_name, with_ordered_name}
use Rattle.jr_order.proofs.children.by_name.Given as goal

-- what is left leads there
abbrev pub invariant-loop-name : goal.invariant-loop-name
invariant-loop-name l = fold with_ordered_name l.names (drop l.name-index l.rest) ≡ by_name l.rest
