use Rattle.std.proofs.Common.{◌≡◌, ◌++◌, map, drop}
use Rattle.jr_order.specs.Order.{in_order}
use Rattle.jr_order.proofs.children.in_order.Given as goal

-- what is left leads there
abbrev pub invariant-loop-name : goal.invariant-loop-name
invariant-loop-name l = l.names ++ in_order (map (λ n. n.now) (drop l.name-index l.listed)) l.rest ≡ in_order (map (λ n. n.now) l.listed) l.initial.rest
