use Rattle.std.proofs.Common.{◌≡◌, []}
use Rattle.std.specs.List.{fold}
use Rattle.jr_order.specs.Order.{with_birth}
use Rattle.jr_order.proofs.children.births_of.Given as goal

-- what is left leads there
abbrev pub invariant-loop-name : goal.invariant-loop-name
invariant-loop-name l = fold with_birth l.births l.name-iterator ≡ fold with_birth [] l.rest
