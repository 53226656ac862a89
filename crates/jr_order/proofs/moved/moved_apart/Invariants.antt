use Rattle.std.proofs.Common.{◌≡◌, take}
use Rattle.std.specs.List.{flat_map}
use Rattle.std.specs.Option.{option_copied}
use Rattle.jr_order.specs.Order.{around}
use Rattle.jr_order.proofs.moved.moved_apart.Given as goal

-- what stands in the place of the names so far
abbrev pub invariant-loop-other : goal.invariant-loop-other
invariant-loop-other l = l.moved ≡ flat_map (around l.name (option_copied l.before)) (take l.other-index l.names)
