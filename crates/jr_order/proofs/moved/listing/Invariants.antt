use Rattle.std.proofs.Common.{◌≡◌, map, take}
use Rattle.jr_value.specs.declared.value.Value.TheVariants as value
use Rattle.jr_order.proofs.moved.listing.Given as goal

-- the values so far
abbrev pub invariant-loop-name : goal.invariant-loop-name
invariant-loop-name l = l.values ≡ map value.Name (take l.name-index l.names)
