use Rattle.std.proofs.Common.{◌≡◌, fold}
use Rattle.std.specs.Map.{values_of}
use Rattle.oak_gc.specs.Bounds.{lesser_pair}
use Rattle.oak_gc.proofs.bound.least_value.Given as goal

-- what the values that are left make of the least so far stays
abbrev pub invariant-loop-pin : goal.invariant-loop-pin
invariant-loop-pin g l = fold lesser_pair l.least (values_of l.pin-iterator) ≡ fold lesser_pair l.initial.least (values_of l.pins)
