use Rattle.std.proofs.Common.{◌≡◌, fold, take}
use Rattle.oak_gc.specs.Bounds.{lesser_pair}
use Rattle.oak_gc.proofs.bound.least_of.Given as goal

-- the least of those so far
abbrev pub invariant-loop-pin : goal.invariant-loop-pin
invariant-loop-pin l = l.least ≡ fold lesser_pair l.initial.least (take l.pin-index l.pins)
