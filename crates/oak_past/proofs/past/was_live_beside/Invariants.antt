use Rattle.std.proofs.Common.{◌≡◌, reverse, take}
use Rattle.oak_machine.specs.Runs.{was_live_beside}
use Rattle.oak_past.proofs.past.was_live_beside.Given as goal

abbrev pub invariant-loop-at : goal.invariant-loop-at
invariant-loop-at l = l.live ≡ was_live_beside (reverse (take l.at l.events)) l.r l.other
