use Rattle.std.proofs.Common.{◌≡◌, reverse, take}
use Rattle.oak_machine.specs.Tests.{is_below_kept_among}
use Rattle.oak_past.proofs.machine.is_below_kept.Given as goal

abbrev pub invariant-loop-event : goal.invariant-loop-event
invariant-loop-event l = l.below ≡ is_below_kept_among (reverse l.events) l.m (reverse (take l.event-index l.events))
