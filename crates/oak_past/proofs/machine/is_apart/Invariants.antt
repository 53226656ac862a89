use Rattle.std.proofs.Common.{◌≡◌, reverse, take}
use Rattle.oak_machine.specs.Tests.{is_apart_among}
use Rattle.oak_past.proofs.machine.is_apart.Given as goal

abbrev pub invariant-loop-event : goal.invariant-loop-event
invariant-loop-event l = l.apart ≡ is_apart_among (reverse l.events) l.r (reverse (take l.event-index l.events))
