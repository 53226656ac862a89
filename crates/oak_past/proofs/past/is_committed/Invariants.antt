use Rattle.std.proofs.Common.{◌≡◌, reverse, take}
use Rattle.oak_machine.specs.Commits.{is_committed}
use Rattle.oak_past.proofs.past.is_committed.Given as goal

abbrev pub invariant-loop-event : goal.invariant-loop-event
invariant-loop-event l = l.committed ≡ is_committed (reverse (take l.event-index l.events)) l.r
