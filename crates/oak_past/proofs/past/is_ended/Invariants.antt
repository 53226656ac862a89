use Rattle.std.proofs.Common.{◌≡◌, reverse, take}
use Rattle.oak_machine.specs.Commits.{is_ended}
use Rattle.oak_past.proofs.past.is_ended.Given as goal

abbrev pub invariant-loop-event : goal.invariant-loop-event
invariant-loop-event l = l.ended ≡ is_ended (reverse (take l.event-index l.events)) l.r
