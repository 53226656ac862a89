use Rattle.std.proofs.Common.{◌≡◌, reverse, take}
use Rattle.oak_machine.specs.Commits.{is_refused}
use Rattle.oak_past.proofs.past.is_refused.Given as goal

abbrev pub invariant-loop-event : goal.invariant-loop-event
invariant-loop-event l = l.refused ≡ is_refused (reverse (take l.event-index l.events)) l.r
