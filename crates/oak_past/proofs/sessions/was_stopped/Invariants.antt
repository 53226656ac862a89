use Rattle.std.proofs.Common.{◌≡◌, reverse, take}
use Rattle.oak_machine.specs.Sessions.{is_stopped}
use Rattle.oak_past.proofs.sessions.was_stopped.Given as goal

abbrev pub invariant-loop-event : goal.invariant-loop-event
invariant-loop-event l = l.stopped ≡ is_stopped (reverse (take l.event-index l.events)) l.cluster
