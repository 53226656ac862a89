use Rattle.std.proofs.Common.{◌≡◌, reverse, take}
use Rattle.oak_machine.specs.Sessions.{is_attached}
use Rattle.oak_past.proofs.sessions.is_attached.Given as goal

abbrev pub invariant-loop-event : goal.invariant-loop-event
invariant-loop-event l = l.attached ≡ is_attached (reverse (take l.event-index l.events)) l.session
