use Rattle.std.proofs.Common.{◌≡◌, reverse, take}
use Rattle.oak_machine.specs.Sessions.{has_left}
use Rattle.oak_past.proofs.sessions.has_left.Given as goal

abbrev pub invariant-loop-event : goal.invariant-loop-event
invariant-loop-event l = l.left ≡ has_left (reverse (take l.event-index l.events)) l.session
