use Rattle.std.proofs.Common.{◌≡◌, reverse, take}
use Rattle.oak_machine.specs.Sessions.{is_drawing_among}
use Rattle.oak_past.proofs.sessions.is_drawing.Given as goal

abbrev pub invariant-loop-event : goal.invariant-loop-event
invariant-loop-event l = l.drawing ≡ is_drawing_among (reverse l.events) (reverse (take l.event-index l.events)) l.session
