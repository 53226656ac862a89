use Rattle.std.proofs.Common.{◌≡◌, reverse, take}
use Rattle.oak_machine.specs.Sessions.{has_reader}
use Rattle.oak_past.proofs.sessions.has_reader.Given as goal

abbrev pub invariant-loop-event : goal.invariant-loop-event
invariant-loop-event l = l.reader ≡ has_reader (reverse (take l.event-index l.events)) l.session
