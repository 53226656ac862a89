use Rattle.std.proofs.Common.{◌≡◌, reverse, take}
use Rattle.oak_machine.specs.Sessions.{is_recovered}
use Rattle.oak_past.proofs.sessions.is_recovered.Given as goal

abbrev pub invariant-loop-event : goal.invariant-loop-event
invariant-loop-event l = l.recovered ≡ is_recovered (reverse (take l.event-index l.events)) l.cluster
