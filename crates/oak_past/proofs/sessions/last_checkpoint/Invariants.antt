use Rattle.std.proofs.Common.{◌≡◌, reverse, take}
use Rattle.oak_machine.specs.Sessions.{last_checkpoint}
use Rattle.oak_past.proofs.sessions.last_checkpoint.Given as goal

abbrev pub invariant-loop-event : goal.invariant-loop-event
invariant-loop-event l = l.last ≡ last_checkpoint (reverse (take l.event-index l.events)) l.id
