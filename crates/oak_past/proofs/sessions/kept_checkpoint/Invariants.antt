use Rattle.std.proofs.Common.{◌≡◌, reverse, take}
use Rattle.oak_machine.specs.Sessions.{kept_checkpoint}
use Rattle.oak_past.proofs.sessions.kept_checkpoint.Given as goal

abbrev pub invariant-loop-event : goal.invariant-loop-event
invariant-loop-event l = l.kept ≡ kept_checkpoint (reverse (take l.event-index l.events)) l.id
