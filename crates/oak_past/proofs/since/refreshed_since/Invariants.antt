use Rattle.std.proofs.Common.{◌≡◌, take}
use Rattle.std.specs.Prelude.{reverse}
use Rattle.oak_machine.specs.Sessions.{refreshed_since}
use Rattle.oak_past.proofs.since.refreshed_since.Given as goal

abbrev pub invariant-loop-event : goal.invariant-loop-event
invariant-loop-event l = l.refreshed ≡ refreshed_since (reverse (take l.event-index l.events)) l.session
