use Rattle.std.proofs.Common.{◌≡◌, reverse, take}
use Rattle.std.specs.List.{list_any}
use Rattle.oak_machine.specs.Runs.{is_bound}
use Rattle.oak_machine.specs.Sessions.{since}
use Rattle.oak_past.proofs.sessions.has_bound_since.Given as goal

abbrev pub invariant-loop-event : goal.invariant-loop-event
invariant-loop-event l = l.bound ≡ list_any is_bound (since (reverse (take l.event-index l.events)) l.session)
