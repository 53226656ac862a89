use Rattle.std.proofs.Common.{◌≡◌, ◌≤◌, reverse, take}
use Rattle.oak_machine.specs.Sessions.{next_index}
use Rattle.oak_past.proofs.sessions.next_index.Given as goal

abbrev pub invariant-loop-event : goal.invariant-loop-event
invariant-loop-event l = (l.count ≡ next_index (reverse (take l.event-index l.events)) l.session) × (l.count ≤ l.event-index)
