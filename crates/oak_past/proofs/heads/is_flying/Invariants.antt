use Rattle.std.proofs.Common.{◌≡◌, reverse, take}
use Rattle.std.specs.List.{list_any}
use Rattle.oak_machine.specs.Commits.{is_in_flight}
use Rattle.oak_machine.specs.Heads.{draws_by}
use Rattle.oak_past.proofs.heads.is_flying.Given as goal

abbrev pub invariant-loop-event : goal.invariant-loop-event
invariant-loop-event l = l.flying ≡ list_any (is_in_flight (reverse l.events)) (draws_by (reverse (take l.event-index l.events)) l.cluster)
