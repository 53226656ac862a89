use Rattle.std.proofs.Common.{◌≡◌, reverse, take, filter}
use Rattle.std.specs.List.{list_all}
use Rattle.jr_rev.specs.Revisions.{is_before}
use Rattle.oak_machine.specs.Commits.{is_in_flight}
use Rattle.oak_machine.specs.Heads.{draws_by}
use Rattle.oak_past.proofs.heads.is_below_flying.Given as goal

abbrev pub invariant-loop-event : goal.invariant-loop-event
invariant-loop-event l = l.below ≡ list_all (is_before l.r) (filter (is_in_flight (reverse l.events)) (draws_by (reverse (take l.event-index l.events)) l.cluster))
