use Rattle.std.proofs.Common.{◌≡◌, is_some, reverse, take, filter}
use Rattle.oak_machine.specs.Heads.{draws_by, greatest_of, is_below_flying}
use Rattle.oak_machine.specs.History.{begin_of}
use Rattle.oak_past.proofs.heads.has_head.Given as goal

abbrev pub invariant-loop-event : goal.invariant-loop-event
invariant-loop-event l = l.found ≡ is_some (greatest_of (begin_of l.journal.start l.cluster) (filter (is_below_flying (reverse l.events) l.cluster) (draws_by (reverse (take l.event-index l.events)) l.cluster)))
