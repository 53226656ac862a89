use Rattle.std.proofs.Common.{◌≡◌, reverse, take, filter}
use Rattle.std.specs.List.{fold}
use Rattle.oak_machine.specs.Heads.{draws_by, greater_of, is_below_flying, local}
use Rattle.oak_past.proofs.heads.local.Given as goal

-- the greatest of what was passed and of what is left stays
abbrev pub invariant-loop-at : goal.invariant-loop-at
invariant-loop-at l = (fold greater_of l.local (filter (is_below_flying (reverse l.events) l.cluster) (draws_by (reverse (take l.at l.events)) l.cluster)) ≡ local l.journal.start (reverse l.events) l.cluster) × (l.local.cluster ≡ l.cluster)
