use Rattle.std.proofs.Common.{◌≡◌, ◌+◌, length, map}
use Rattle.std.specs.List.{AllByRecursion}
use Rattle.std.specs.Map.Iter.{deref_pair}
use Rattle.std.specs.Option.{option_copied}
use Rattle.sql_plan.specs.Early.{joined_early, tuples_early}
use Rattle.sql_plan.proofs.plan.tuples_of.Given as goal

-- the tuples of so many selectors, joined with the others
abbrev pub invariant-loop-joins_left : goal.invariant-loop-joins_left
invariant-loop-joins_left l = record {
  places : l.count + length l.sets_left ≡ length l.sets;
  sized : AllByRecursion (λ t. length t ≡ l.count) l.tuples.items;
  same : joined_early (option_copied l.filter) (map deref_pair l.nodes) l.count l.tuples.items l.joins_left (map (λ set. set.items) l.sets_left) ≡ tuples_early (option_copied l.filter) (map deref_pair l.nodes) l.joins (map (λ set. set.items) l.sets);
}

abbrev pub decreases-loop-joins_left : goal.decreases-loop-joins_left
decreases-loop-joins_left l = length l.joins_left
