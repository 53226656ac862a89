use Rattle.std.proofs.Common.{◌≡◌, ◌+◌, length, map}
use Rattle.std.specs.List.{zip}
use Rattle.sql_eval.specs.Joins.{joined_all}
use Rattle.sql_eval.proofs.join.join_all.Given as goal

-- the tuples of so many selectors, joined with the others
abbrev pub invariant-loop-joins_left : goal.invariant-loop-joins_left
invariant-loop-joins_left l = record {
  places : l.count + length l.sets_left ≡ 1 + length l.sets;
  same : joined_all l.tree l.count l.tuples.items (zip l.joins_left (map (λ set. set.items) l.sets_left)) ≡ joined_all l.tree 1 l.initial.tuples.items (zip l.joins (map (λ set. set.items) l.sets));
}

abbrev pub decreases-loop-joins_left : goal.decreases-loop-joins_left
decreases-loop-joins_left l = length l.joins_left
