use Rattle.std.proofs.Common.{◌≡◌, ◌++◌, drop, map}
use Rattle.std.specs.Map.Iter.{deref_pair}
use Rattle.sql_eval.specs.Joins.{pairs}
use Rattle.sql_plan.proofs.join.add_pairs.Given as goal

-- the pairs so far, and those of the tuples that are left
abbrev pub invariant-loop-tuple : goal.invariant-loop-tuple
invariant-loop-tuple l = l.tuples.items ++ pairs l.on (drop l.tuple-index l.left) (map deref_pair l.right) ≡ l.initial.tuples.items ++ pairs l.on l.left (map deref_pair l.right)
