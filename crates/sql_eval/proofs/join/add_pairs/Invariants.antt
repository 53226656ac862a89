use Rattle.std.proofs.Common.{◌≡◌, ◌++◌, map, take}
use Rattle.std.specs.Map.Iter.{deref_pair}
use Rattle.sql_eval.specs.Joins.{pairs}
use Rattle.sql_eval.proofs.join.add_pairs.Given as goal

-- the pairs of the tuples so far
abbrev pub invariant-loop-tuple : goal.invariant-loop-tuple
invariant-loop-tuple l = l.tuples.items ≡ l.initial.tuples.items ++ pairs l.on (take l.tuple-index l.left) (map deref_pair l.right)
