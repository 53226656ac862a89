use Rattle.std.proofs.Common.{◌≡◌, ◌++◌, map, take}
use Rattle.std.specs.Map.Iter.{deref_pair}
use Rattle.sql_eval.specs.Joins.{lonely_tuples}
use Rattle.sql_eval.proofs.join.add_lonely_tuples.Given as goal

-- the tuples without partner so far
abbrev pub invariant-loop-tuple : goal.invariant-loop-tuple
invariant-loop-tuple l = l.tuples.items ≡ l.initial.tuples.items ++ lonely_tuples l.on (take l.tuple-index l.left) (map deref_pair l.right)
