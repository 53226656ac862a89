use Rattle.std.proofs.Common.{◌≡◌, ◌++◌, map, take}
use Rattle.std.specs.Map.Iter.{deref_pair}
use Rattle.sql_eval.specs.Joins.{with_spot}
use Rattle.sql_plan.proofs.join.add_pairs_of.Given as goal

-- the pairs so far
abbrev pub invariant-loop-spot : goal.invariant-loop-spot
invariant-loop-spot l = l.tuples.items ≡ l.initial.tuples.items ++ map (with_spot l.left) (map deref_pair (take l.spot-index l.spots))
