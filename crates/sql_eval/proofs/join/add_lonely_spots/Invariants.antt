use Rattle.std.proofs.Common.{◌≡◌, ◌++◌, map, take}
use Rattle.std.specs.Map.Iter.{deref_pair}
use Rattle.sql_eval.specs.Joins.{lonely_spots}
use Rattle.sql_eval.proofs.join.add_lonely_spots.Given as goal

-- the nodes without partner so far
abbrev pub invariant-loop-spot : goal.invariant-loop-spot
invariant-loop-spot l = l.tuples.items ≡ l.initial.tuples.items ++ lonely_spots l.on l.count l.left (map deref_pair (take l.spot-index l.right))
