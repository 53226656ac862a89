use Rattle.std.proofs.Common.{◌≡◌, ◌++◌, map, take}
use Rattle.std.specs.Map.Iter.{deref_pair}
use Rattle.std.specs.List.{filter}
use Rattle.sql_eval.specs.Joins.{joins, with_spot}
use Rattle.sql_eval.proofs.join.add_pairs_of.Given as goal

-- the pairs with the nodes so far
abbrev pub invariant-loop-spot : goal.invariant-loop-spot
invariant-loop-spot l = l.tuples.items ≡ l.initial.tuples.items ++ filter (joins l.on) (map (with_spot l.left) (map deref_pair (take l.spot-index l.right)))
