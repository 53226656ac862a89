use Rattle.std.proofs.Common.{◌≡◌, ◌++◌, map}
use Rattle.std.specs.Map.Iter.{deref_pair}
use Rattle.sql_eval.specs.Joins.{nodes_of_type}
use Rattle.sql_eval.proofs.join.nodes_of_type.Given as goal

-- the nodes so far, and those of what is left
abbrev pub invariant-loop-path : goal.invariant-loop-path
invariant-loop-path l = map deref_pair l.spots.items ++ nodes_of_type l.path-iterator l.set ≡ nodes_of_type l.tree l.set
