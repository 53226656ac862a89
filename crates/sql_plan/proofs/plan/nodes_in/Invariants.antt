use Rattle.std.proofs.Common.{◌≡◌, ◌++◌, map}
use Rattle.std.specs.Map.Iter.{deref_pair}
use Rattle.sql_plan.proofs.plan.nodes_in.Given as goal

-- the nodes so far, and what is left
abbrev pub invariant-loop-spot : goal.invariant-loop-spot
invariant-loop-spot l = map deref_pair l.nodes.items ++ l.spot-iterator ≡ l.tree
