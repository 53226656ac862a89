use Rattle.std.proofs.Common.{◌≡◌, map, take}
use Rattle.std.specs.Map.Iter.{deref, deref_pair}
use Rattle.sql_plan.specs.Early.{early_nodes}
use Rattle.sql_plan.proofs.early.nodes_of.Given as goal

-- the nodes so far
abbrev pub invariant-loop-spot : goal.invariant-loop-spot
invariant-loop-spot l = map deref_pair l.spots.items ≡ early_nodes (map deref_pair (take l.spot-index l.spot-items)) l.set (map deref l.parts) l.selector
