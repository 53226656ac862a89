use Rattle.std.proofs.Common.{◌≡◌, ◌++◌, drop, map}
use Rattle.std.specs.Map.Iter.{deref_pair}
use Rattle.sql_plan.specs.Index.{placed_key}
use Rattle.sql_plan.specs.Links.{keys_of_node, linked, placed}
use Rattle.sql_plan.proofs.join.index_of_nodes.Given as goal

-- the keys so far with their places, and those of what is left
abbrev pub invariant-loop-spot : goal.invariant-loop-spot
invariant-loop-spot l = record {
  place : l.place ≡ l.spot-index;
  all : map placed_key l.entries.items ++ placed (keys_of_node (linked l.link)) l.place (map deref_pair (drop l.spot-index l.right)) ≡ placed (keys_of_node (linked l.link)) 0 (map deref_pair l.right);
}
