use Rattle.std.proofs.Common.{◌≡◌, ◌++◌, drop, map}
use Rattle.sql_plan.specs.Index.{placed_key}
use Rattle.sql_plan.specs.Links.{keys_of_tuple, linked, placed}
use Rattle.sql_plan.proofs.join.index_of_tuples.Given as goal

-- the keys so far with their places, and those of what is left
abbrev pub invariant-loop-tuple : goal.invariant-loop-tuple
invariant-loop-tuple l = record {
  place : l.place ≡ l.tuple-index;
  all : map placed_key l.entries.items ++ placed (keys_of_tuple (linked l.link)) l.place (drop l.tuple-index l.left) ≡ placed (keys_of_tuple (linked l.link)) 0 l.left;
}
