use Rattle.std.proofs.Common.{◌≡◌, ◌++◌, map}
use Rattle.std.specs.Vec.Iter.{into_iter_items}
use Rattle.sql_eval.specs.Keys.{ranked_of}
use Rattle.sql_eval.proofs.sorting.ranked.Given as goal

-- the tuples with their keys so far, and what is left
abbrev pub invariant-loop-tuple : goal.invariant-loop-tuple
invariant-loop-tuple l = l.ranked.items ++ map (ranked_of l.orders) (into_iter_items l.tuple-iterator) ≡ map (ranked_of l.orders) l.fn.tuples.items
