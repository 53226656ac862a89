use Rattle.std.proofs.Common.{◌≡◌, ◌++◌}
use Rattle.std.specs.Vec.Iter.{into_iter_items}
use Rattle.std.specs.List.{filter}
use Rattle.sql_eval.specs.Conditions.{holds}
use Rattle.sql_eval.proofs.evaluate.that_hold.Given as goal

-- the tuples so far that hold, and those of what is left
abbrev pub invariant-loop-tuple : goal.invariant-loop-tuple
invariant-loop-tuple l = l.tuples.items ++ filter (λ t. holds t l.condition) (into_iter_items l.tuple-iterator) ≡ filter (λ t. holds t l.condition) l.fn.all.items
