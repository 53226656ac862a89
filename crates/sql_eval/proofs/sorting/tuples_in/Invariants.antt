use Rattle.std.proofs.Common.{◌≡◌, ◌++◌, map}
use Rattle.std.specs.Vec.Iter.{into_iter_items}
use Rattle.sql_eval.proofs.sorting.tuples_in.Given as goal

-- the tuples so far, and those of what is left
abbrev pub invariant-loop-one : goal.invariant-loop-one
invariant-loop-one l = l.tuples.items ++ map (λ r. r.tuple) (into_iter_items l.one-iterator) ≡ map (λ r. r.tuple) l.fn.ranked.items
