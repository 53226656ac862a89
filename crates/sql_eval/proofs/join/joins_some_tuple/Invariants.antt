use Rattle.std.proofs.Common.{◌≡◌, length}
use Rattle.std.specs.Map.Iter.{deref_pair}
use Rattle.std.specs.List.{list_any}
use Rattle.sql_eval.specs.Joins.{joins, with_spot}
use Rattle.sql_eval.proofs.join.joins_some_tuple.Given as goal

-- none of the tuples before is a partner
abbrev pub invariant-loop-rest : goal.invariant-loop-rest
invariant-loop-rest l = list_any (λ t. joins l.on (with_spot t (deref_pair l.right))) l.left ≡ list_any (λ t. joins l.on (with_spot t (deref_pair l.right))) l.rest

abbrev pub decreases-loop-rest : goal.decreases-loop-rest
decreases-loop-rest l = length l.rest
