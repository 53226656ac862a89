use Rattle.std.proofs.Common.{◌≡◌, length, map}
use Rattle.std.specs.Map.Iter.{deref_pair}
use Rattle.std.specs.List.{list_any}
use Rattle.sql_eval.specs.Joins.{joins, with_spot}
use Rattle.sql_eval.proofs.join.joins_some_spot.Given as goal

-- none of the nodes before is a partner
abbrev pub invariant-loop-rest : goal.invariant-loop-rest
invariant-loop-rest l = list_any (λ r. joins l.on (with_spot l.left r)) (map deref_pair l.right) ≡ list_any (λ r. joins l.on (with_spot l.left r)) (map deref_pair l.rest)

abbrev pub decreases-loop-rest : goal.decreases-loop-rest
decreases-loop-rest l = length l.rest
