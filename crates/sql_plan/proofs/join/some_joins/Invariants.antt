use Rattle.std.proofs.Common.{◌≡◌, length}
use Rattle.std.specs.List.{list_any}
use Rattle.std.specs.Map.Iter.{deref_pair}
use Rattle.sql_eval.specs.Joins.{joins, with_spot}
use Rattle.sql_plan.specs.Links.{at_places}
use Rattle.sql_plan.proofs.join.some_joins.Given as goal

-- none of the tuples before is a partner
abbrev pub invariant-loop-rest : goal.invariant-loop-rest
invariant-loop-rest l = list_any (λ t. joins l.on (with_spot t (deref_pair l.right))) (at_places l.left l.places) ≡ list_any (λ t. joins l.on (with_spot t (deref_pair l.right))) (at_places l.left l.rest)

abbrev pub decreases-loop-rest : goal.decreases-loop-rest
decreases-loop-rest l = length l.rest
