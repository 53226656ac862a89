use Rattle.std.proofs.Common.{◌≡◌, map, take}
use Rattle.std.specs.List.{filter}
use Rattle.std.specs.Map.Iter.{deref_pair}
use Rattle.sql_eval.specs.Joins.{joins, with_spot}
use Rattle.sql_plan.specs.Links.{at_places}
use Rattle.sql_plan.proofs.join.partners_at.Given as goal

-- the partners so far
abbrev pub invariant-loop-place : goal.invariant-loop-place
invariant-loop-place l = map deref_pair l.spots.items ≡ filter (λ r. joins l.on (with_spot l.left r)) (at_places (map deref_pair l.right) (take l.place-index l.places))
