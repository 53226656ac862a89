use Rattle.std.proofs.Common.{◌≡◌, ◌∷◌, [], map, take}
use Rattle.std.specs.Prelude.{Some}
use Rattle.std.specs.Map.Iter.{deref_pair}
use Rattle.sql_eval.proofs.join.singles.Given as goal

-- the tuples so far
abbrev pub invariant-loop-spot : goal.invariant-loop-spot
invariant-loop-spot l = l.tuples.items ≡ map (λ e. Some e ∷ []) (map deref_pair (take l.spot-index l.spots))
