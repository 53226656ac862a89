use Rattle.std.proofs.Common.{◌≡◌, ◌∷◌, [], map}
use Rattle.std.specs.Prelude.{None}
use Rattle.std.specs.Map.Iter.{deref_pair}
use Rattle.std.specs.List.{repeat}
use Rattle.std.specs.Option.{option_map}
use Rattle.sql_eval.proofs.tuple.Tuple.behind.Given as goal

-- the missing nodes so far
abbrev pub invariant-loop : goal.invariant-loop
invariant-loop l = map (option_map deref_pair) l.spots.items ≡ repeat l.counter (None ∷ [])
