use Rattle.std.proofs.Common.{◌≡◌, ◌++◌, map, take}
use Rattle.sql_plan.specs.Index.{placed_key, sought}
use Rattle.sql_plan.proofs.join.add_entries.Given as goal

-- the entries so far
abbrev pub invariant-loop-key : goal.invariant-loop-key
invariant-loop-key l = map placed_key l.entries.items ≡ map placed_key l.initial.entries.items ++ map (λ s. (s, l.place)) (map sought (take l.key-index l.keys))
