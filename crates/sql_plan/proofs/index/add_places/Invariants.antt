use Rattle.std.proofs.Common.{◌≡◌, ◌++◌, map, take}
use Rattle.sql_plan.proofs.index.add_places.Given as goal

-- the places so far
abbrev pub invariant-loop-entry : goal.invariant-loop-entry
invariant-loop-entry l = l.places.items ≡ l.initial.places.items ++ map (λ e. e.place) (take l.entry-index l.entries)
