use Rattle.std.proofs.Common.{◌≡◌, map, take}
use Rattle.oak_gc.proofs.reading.listed_in.Given as goal

-- the numbers so far
abbrev pub invariant-loop-entry : goal.invariant-loop-entry
invariant-loop-entry l = l.numbers ≡ map (λ e. e.number) (take l.entry-index l.entries)
