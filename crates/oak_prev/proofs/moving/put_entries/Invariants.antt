use Rattle.std.proofs.Common.{◌≡◌, ◌++◌, map, take}
use Rattle.oak_prev.specs.Moving.{writing_change, entry_of}
use Rattle.oak_prev.proofs.moving.put_entries.Given as goal

-- the entries so far
abbrev pub invariant-loop-entry : goal.invariant-loop-entry
invariant-loop-entry l = l.changes ≡ l.initial.changes ++ map writing_change (map entry_of (take l.entry-index l.moved))
