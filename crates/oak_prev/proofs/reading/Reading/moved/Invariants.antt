use Rattle.std.proofs.Common.{◌≡◌, ◌++◌, map}
use Rattle.std.specs.List.{flat_map}
use Rattle.oak_prev.specs.Moving.{documents_known, entries_of, entry_of, moved_entries}
use Rattle.oak_prev.specs.Splits.{older_values}
use Rattle.oak_prev.proofs.reading.Reading.moved.Given as goal

-- the entries so far, and those of the properties that are left
abbrev pub invariant-loop-name : goal.invariant-loop-name
invariant-loop-name l =
    map entry_of l.moved.items ++ flat_map (λ p. entries_of p.0 (older_values (documents_known l.self.document l.self.roots) l.pin l.self.document p.1)) l.name-iterator
    ≡ moved_entries (documents_known l.self.document l.self.roots) l.pin l.self.document
