use Rattle.std.proofs.Common.{◌≡◌, ◌++◌, ◌&&◌, map}
use Rattle.std.specs.Prelude.{option_to_list}
use Rattle.std.specs.List.{filter}
use Rattle.jr_rev.specs.Vectors.{sees}
use Rattle.oak_read.specs.Meaning.{is_committed}
use Rattle.oak_prev.specs.Moving.{documents_known, entries_of, entry_of}
use Rattle.oak_prev.specs.Splits.{older}
use Rattle.oak_prev.proofs.reading.Reading.put_older.Given as goal

-- the entries so far, and all but the last of the latest so far and of those that are left
abbrev pub invariant-loop-r : goal.invariant-loop-r
invariant-loop-r l =
    map entry_of l.moved.items
    ++ older (map entry_of (option_to_list l.latest) ++ entries_of l.name (filter (λ e. sees l.pin.base e.0 && is_committed (documents_known l.self.document l.self.roots) l.pin.sweep l.self.document e.0) l.r-iterator))
    ≡ map entry_of l.initial.moved.items
    ++ older (entries_of l.name (filter (λ e. sees l.pin.base e.0 && is_committed (documents_known l.self.document l.self.roots) l.pin.sweep l.self.document e.0) l.values))
