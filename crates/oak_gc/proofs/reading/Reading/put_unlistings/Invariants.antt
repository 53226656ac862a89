use Rattle.std.proofs.Common.{◌≡◌, ◌++◌, take}
use Rattle.std.specs.List.{flat_map}
use Rattle.oak_gc.specs.Noting.{unlisting}
use Rattle.oak_gc.proofs.reading.Reading.put_unlistings.Given as goal

-- those so far are unlisted
abbrev pub invariant-loop-entry : goal.invariant-loop-entry
invariant-loop-entry l = l.changes ≡ l.initial.changes ++ flat_map (unlisting l.bound l.self) (take l.entry-index l.entries)
