use Rattle.std.proofs.Common.{◌≡◌}
use Rattle.std.specs.List.{list_all}
use Rattle.std.specs.Map.{keys_of}
use Rattle.oak_open.specs.Opened.{stays_opened}
use Rattle.oak_open.proofs.documents.entries_stay.Given as goal

-- what is left decides
abbrev pub invariant-loop-r : goal.invariant-loop-r
invariant-loop-r g l =
    list_all (stays_opened l.opening.documents.now l.opening.pin.now l.document) (keys_of l.r-iterator)
    ≡ list_all (stays_opened l.opening.documents.now l.opening.pin.now l.document) (keys_of l.entries)
