use Rattle.std.proofs.Common.{◌≡◌, ◌++◌}
use Rattle.oak_open.specs.Opened.{stays_opened, those}
use Rattle.oak_open.proofs.documents.staying.Given as goal

-- what is left so far, and what of those to come
abbrev pub invariant-loop-r : goal.invariant-loop-r
invariant-loop-r g l =
    l.left ++ those (stays_opened l.opening.documents.now l.opening.pin.now l.document) l.r-iterator
    ≡ those (stays_opened l.opening.documents.now l.opening.pin.now l.document) l.entries
