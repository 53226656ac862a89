use Rattle.std.proofs.Common.{◌≡◌, ◌++◌}
use Rattle.oak_open.specs.Opened.{stays_opened, values_left}
use Rattle.oak_open.proofs.documents.staying_values.Given as goal

-- what is left so far, and what of those to come
abbrev pub invariant-loop-name : goal.invariant-loop-name
invariant-loop-name l =
    l.left ++ values_left (stays_opened l.opening.documents.now l.opening.pin.now l.document) l.name-iterator
    ≡ values_left (stays_opened l.opening.documents.now l.opening.pin.now l.document) l.document.props
