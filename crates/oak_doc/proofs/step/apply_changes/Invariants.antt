use Rattle.std.proofs.Common.{◌≡◌, fold, take}
use Rattle.oak_doc.specs.Updates.{changed}
use Rattle.oak_doc.proofs.step.apply_changes.Given as goal

-- the changes so far are made
abbrev pub invariant-loop-change : goal.invariant-loop-change
invariant-loop-change l = l.document ≡ fold changed l.initial.document (take l.change-index l.changes)
