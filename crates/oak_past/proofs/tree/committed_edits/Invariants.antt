use Rattle.std.proofs.Common.{◌≡◌, reverse, take}
use Rattle.oak_machine.specs.Commits.{committed_edits}
use Rattle.oak_past.proofs.tree.committed_edits.Given as goal

-- the edits committed so far
abbrev pub invariant-loop-at : goal.invariant-loop-at
invariant-loop-at l = l.edits ≡ committed_edits (reverse (take l.at l.events))
