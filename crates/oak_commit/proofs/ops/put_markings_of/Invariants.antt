use Rattle.std.proofs.Common.{◌≡◌, ◌++◌, take}
use Rattle.std.specs.List.{flat_map}
use Rattle.oak_commit.specs.Writing.{marking_of}
use Rattle.oak_commit.proofs.ops.put_markings_of.Given as goal

-- the notes of the marks so far
abbrev pub invariant-loop-mark : goal.invariant-loop-mark
invariant-loop-mark l = l.changes ≡ l.initial.changes ++ flat_map (marking_of l.r) (take l.mark-index l.marks)
