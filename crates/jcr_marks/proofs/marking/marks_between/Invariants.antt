use Rattle.std.proofs.Common.{◌≡◌, ◌++◌}
use Rattle.std.specs.Map.{keys_of}
use Rattle.jcr_marks.specs.Marks.{marks_of}
use Rattle.jcr_marks.proofs.marking.marks_between.Given as goal

-- the marks so far, and those that are left
abbrev pub invariant-loop-mark : goal.invariant-loop-mark
invariant-loop-mark l = l.marks ++ keys_of l.mark-iterator ≡ marks_of l.old l.writes
