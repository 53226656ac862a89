use Rattle.std.proofs.Common.{◌≡◌, length}
use Rattle.std.specs.Ordering.{nat_cmp}
use Rattle.std.specs.Cmp.Lexicographic.{slice_cmp}
use Rattle.jr_path.proofs.cursor.Cursor.cmp.Given as goal

-- what is left compares as the whole texts do
abbrev pub invariant-loop-x : goal.invariant-loop-x
invariant-loop-x l = slice_cmp nat_cmp l.initial.self l.initial.other ≡ slice_cmp nat_cmp l.self l.other

abbrev pub decreases-loop-x : goal.decreases-loop-x
decreases-loop-x l = length l.self
