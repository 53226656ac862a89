use Rattle.std.proofs.Common.{◌≡◌, ◌++◌, false, length}
use Rattle.sql_values.specs.Matching.{rest_row}
use Rattle.sql_values.proofs.like.push_rests.Given as goal

-- the row so far, and what is left of it
abbrev pub invariant-loop-left : goal.invariant-loop-left
invariant-loop-left l = l.next.items ++ rest_row l.any l.left ≡ l.initial.next.items ++ rest_row false l.row

abbrev pub decreases-loop-left : goal.decreases-loop-left
decreases-loop-left l = length l.left
