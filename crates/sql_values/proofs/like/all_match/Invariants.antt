use Rattle.std.proofs.Common.{◌≡◌, length}
use Rattle.std.specs.List.{fold}
use Rattle.sql_values.specs.Matching.{parts_row, next_row}
use Rattle.sql_values.proofs.like.all_match.Given as goal

-- the parts that are left lead to the last row
abbrev pub invariant-loop-left : goal.invariant-loop-left
invariant-loop-left l = fold (λ row p. next_row p l.backwards row) l.row.items l.left ≡ parts_row l.parts l.backwards

abbrev pub decreases-loop-left : goal.decreases-loop-left
decreases-loop-left l = length l.left
