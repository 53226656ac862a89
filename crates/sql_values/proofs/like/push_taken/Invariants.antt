use Rattle.std.proofs.Common.{◌≡◌, ◌++◌, ◌&&◌, length, map}
use Rattle.std.specs.List.{zip}
use Rattle.sql_values.specs.Matching.{takes}
use Rattle.sql_values.proofs.like.push_taken.Given as goal

-- the row so far, and what is left of it
abbrev pub invariant-loop-left : goal.invariant-loop-left
invariant-loop-left l = l.next.items ++ map (λ e. takes l.part e.0 && e.1) (zip l.left l.right) ≡ l.initial.next.items ++ map (λ e. takes l.part e.0 && e.1) (zip l.backwards l.row)

abbrev pub decreases-loop-left : goal.decreases-loop-left
decreases-loop-left l = length l.left
