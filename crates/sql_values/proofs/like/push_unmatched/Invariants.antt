use Rattle.std.proofs.Common.{◌≡◌, ◌++◌, false, length, map}
use Rattle.sql_values.proofs.like.push_unmatched.Given as goal

-- the row so far, and what is left of it
abbrev pub invariant-loop-left : goal.invariant-loop-left
invariant-loop-left l = l.row.items ++ map (λ c. false) l.left ≡ l.initial.row.items ++ map (λ c. false) l.backwards

abbrev pub decreases-loop-left : goal.decreases-loop-left
decreases-loop-left l = length l.left
