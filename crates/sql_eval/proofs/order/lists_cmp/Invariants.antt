use Rattle.std.proofs.Common.{◌≡◌, length}
use Rattle.std.specs.Cmp.Lexicographic.{slice_cmp}
use Rattle.sql_eval.proofs.order.lists_cmp.Given as goal

-- what is left compares as the whole lists do
abbrev pub invariant-loop-left : goal.invariant-loop-left
invariant-loop-left g l = slice_cmp g.T.Ordered.by l.items l.others ≡ slice_cmp g.T.Ordered.by l.left l.right

abbrev pub decreases-loop-left : goal.decreases-loop-left
decreases-loop-left g l = length l.left
