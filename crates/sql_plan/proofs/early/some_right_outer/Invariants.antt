use Rattle.std.proofs.Common.{◌≡◌, length}
use Rattle.std.specs.List.{list_any}
use Rattle.sql_plan.specs.Early.{is_right_outer}
use Rattle.sql_plan.proofs.early.some_right_outer.Given as goal

-- none of the joins before is a right outer one
abbrev pub invariant-loop-left : goal.invariant-loop-left
invariant-loop-left l = list_any is_right_outer l.joins ≡ list_any is_right_outer l.left

abbrev pub decreases-loop-left : goal.decreases-loop-left
decreases-loop-left l = length l.left
