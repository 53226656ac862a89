use Rattle.std.proofs.Common.{◌≡◌, length, map}
use Rattle.std.specs.List.{list_all}
use Rattle.std.specs.Map.Iter.{deref}
use Rattle.sql_eval.specs.Conditions.{holds}
use Rattle.sql_plan.proofs.early.all_hold.Given as goal

-- all parts before hold
abbrev pub invariant-loop-left : goal.invariant-loop-left
invariant-loop-left l = list_all (holds l.tuple) (map deref l.parts) ≡ list_all (holds l.tuple) (map deref l.left)

abbrev pub decreases-loop-left : goal.decreases-loop-left
decreases-loop-left l = length l.left
