use Rattle.std.proofs.Common.{◌≡◌, length}
use Rattle.std.specs.List.{list_any}
use Rattle.sql_eval.specs.Joins.{is_name_among}
use Rattle.sql_eval.proofs.join.some_among.Given as goal

-- none of the values before is a name of the set
abbrev pub invariant-loop-left : goal.invariant-loop-left
invariant-loop-left l = list_any (is_name_among l.set) l.values ≡ list_any (is_name_among l.set) l.left

abbrev pub decreases-loop-left : goal.decreases-loop-left
decreases-loop-left l = length l.left
