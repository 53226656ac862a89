use Rattle.std.proofs.Common.{◌≡◌, length}
use Rattle.std.specs.List.{list_any}
use Rattle.sql_eval.specs.Joins.{is_typed}
use Rattle.sql_eval.proofs.join.has_type.Given as goal

-- none of the properties before has a type of the set
abbrev pub invariant-loop-left : goal.invariant-loop-left
invariant-loop-left l = list_any (is_typed l.set l.node) l.properties ≡ list_any (is_typed l.set l.node) l.left

abbrev pub decreases-loop-left : goal.decreases-loop-left
decreases-loop-left l = length l.left
