use Rattle.std.proofs.Common.{◌≡◌, length}
use Rattle.std.specs.List.{list_any}
use Rattle.std.specs.Ordering.{eq_by_cmp}
use Rattle.jr_path.specs.Names.{name_cmp}
use Rattle.sql_eval.proofs.join.is_among.Given as goal

-- none of the names before is the name
abbrev pub invariant-loop-left : goal.invariant-loop-left
invariant-loop-left l = list_any (eq_by_cmp name_cmp l.name) l.set ≡ list_any (eq_by_cmp name_cmp l.name) l.left

abbrev pub decreases-loop-left : goal.decreases-loop-left
decreases-loop-left l = length l.left
