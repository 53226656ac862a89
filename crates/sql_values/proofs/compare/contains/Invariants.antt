use Rattle.std.proofs.Common.{◌≡◌, length}
use Rattle.std.specs.List.{list_any}
use Rattle.sql_query.specs.declared.query.Operator.TheVariants as op
use Rattle.sql_values.specs.Values.{compares}
use Rattle.sql_values.proofs.compare.contains.Given as goal

-- none of the values before equals the other
abbrev pub invariant-loop-left : goal.invariant-loop-left
invariant-loop-left l = list_any (λ x. compares op.Equal x l.other) l.values ≡ list_any (λ x. compares op.Equal x l.other) l.left

abbrev pub decreases-loop-left : goal.decreases-loop-left
decreases-loop-left l = length l.left
