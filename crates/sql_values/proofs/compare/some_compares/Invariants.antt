use Rattle.std.proofs.Common.{◌≡◌, length}
use Rattle.std.specs.List.{list_any}
use Rattle.sql_values.specs.Values.{compares}
use Rattle.sql_values.proofs.compare.some_compares.Given as goal

-- none of the values before compares so
abbrev pub invariant-loop-left : goal.invariant-loop-left
invariant-loop-left l = list_any (λ x. compares l.operator x l.other) l.values ≡ list_any (λ x. compares l.operator x l.other) l.left

abbrev pub decreases-loop-left : goal.decreases-loop-left
decreases-loop-left l = length l.left
