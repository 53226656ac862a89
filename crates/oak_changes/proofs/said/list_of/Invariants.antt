use Rattle.std.proofs.Common.{◌≡◌, ◌++◌}
use Rattle.std.specs.Map.{values_of}
use Rattle.oak_changes.proofs.said.list_of.Given as goal

-- the changes so far, and those that are left
abbrev pub invariant-loop-change : goal.invariant-loop-change
invariant-loop-change l = l.list ++ values_of l.change-iterator ≡ values_of l.fn.changes
