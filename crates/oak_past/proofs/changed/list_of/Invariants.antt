use Rattle.std.proofs.Common.{◌≡◌, ◌++◌}
use Rattle.std.specs.Map.{values_of}
use Rattle.oak_past.proofs.changed.list_of.Given as goal

-- what is left completes the list so far
abbrev pub invariant-loop-change : goal.invariant-loop-change
invariant-loop-change l = l.list ++ values_of l.change-iterator ≡ values_of l.fn.changes
