use Rattle.std.proofs.Common.{◌≡◌, ◌++◌}
use Rattle.jr_overlay.proofs.sight.listed.Given as goal

-- what is left completes what was done
abbrev pub invariant-loop-entry : goal.invariant-loop-entry
invariant-loop-entry l = l.list.items ++ l.entry-iterator ≡ l.fn.names
