use Rattle.std.proofs.Common.{◌≡◌, ◌++◌}
use Rattle.jcr_call.proofs.queries.pairs_of.Given as goal

-- what is left completes the list so far
abbrev pub invariant-loop-name : goal.invariant-loop-name
invariant-loop-name l = l.pairs.items ++ l.name-iterator ≡ l.vars
