use Rattle.std.proofs.Common.{◌≡◌, ◌++◌, drop}
use Rattle.jcr_frozen.proofs.frozen.onto.Given as goal

-- what is left leads there
abbrev pub invariant-loop-name : goal.invariant-loop-name
invariant-loop-name l = l.onto ++ drop l.name-index l.names ≡ l.path ++ l.names
