use Rattle.std.proofs.Common.{◌≡◌, length}
use Rattle.sql_pieces.specs.Leaves.{value_named}
use Rattle.sql_pieces.proofs.leaves.value_named.Given as goal

abbrev pub invariant-loop-rest : goal.invariant-loop-rest
invariant-loop-rest l = value_named l.rest l.name ≡ value_named l.vars l.name

abbrev pub decreases-loop-rest : goal.decreases-loop-rest
decreases-loop-rest l = length l.rest
