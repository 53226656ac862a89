use Rattle.std.proofs.Common.{◌≡◌, ◌++◌, length, false}
use Rattle.sql_pieces.specs.Leaves.{unquoted}
use Rattle.sql_pieces.proofs.leaves.unquoted.Given as goal

abbrev pub invariant-loop-rest : goal.invariant-loop-rest
invariant-loop-rest l = l.text.items ++ unquoted l.after_quote l.rest ≡ unquoted false l.bytes

abbrev pub decreases-loop-rest : goal.decreases-loop-rest
decreases-loop-rest l = length l.rest
