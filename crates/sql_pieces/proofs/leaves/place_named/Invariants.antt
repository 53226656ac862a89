use Rattle.std.proofs.Common.{◌≡◌, length}
use Rattle.sql_pieces.specs.Leaves.{place_from}
use Rattle.sql_pieces.proofs.leaves.place_named.Given as goal

abbrev pub invariant-loop-rest : goal.invariant-loop-rest
invariant-loop-rest l = place_from l.place l.rest l.name ≡ place_from 0 l.names l.name

abbrev pub decreases-loop-rest : goal.decreases-loop-rest
decreases-loop-rest l = length l.rest
