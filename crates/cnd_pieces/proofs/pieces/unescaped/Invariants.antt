use Rattle.std.proofs.Common.{◌≡◌, ◌++◌, length, false}
use Rattle.cnd_pieces.specs.Pieces.{unescaped}
use Rattle.cnd_pieces.proofs.pieces.unescaped.Given as goal

abbrev pub invariant-loop-rest : goal.invariant-loop-rest
invariant-loop-rest l = l.text.items ++ unescaped l.escaped l.rest ≡ unescaped false l.bytes

abbrev pub decreases-loop-rest : goal.decreases-loop-rest
decreases-loop-rest l = length l.rest
