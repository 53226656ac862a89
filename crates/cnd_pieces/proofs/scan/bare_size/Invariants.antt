use Rattle.std.proofs.Common.{◌≡◌, ◌+◌, ◌≤◌, length}
use Rattle.cnd_pieces.specs.Tokens.{bare_from}
use Rattle.cnd_pieces.proofs.scan.bare_size.Given as goal

abbrev pub invariant-loop-rest : goal.invariant-loop-rest
invariant-loop-rest l = record {
  size : bare_from l.size l.rest ≡ bare_from 1 l.bytes;
  left : l.size + length l.rest ≡ 1 + length l.bytes;
  least : 1 ≤ l.size;
}

abbrev pub decreases-loop-rest : goal.decreases-loop-rest
decreases-loop-rest l = length l.rest
