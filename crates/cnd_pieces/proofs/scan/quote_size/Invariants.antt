use Rattle.std.proofs.Common.{◌≡◌, ◌+◌, ◌≤◌, length, false}
use Rattle.cnd_pieces.specs.Tokens.{quote_from}
use Rattle.cnd_pieces.proofs.scan.quote_size.Given as goal

abbrev pub invariant-loop-rest : goal.invariant-loop-rest
invariant-loop-rest l = record {
  size : quote_from l.escaped l.size l.rest ≡ quote_from false 1 l.bytes;
  left : l.size + length l.rest ≡ 1 + length l.bytes;
  least : 1 ≤ l.size;
}

abbrev pub decreases-loop-rest : goal.decreases-loop-rest
decreases-loop-rest l = length l.rest
