use Rattle.std.proofs.Common.{◌≡◌, ◌+◌, ◌≤◌, length}
use Rattle.cnd_pieces.specs.Tokens.{gap_end, gap_from}
use Rattle.cnd_pieces.specs.declared.scan.Gap.TheVariants.{Space}
use Rattle.cnd_pieces.proofs.scan.gap_size.Given as goal

abbrev pub invariant-loop-rest : goal.invariant-loop-rest
invariant-loop-rest l = record {
  size : gap_from l.gap l.size l.rest ≡ gap_from Space 0 l.bytes;
  left : l.size + length l.rest ≡ length l.bytes;
  begun : gap_end l.gap l.size ≤ l.size;
}

abbrev pub decreases-loop-rest : goal.decreases-loop-rest
decreases-loop-rest l = length l.rest
