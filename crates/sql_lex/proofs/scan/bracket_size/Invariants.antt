use Rattle.std.proofs.Common.{◌≡◌, ◌+◌, length}
use Rattle.sql_lex.specs.Tokens.{bracket_end}
use Rattle.sql_lex.proofs.scan.bracket_size.Given as goal

abbrev pub invariant-loop-rest : goal.invariant-loop-rest
invariant-loop-rest l = record {
  size : bracket_end l.size l.rest ≡ bracket_end 0 l.bytes;
  left : l.size + length l.rest ≡ length l.bytes;
}

abbrev pub decreases-loop-rest : goal.decreases-loop-rest
decreases-loop-rest l = length l.rest
