use Rattle.std.proofs.Common.{◌≡◌, ◌+◌, length, true}
use Rattle.sql_lex.specs.Tokens.{closing}
use Rattle.sql_lex.proofs.scan.text_size.Given as goal

abbrev pub invariant-loop-rest : goal.invariant-loop-rest
invariant-loop-rest l = record {
  size : closing l.inside l.size l.rest ≡ closing true 0 l.bytes;
  left : l.size + length l.rest ≡ length l.bytes;
}

abbrev pub decreases-loop-rest : goal.decreases-loop-rest
decreases-loop-rest l = length l.rest
