use Rattle.std.proofs.Common.{◌≡◌, ◌+◌, length}
use Rattle.std.specs.Char.{is_ascii_digit}
use Rattle.sql_lex.specs.Tokens.{front_size}
use Rattle.sql_lex.proofs.scan.digits_size.Given as goal

abbrev pub invariant-loop-rest : goal.invariant-loop-rest
invariant-loop-rest l = record {
  size : front_size is_ascii_digit l.size l.rest ≡ front_size is_ascii_digit 0 l.bytes;
  left : l.size + length l.rest ≡ length l.bytes;
}

abbrev pub decreases-loop-rest : goal.decreases-loop-rest
decreases-loop-rest l = length l.rest
