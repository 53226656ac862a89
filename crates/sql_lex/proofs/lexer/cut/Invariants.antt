use Rattle.std.proofs.Common.{length, ◌-◌, ◌≤◌}
use Rattle.sql_lex.specs.Tokens.{AreTokens}
use Rattle.sql_lex.proofs.lexer.cut.Given as goal

abbrev pub invariant-loop-at : goal.invariant-loop-at
invariant-loop-at l = record {
  within : l.at ≤ length l.bytes;
  tokens : AreTokens l.text 0 l.tokens.items l.at;
}

abbrev pub decreases-loop-at : goal.decreases-loop-at
decreases-loop-at l = length l.bytes - l.at
