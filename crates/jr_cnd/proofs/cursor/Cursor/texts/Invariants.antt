use Rattle.std.proofs.Common.{◌≡◌, length}
use Rattle.jr_cnd.specs.Grammar.{comma_first, text_more}
use Rattle.jr_cnd.specs.Reading.{many}
use Rattle.jr_cnd.proofs.cursor.Cursor.texts.Given as goal

abbrev pub invariant-loop-turns : goal.invariant-loop-turns
invariant-loop-turns l =
    many comma_first text_more l.turns l.texts l.self
    ≡ many comma_first text_more l.initial.turns l.initial.texts l.initial.self

abbrev pub decreases-loop-turns : goal.decreases-loop-turns
decreases-loop-turns l = length l.turns
