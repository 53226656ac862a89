use Rattle.std.proofs.Common.{◌≡◌, length}
use Rattle.jr_cnd.specs.Grammar.{comma_first, name_more}
use Rattle.jr_cnd.specs.Reading.{many}
use Rattle.jr_cnd.proofs.cursor.Cursor.names.Given as goal

abbrev pub invariant-loop-turns : goal.invariant-loop-turns
invariant-loop-turns l =
    many comma_first name_more l.turns l.names l.self
    ≡ many comma_first name_more l.initial.turns l.initial.names l.initial.self

abbrev pub decreases-loop-turns : goal.decreases-loop-turns
decreases-loop-turns l = length l.turns
