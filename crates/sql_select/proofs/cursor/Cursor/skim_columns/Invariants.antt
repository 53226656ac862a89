use Rattle.std.proofs.Common.{◌≡◌, length}
use Rattle.sql_select.specs.Selected.{skim_more}
use Rattle.sql_pieces.specs.Reading.{many, next_sign}
use Rattle.sql_pieces.specs.declared.piece.Sign.TheVariants.{Comma}
use Rattle.sql_select.proofs.cursor.Cursor.skim_columns.Given as goal

abbrev pub invariant-loop-turns : goal.invariant-loop-turns
invariant-loop-turns l =
    many (next_sign Comma) skim_more l.turns l.bare l.self ≡ many (next_sign Comma) skim_more l.initial.turns l.initial.bare l.initial.self

abbrev pub decreases-loop-turns : goal.decreases-loop-turns
decreases-loop-turns l = length l.turns
