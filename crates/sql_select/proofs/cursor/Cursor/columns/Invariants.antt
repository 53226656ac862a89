use Rattle.std.proofs.Common.{◌≡◌, length}
use Rattle.sql_select.specs.Selected.{column_more}
use Rattle.sql_pieces.specs.Reading.{many, next_sign}
use Rattle.sql_pieces.specs.declared.piece.Sign.TheVariants.{Comma}
use Rattle.sql_select.proofs.cursor.Cursor.columns.Given as goal

abbrev pub invariant-loop-turns : goal.invariant-loop-turns
invariant-loop-turns l =
    many (next_sign Comma) (column_more l.names) l.turns l.columns l.self ≡ many (next_sign Comma) (column_more l.names) l.initial.turns l.initial.columns l.initial.self

abbrev pub decreases-loop-turns : goal.decreases-loop-turns
decreases-loop-turns l = length l.turns
