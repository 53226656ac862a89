use Rattle.std.proofs.Common.{◌≡◌, length}
use Rattle.sql_select.specs.Selected.{join_first, names_more}
use Rattle.sql_pieces.specs.Reading.{many}
use Rattle.sql_select.proofs.cursor.Cursor.skim_sources.Given as goal

abbrev pub invariant-loop-turns : goal.invariant-loop-turns
invariant-loop-turns l =
    many join_first names_more l.turns l.names l.self ≡ many join_first names_more l.initial.turns l.initial.names l.initial.self

abbrev pub decreases-loop-turns : goal.decreases-loop-turns
decreases-loop-turns l = length l.turns
