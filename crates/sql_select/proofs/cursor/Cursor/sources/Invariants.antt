use Rattle.std.proofs.Common.{◌≡◌, length}
use Rattle.sql_select.specs.Selected.{join_at, join_first}
use Rattle.sql_pieces.specs.Reading.{many}
use Rattle.sql_select.proofs.cursor.Cursor.sources.Given as goal

abbrev pub invariant-loop-turns : goal.invariant-loop-turns
invariant-loop-turns l =
    many join_first (join_at l.bare) l.turns l.sources l.self ≡ many join_first (join_at l.bare) l.initial.turns l.initial.sources l.initial.self

abbrev pub decreases-loop-turns : goal.decreases-loop-turns
decreases-loop-turns l = length l.turns
