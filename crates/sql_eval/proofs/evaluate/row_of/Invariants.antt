use Rattle.std.proofs.Common.{◌≡◌, map, take}
use Rattle.sql_eval.specs.Rows.{cell_of}
use Rattle.sql_eval.proofs.evaluate.row_of.Given as goal

-- the cells so far
abbrev pub invariant-loop-column : goal.invariant-loop-column
invariant-loop-column l = l.cells.items ≡ map (cell_of l.tuple) (take l.column-index l.columns)
