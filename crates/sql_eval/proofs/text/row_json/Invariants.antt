use Rattle.std.proofs.Common.{◌≡◌, map, take}
use Rattle.serde_json.specs.View.{view}
use Rattle.sql_eval.specs.RowTexts.{cell_data}
use Rattle.sql_eval.proofs.text.row_json.Given as goal

-- the cells so far
abbrev pub invariant-loop-cell : goal.invariant-loop-cell
invariant-loop-cell l = map view l.items.items ≡ map cell_data (take l.cell-index l.row.cells)
