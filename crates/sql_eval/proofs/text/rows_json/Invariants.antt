use Rattle.std.proofs.Common.{◌≡◌, map, take}
use Rattle.serde_json.specs.View.{view}
use Rattle.sql_eval.specs.RowTexts.{row_data}
use Rattle.sql_eval.proofs.text.rows_json.Given as goal

-- the rows so far
abbrev pub invariant-loop-row : goal.invariant-loop-row
invariant-loop-row l = map view l.items.items ≡ map row_data (take l.row-index l.rows)
