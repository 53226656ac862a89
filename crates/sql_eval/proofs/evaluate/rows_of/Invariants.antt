use Rattle.std.proofs.Common.{◌≡◌, map, take}
use Rattle.sql_eval.specs.Rows.{row_of}
use Rattle.sql_eval.proofs.evaluate.rows_of.Given as goal

-- the rows so far
abbrev pub invariant-loop-tuple : goal.invariant-loop-tuple
invariant-loop-tuple l = l.rows.items ≡ map (row_of l.columns) (take l.tuple-index l.tuples)
