use Rattle.std.proofs.Common.{◌≡◌, ◌++◌, length}
use Rattle.sql_select.specs.Selected.{node_columns}
use Rattle.sql_select.proofs.columns.node_columns.Given as goal

abbrev pub invariant-loop-rest : goal.invariant-loop-rest
invariant-loop-rest l = l.columns ++ node_columns l.place l.rest ≡ node_columns 0 l.names

abbrev pub decreases-loop-rest : goal.decreases-loop-rest
decreases-loop-rest l = length l.rest
