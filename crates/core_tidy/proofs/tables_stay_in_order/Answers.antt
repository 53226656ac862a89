use Rattle.core_tidy.proofs.Ordered.{undo_table, update_table, without_table}
use Rattle.core_tidy.proofs.tables_stay_in_order.Goals as goal

pub returns-clause-update : goal.returns-clause-update
returns-clause-update c = update_table

pub returns-clause-undo : goal.returns-clause-undo
returns-clause-undo c = undo_table

pub returns-clause-removed : goal.returns-clause-removed
returns-clause-removed c = without_table
