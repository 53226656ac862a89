-- Each by its lemma.
use Rattle.core_world.proofs.documents_stay_in_order.Goals as goal
use Rattle.core_world.proofs.Named.{start_in_order}
use Rattle.core_world.proofs.Tabled.{last_table, mark_table, undo_in_order, update_in_order}

pub returns-clause-start : goal.returns-clause-start
returns-clause-start c = start_in_order

pub returns-clause-update : goal.returns-clause-update
returns-clause-update c = update_in_order

pub returns-clause-undo : goal.returns-clause-undo
returns-clause-undo c = undo_in_order

pub returns-clause-mark : goal.returns-clause-mark
returns-clause-mark c = mark_table

pub returns-clause-last : goal.returns-clause-last
returns-clause-last c = last_table
