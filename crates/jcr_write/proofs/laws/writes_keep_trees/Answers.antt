use Rattle.jcr_write.proofs.Keeping.{move_keeps, order_keeps, remove_keeps, set_keeps, unset_keeps}
use Rattle.jcr_write.proofs.laws.writes_keep_trees.Goals as goal

pub returns-clause-set : goal.returns-clause-set
returns-clause-set c = set_keeps

pub returns-clause-unset : goal.returns-clause-unset
returns-clause-unset c = unset_keeps

pub returns-clause-order : goal.returns-clause-order
returns-clause-order c = order_keeps

pub returns-clause-remove : goal.returns-clause-remove
returns-clause-remove c = remove_keeps

pub returns-clause-moved : goal.returns-clause-moved
returns-clause-moved c = move_keeps
