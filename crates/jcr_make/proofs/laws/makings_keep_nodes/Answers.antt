use Rattle.jcr_make.proofs.KeepingTrees.{add_stays, mixin_stays, tree_stays, type_stays, unmixin_stays}
use Rattle.jcr_make.proofs.laws.makings_keep_nodes.Goals as goal

pub returns-clause-add : goal.returns-clause-add
returns-clause-add c = add_stays

pub returns-clause-tree : goal.returns-clause-tree
returns-clause-tree c = tree_stays

pub returns-clause-mixin : goal.returns-clause-mixin
returns-clause-mixin c = mixin_stays

pub returns-clause-unmixin : goal.returns-clause-unmixin
returns-clause-unmixin c = unmixin_stays

pub returns-clause-retyped : goal.returns-clause-retyped
returns-clause-retyped c = type_stays
