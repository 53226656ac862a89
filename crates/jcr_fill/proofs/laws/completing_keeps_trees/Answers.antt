use Rattle.jcr_fill.proofs.KeepingTrees.{complete_keeps, complete_stays}
use Rattle.jcr_fill.proofs.laws.completing_keeps_trees.Goals as goal

pub returns-clause-tree : goal.returns-clause-tree
returns-clause-tree c = complete_keeps

pub returns-clause-nodes : goal.returns-clause-nodes
returns-clause-nodes c = complete_stays
