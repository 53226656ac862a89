use Rattle.jcr_view.proofs.AgainKeeps.{again_proper, again_tree}
use Rattle.jcr_view.proofs.laws.rebases_keep_trees.Goals as goal

pub returns-clause-tree : goal.returns-clause-tree
returns-clause-tree c = again_tree

pub returns-clause-proper : goal.returns-clause-proper
returns-clause-proper c = again_proper
