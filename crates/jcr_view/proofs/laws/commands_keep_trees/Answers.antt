use Rattle.jcr_view.proofs.CommandsKeep.{command_proper, command_storage, command_tree}
use Rattle.jcr_view.proofs.laws.commands_keep_trees.Goals as goal

pub returns-clause-tree : goal.returns-clause-tree
returns-clause-tree c = λ types who t v command tree stored. command_tree types who t v tree stored command

pub returns-clause-storage : goal.returns-clause-storage
returns-clause-storage c = λ types who t v command tree stored. command_storage types who t v tree stored command

pub returns-clause-proper : goal.returns-clause-proper
returns-clause-proper c = command_proper
