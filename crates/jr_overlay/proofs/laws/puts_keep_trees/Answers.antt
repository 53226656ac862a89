use Rattle.jr_overlay.proofs.KeepingSteps.{nothing_keeps, one_more_keeps}
use Rattle.jr_overlay.proofs.KeptTrees.{names_after, parent_after}
use Rattle.jr_overlay.proofs.laws.puts_keep_trees.Goals as goal

pub returns-clause-none : goal.returns-clause-none
returns-clause-none c = nothing_keeps

pub returns-clause-put : goal.returns-clause-put
returns-clause-put c = one_more_keeps

pub returns-clause-names : goal.returns-clause-names
returns-clause-names c = λ v steps p node tree keep is. names_after v steps tree keep p node is

pub returns-clause-parents : goal.returns-clause-parents
returns-clause-parents c = λ v steps p q tree keep there up. parent_after v steps tree keep p q there up
