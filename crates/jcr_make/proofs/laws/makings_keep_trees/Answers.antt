use Rattle.jcr_make.proofs.KeepingTrees.{add_keeps, mixin_keeps, tree_keeps, type_keeps, unmixin_keeps}
use Rattle.jcr_make.proofs.laws.makings_keep_trees.Goals as goal

pub returns-clause-add : goal.returns-clause-add
returns-clause-add c = λ types who v p named m new tree keep h. add_keeps types who v p named m new keep h

pub returns-clause-tree : goal.returns-clause-tree
returns-clause-tree c = λ types who v p parts m new tree keep stored h. tree_keeps types who v p parts m new tree keep stored h

pub returns-clause-mixin : goal.returns-clause-mixin
returns-clause-mixin c = λ types who v p n m new tree keep stored h. mixin_keeps types who v p n m new tree keep stored h

pub returns-clause-unmixin : goal.returns-clause-unmixin
returns-clause-unmixin c = λ types v p n steps new tree keep h. unmixin_keeps types v p n steps new tree keep h

pub returns-clause-retyped : goal.returns-clause-retyped
returns-clause-retyped c = λ types who v p n m new tree keep h. type_keeps types who v p n m new tree keep h
