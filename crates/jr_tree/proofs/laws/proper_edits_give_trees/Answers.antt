use Rattle.jr_tree.proofs.Undated.{proper_tree}
use Rattle.jr_tree.proofs.laws.proper_edits_give_trees.Goals as goal

pub returns : goal.returns
returns c = proper_tree
