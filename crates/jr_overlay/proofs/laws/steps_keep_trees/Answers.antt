use Rattle.jr_overlay.proofs.KeptTrees.{kept_tree}
use Rattle.jr_overlay.proofs.laws.steps_keep_trees.Goals as goal

pub returns : goal.returns
returns c = kept_tree
