use Rattle.jcr_make.proofs.ReadTrees.{tree_same}
use Rattle.jcr_make.proofs.laws.trees_read_below_above_and_histories.Goals as goal

pub returns : goal.returns
returns c = tree_same
