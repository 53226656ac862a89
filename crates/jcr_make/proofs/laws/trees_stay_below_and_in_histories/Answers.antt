use Rattle.jcr_make.proofs.Touched.{tree_elsewhere}
use Rattle.jcr_make.proofs.laws.trees_stay_below_and_in_histories.Goals as goal

pub returns : goal.returns
returns c = tree_elsewhere
