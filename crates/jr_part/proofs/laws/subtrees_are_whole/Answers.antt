use Rattle.jr_part.proofs.Whole.{subtree_whole}
use Rattle.jr_part.proofs.laws.subtrees_are_whole.Goals as goal

pub returns : goal.returns
returns c = λ t k p tree sorted agrees nothing. subtree_whole t tree k agrees p nothing sorted
