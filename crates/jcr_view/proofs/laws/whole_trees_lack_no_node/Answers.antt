use Rattle.jcr_view.proofs.WholeLacks.{whole_lacks}
use Rattle.jcr_view.proofs.laws.whole_trees_lack_no_node.Goals as goal

pub returns : goal.returns
returns c = λ who t k changed command tree agrees nothing. whole_lacks t tree k agrees nothing who changed command
