use Rattle.jcr_view.proofs.Asked.{all_asked}
use Rattle.jcr_view.proofs.laws.whole_trees_are_asked_for.Goals as goal

pub returns : goal.returns
returns c = all_asked
