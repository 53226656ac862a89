use Rattle.jcr_view.proofs.AgainLeads.{same_rebased}
use Rattle.jcr_view.proofs.laws.rebasing_on_the_same_tree_changes_nothing.Goals as goal

pub returns : goal.returns
returns c = same_rebased
