use Rattle.oak_node.proofs.Told.{known_low, told_still}
use Rattle.oak_node.proofs.laws.changes_are_told.Goals as goal

pub returns-clause-head : goal.returns-clause-head
returns-clause-head c = known_low

pub returns-clause-pins : goal.returns-clause-pins
returns-clause-pins c = λ s owner pin is vector there. told_still s owner pin is vector there
