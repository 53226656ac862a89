use Rattle.jr_tree.proofs.EditLaw.{has_applied}
use Rattle.jr_tree.proofs.laws.edits_move_nodes.Goals as goal

pub returns : goal.returns
returns c = has_applied
