use Rattle.jr_tree.proofs.EditLaw.{born_applied}
use Rattle.jr_tree.proofs.laws.edits_date_nodes.Goals as goal

pub returns : goal.returns
returns c = born_applied
