use Rattle.jr_tree.proofs.EditLaw.{property_fitted, Orderly-all}
use Rattle.jr_tree.proofs.Proper.{proper_fits}
use Rattle.jr_tree.proofs.laws.proper_edits_write_properties.Goals as goal

pub returns : goal.returns
returns c = λ born t ws tree proper. property_fitted born t ws tree.paths (Orderly-all t tree.names) (proper_fits t ws tree.paths proper)
