use Rattle.jr_tree.proofs.EditLaw.{property_applied, Orderly-all}
use Rattle.jr_tree.proofs.laws.edits_write_properties.Goals as goal

pub returns : goal.returns
returns c = λ born t ws paths names. property_applied born t ws paths (Orderly-all t names)
