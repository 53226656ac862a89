use Rattle.jcr_make.proofs.Touched.{add_elsewhere, type_elsewhere}
use Rattle.jcr_make.proofs.laws.makings_stay_below.Goals as goal

pub returns-clause-added : goal.returns-clause-added
returns-clause-added c = add_elsewhere

pub returns-clause-retyped : goal.returns-clause-retyped
returns-clause-retyped c = type_elsewhere
