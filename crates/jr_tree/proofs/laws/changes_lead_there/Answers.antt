use Rattle.jr_tree.proofs.ChangesLaw.{changes_applied, changes_exact}
use Rattle.jr_tree.proofs.laws.changes_lead_there.Goals as goal

pub returns-clause-exact : goal.returns-clause-exact
returns-clause-exact c = changes_exact

pub returns-clause-alike : goal.returns-clause-alike
returns-clause-alike c = changes_applied
