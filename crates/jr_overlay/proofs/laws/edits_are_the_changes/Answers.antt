use Rattle.jr_overlay.proofs.EditsOf.{edit_exact, edit_proper}
use Rattle.jr_overlay.proofs.laws.edits_are_the_changes.Goals as goal

pub returns-clause-exact : goal.returns-clause-exact
returns-clause-exact c = λ t p tree over view. edit_exact t p tree over

pub returns-clause-proper : goal.returns-clause-proper
returns-clause-proper c = edit_proper
