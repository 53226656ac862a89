use Rattle.jr_overlay.proofs.Commits.{nothing_over}
use Rattle.jr_overlay.proofs.laws.views_begin.Goals as goal

pub returns-clause-over : goal.returns-clause-over
returns-clause-over c = nothing_over
