-- Cause by cause.
use Rattle.jcr_plan.proofs.Accepted.{accepted}
use Rattle.jcr_plan.proofs.laws.what_is_not_refused_is_a_plan.Goals as goal

pub returns : goal.returns
returns c = accepted
