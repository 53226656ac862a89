-- By the items of the marks.
use Rattle.jcr_plan.proofs.OfWrites.{plan_proper}
use Rattle.jcr_plan.proofs.laws.plans_are_proper.Goals as goal

pub returns : goal.returns
returns c = plan_proper
