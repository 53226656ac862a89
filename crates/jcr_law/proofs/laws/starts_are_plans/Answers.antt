use Rattle.jcr_law.specs.Starting.{proper_starts, starts_plan}
use Rattle.jcr_law.proofs.laws.starts_are_plans.Goals as goal

pub returns-clause-plan : goal.returns-clause-plan
returns-clause-plan c = starts_plan

pub returns-clause-proper : goal.returns-clause-proper
returns-clause-proper c = proper_starts
