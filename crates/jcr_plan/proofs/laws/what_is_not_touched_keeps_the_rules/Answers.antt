-- What is not touched is as it was.
use Rattle.jcr_plan.proofs.Touching.{alike}
use Rattle.jcr_plan.proofs.laws.what_is_not_touched_keeps_the_rules.Goals as goal

pub returns : goal.returns
returns c = alike
