-- Neither the types nor the references come to anything else.
use Rattle.jcr_plan.proofs.Touching.{as_assured}
use Rattle.jcr_plan.proofs.laws.what_is_assured_is_not_checked.Goals as goal

pub returns : goal.returns
returns c = as_assured
