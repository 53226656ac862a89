use Rattle.jcr_view.proofs.Enough.{outcome_same}
use Rattle.jcr_view.proofs.laws.needs_are_enough.Goals as goal

pub returns : goal.returns
returns c = outcome_same
