use Rattle.jcr_make.proofs.Touched.{mixin_elsewhere}
use Rattle.jcr_make.proofs.laws.mixing_stays_below_and_in_its_history.Goals as goal

pub returns : goal.returns
returns c = mixin_elsewhere
