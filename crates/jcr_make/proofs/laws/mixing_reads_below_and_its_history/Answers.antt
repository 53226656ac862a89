use Rattle.jcr_make.proofs.ReadBelow.{mixin_same}
use Rattle.jcr_make.proofs.laws.mixing_reads_below_and_its_history.Goals as goal

pub returns : goal.returns
returns c = mixin_same
