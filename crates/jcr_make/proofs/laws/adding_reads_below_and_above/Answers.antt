use Rattle.jcr_make.proofs.ReadBelow.{add_same}
use Rattle.jcr_make.proofs.laws.adding_reads_below_and_above.Goals as goal

pub returns : goal.returns
returns c = add_same
