use Rattle.jcr_make.proofs.ReadBelow.{type_same}
use Rattle.jcr_make.proofs.laws.changing_types_reads_below.Goals as goal

pub returns : goal.returns
returns c = type_same
