use Rattle.jcr_make.proofs.ReadBelow.{unmixin_same}
use Rattle.jcr_make.proofs.laws.unmixing_reads_the_node.Goals as goal

pub returns : goal.returns
returns c = unmixin_same
