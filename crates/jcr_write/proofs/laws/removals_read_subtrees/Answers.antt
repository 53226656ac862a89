use Rattle.jcr_write.proofs.Reading.{remove_reads}
use Rattle.jcr_write.proofs.laws.removals_read_subtrees.Goals as goal

pub returns : goal.returns
returns c = remove_reads
