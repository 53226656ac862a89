use Rattle.jcr_write.proofs.Reading.{move_reads}
use Rattle.jcr_write.proofs.laws.moves_read_both_ends.Goals as goal

pub returns : goal.returns
returns c = move_reads
