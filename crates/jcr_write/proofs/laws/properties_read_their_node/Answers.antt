use Rattle.jcr_write.proofs.Reading.{set_reads, unset_reads}
use Rattle.jcr_write.proofs.laws.properties_read_their_node.Goals as goal

pub returns-clause-set : goal.returns-clause-set
returns-clause-set c = set_reads

pub returns-clause-unset : goal.returns-clause-unset
returns-clause-unset c = unset_reads
