use Rattle.jcr_write.proofs.Reading.{order_reads}
use Rattle.jcr_write.proofs.laws.orders_read_the_parent.Goals as goal

pub returns : goal.returns
returns c = order_reads
