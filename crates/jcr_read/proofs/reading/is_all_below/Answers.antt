use Rattle.jcr_read.proofs.Below.{all_below}
use Rattle.jcr_read.proofs.reading.is_all_below.Goals as goal

pub returns : goal.returns
returns c = all_below c.args.tree.now
