use Rattle.oak_sync.proofs.Ending.{learns}
use Rattle.oak_sync.proofs.laws.back_reads_end.Goals as goal

pub returns : goal.returns
returns c = learns
