use Rattle.oak_sync.proofs.Ending.{publishes}
use Rattle.oak_sync.proofs.laws.back_writes_publish.Goals as goal

pub returns : goal.returns
returns c = publishes
