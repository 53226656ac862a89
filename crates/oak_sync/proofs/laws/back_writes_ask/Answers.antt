use Rattle.oak_sync.proofs.Ending.{asks_upward}
use Rattle.oak_sync.proofs.laws.back_writes_ask.Goals as goal

pub returns : goal.returns
returns c = asks_upward
