use Rattle.oak_clean.proofs.collectors_end_clean.Goals as goal
use Rattle.oak_clean.proofs.Whole.{collectors_end}

pub returns : goal.returns
returns c = collectors_end
