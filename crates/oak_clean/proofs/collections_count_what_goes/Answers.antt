use Rattle.oak_clean.proofs.collections_count_what_goes.Goals as goal
use Rattle.oak_clean.proofs.Whole.{counts_what_goes}

pub returns : goal.returns
returns c = counts_what_goes
