use Rattle.oak_sweep.proofs.Teaching.{teaches_one}
use Rattle.oak_sweep.proofs.laws.sweeps_teach_one_entry.Goals as goal

pub returns : goal.returns
returns c = teaches_one
