use Rattle.oak_sweep.proofs.Passing.{sweeps_all}
use Rattle.oak_sweep.proofs.laws.sweeps_pass_all_nodes.Goals as goal

pub returns : goal.returns
returns c = sweeps_all
