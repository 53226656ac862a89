use Rattle.oak_sweep.proofs.Knowing.{tables_know}
use Rattle.oak_sweep.proofs.Missing.{misses_none}
use Rattle.oak_sweep.proofs.laws.sweeps_miss_no_node.Goals as goal

pub returns-clause-shown : goal.returns-clause-shown
returns-clause-shown c = misses_none

pub returns-clause-known : goal.returns-clause-known
returns-clause-known c = tables_know
