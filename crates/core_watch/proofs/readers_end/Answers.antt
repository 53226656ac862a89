use Rattle.core_watch.proofs.Ending.{node_ends, next_rises}
use Rattle.core_watch.proofs.Finite.{ends}
use Rattle.core_watch.proofs.readers_end.Goals as goal

pub returns-clause-ends : goal.returns-clause-ends
returns-clause-ends c = ends

pub returns-clause-node : goal.returns-clause-node
returns-clause-node c = node_ends

pub returns-clause-rises : goal.returns-clause-rises
returns-clause-rises c = next_rises
