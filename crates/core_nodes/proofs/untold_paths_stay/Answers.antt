-- Commit by commit, from each beginning.
use Rattle.core_nodes.proofs.Untold.{untold_in}
use Rattle.core_nodes.proofs.untold_paths_stay.Goals as goal

pub returns : goal.returns
returns c = untold_in
