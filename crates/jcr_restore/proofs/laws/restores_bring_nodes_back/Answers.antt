use Rattle.jcr_restore.proofs.ComingBack.{comes_back}
use Rattle.jcr_restore.proofs.laws.restores_bring_nodes_back.Goals as goal

pub returns : goal.returns
returns c = comes_back
