use Rattle.oak_prev.proofs.Resting.{splits_what_moves}
use Rattle.oak_prev.proofs.splitter.splitters_move_what_is_old.Goals as goal

pub returns : goal.returns
returns c = splits_what_moves
