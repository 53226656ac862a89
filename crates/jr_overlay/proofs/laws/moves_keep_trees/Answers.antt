use Rattle.jr_overlay.proofs.Moves.{moved_keeps}
use Rattle.jr_overlay.proofs.laws.moves_keep_trees.Goals as goal

pub returns : goal.returns
returns c = λ v p q above tree there free up parent apart. moved_keeps v tree p q above there free up parent apart
