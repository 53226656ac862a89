use Rattle.jr_overlay.proofs.KeepingSteps.{gone_keeps}
use Rattle.jr_overlay.proofs.laws.removals_keep_trees.Goals as goal

pub returns : goal.returns
returns c = λ v p tree apart. gone_keeps v tree p apart
