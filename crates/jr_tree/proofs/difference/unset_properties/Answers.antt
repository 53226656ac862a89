use Rattle.jr_tree.proofs.Steps.{unset_passed}
use Rattle.jr_tree.proofs.difference.unset_properties.Goals as goal

pub loop-name-preserved : goal.loop-name-preserved
loop-name-preserved c = unset_passed _ _ _ _ _ _ _ _ c.loop-name.invariant c.in-Some.ensures.steps c.contains.ensures c.if-not-contains.false
