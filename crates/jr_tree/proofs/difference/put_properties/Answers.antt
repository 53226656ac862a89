use Rattle.jr_tree.proofs.Steps.{put_passed}
use Rattle.jr_tree.proofs.difference.put_properties.Goals as goal

pub loop-name-preserved : goal.loop-name-preserved
loop-name-preserved c = put_passed _ _ _ _ _ _ _ _ c.loop-name.invariant c.in-Some.ensures.steps c.has_same.ensures c.if-not-has_same.false
