use Rattle.jr_tree.proofs.Steps.{node_passed}
use Rattle.jr_tree.proofs.difference.take_nodes.Goals as goal

pub loop-path-preserved : goal.loop-path-preserved
loop-path-preserved c = node_passed _ _ _ _ _ _ _ c.loop-path.invariant c.in-Some.ensures.steps c.has.ensures c.if-not-has.false
