use Rattle.std.proofs.Common.{arith, length-take}
use Rattle.oak_clash.proofs.Roots.{commit_root-more}
use Rattle.oak_clash.proofs.marked.commit_root.Goals as goal

pub loop-mark-preserved : goal.loop-mark-preserved
loop-mark-preserved c = record {
  within = omega (arith, length-take c.loop-mark.depth c.names-names.result.now);
  root = commit_root-more c.first-item.result _ c.loop-mark.mark-index c.mark-item.result c.names-names.result.now c.names.result.now c.loop-mark.depth c.common_depth-depth.result c.loop-mark-test.true c.mark-item.is c.names.ensures c.loop-mark.invariant.root c.common_depth-depth.ensures.within c.common_depth-depth.ensures.names;
}
