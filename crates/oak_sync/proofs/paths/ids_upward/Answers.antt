use Rattle.oak_sync.proofs.Sets.{next_upward}
use Rattle.oak_sync.proofs.paths.ids_upward.Goals as goal

pub loop-path-preserved : goal.loop-path-preserved
loop-path-preserved c = next_upward c.args.paths.now c.loop-path.path-index c.path-item.result c.loop-path.ids c.put_upward-in-loop-path.new.ids c.loop-path-test.true c.path-item.is c.loop-path.invariant c.in_ok-put_upward-2.ensures
