use Rattle.oak_gc.proofs.Left.{leaves_no_garbage}
use Rattle.oak_gc.proofs.collector.updates_leave_no_garbage.Goals as goal

pub returns : goal.returns
returns c = leaves_no_garbage
