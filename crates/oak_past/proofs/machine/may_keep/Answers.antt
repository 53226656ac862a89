use Rattle.oak_past.proofs.Free.{free_at}
use Rattle.oak_past.proofs.machine.may_keep.Goals as goal

pub returns : goal.returns
returns c = free_at _ _ _ _ c.args.v.now c.is_free_base.result c.as_slice.ensures c.as_slice-2.ensures c.is_free_base.ensures
