use Rattle.oak_past.proofs.Equal.{same_vectors}
use Rattle.oak_past.proofs.machine.is_same.Goals as goal

pub returns : goal.returns
returns c = same_vectors c.args.v.now c.args.w.now c.eq.result c.eq.ensures
