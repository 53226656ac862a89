use Rattle.jr_rev.specs.Vectors.{sees}
use Rattle.oak_open.proofs.Left.{kept_step}
use Rattle.oak_open.proofs.documents.seen.Goals as goal

pub loop-r-preserved : goal.loop-r-preserved
loop-r-preserved c =
    kept_step (sees c.args.pin.now.base) _ _ _ _ _ c.in-Some.r.now c.in-Some.value.now _ c.sees.ensures c.in-Some.ensures.steps
    c.in_ok-put_if.ensures c.loop-r.invariant c.len.ensures.ordered
