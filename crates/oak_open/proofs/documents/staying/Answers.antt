use Rattle.oak_open.specs.Opened.{stays_opened}
use Rattle.oak_open.proofs.Left.{kept_step}
use Rattle.oak_open.proofs.documents.staying.Goals as goal

pub loop-r-preserved : goal.loop-r-preserved
loop-r-preserved g c =
    kept_step (stays_opened c.args.opening.now.documents.now c.args.opening.now.pin.now c.args.document.now) _ _ _ _ _ c.in-Some.r.now
    c.in-Some.value.now _ c.in_ok-stays.ensures c.in-Some.ensures.steps c.in_ok-put_if.ensures c.loop-r.invariant
    c.len.ensures.ordered
