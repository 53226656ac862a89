use Rattle.oak_open.specs.Opened.{stays_opened}
use Rattle.oak_open.proofs.Left.{values_step}
use Rattle.oak_open.proofs.documents.staying_values.Goals as goal

pub loop-name-preserved : goal.loop-name-preserved
loop-name-preserved c =
    values_step (stays_opened c.args.opening.now.documents.now c.args.opening.now.pin.now c.args.document.now) _ _ _ _ _
    c.in-Some.name.now _ _ c.in-Some.ensures.steps c.in_ok-values.ensures c.in_ok-put_values.ensures c.loop-name.invariant
    c.len.ensures.ordered
