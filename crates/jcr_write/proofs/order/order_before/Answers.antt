use Rattle.std.specs.Option.{option_copied}
use Rattle.jr_overlay.specs.Overlays.{sighted}
use Rattle.jcr_write.specs.Places.{above, putting}
use Rattle.jcr_write.specs.Writes.{order_node}
use Rattle.jcr_write.proofs.Due.{memory_result, put_err, put_result}
use Rattle.jcr_write.proofs.order.order_before.Goals as goal

pub returns-in-Ok-clause-ok : goal.returns-in-Ok-clause-ok
returns-in-Ok-clause-ok c = put_result c.put_above.result _ c.args.draft.now.steps (above c.args.path.now)
    (order_node c.args.types.now (sighted c.args.draft.now.sight) c.args.draft.now.steps c.args.path.now (option_copied c.args.before)) c.in-Ok.node c.in-Ok.ensures.ok c.put_above.ensures.ok

pub returns-in-Ok-clause-err : goal.returns-in-Ok-clause-err
returns-in-Ok-clause-err c = memory_result c.put_above.result
    (putting c.args.draft.now.steps (above c.args.path.now) (order_node c.args.types.now (sighted c.args.draft.now.sight) c.args.draft.now.steps c.args.path.now (option_copied c.args.before))) c.put_above.ensures.err

pub returns-in-Err-clause-err : goal.returns-in-Err-clause-err
returns-in-Err-clause-err c = put_err c.args.draft.now.steps (above c.args.path.now)
    (order_node c.args.types.now (sighted c.args.draft.now.sight) c.args.draft.now.steps c.args.path.now (option_copied c.args.before)) c.in-Err.refusal c.in-Err.ensures.err
