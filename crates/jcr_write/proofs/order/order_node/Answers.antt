use Rattle.std.specs.Option.{option_copied}
use Rattle.jr_path.specs.Names.{last_name}
use Rattle.jr_overlay.specs.Overlays.{sighted}
use Rattle.jcr_write.specs.Writes.{above_ordered, order_place}
use Rattle.jcr_write.proofs.Due.{passed_ok_result, passed_result, refused_due}
use Rattle.jcr_write.proofs.order.order_node.Goals as goal

pub returns-in-Ok-clause-ok : goal.returns-in-Ok-clause-ok
returns-in-Ok-clause-ok c = passed_ok_result c.above_ordered.result (order_place (sighted c.args.draft.now.sight) c.args.draft.now.steps c.args.path.now)
    (above_ordered c.args.types.now (sighted c.args.draft.now.sight) c.args.draft.now.steps c.args.path.now (option_copied c.args.before) (last_name c.args.path.now)) c.in-Ok.ensures.ok c.above_ordered.ensures.ok

pub returns-in-Ok-clause-err : goal.returns-in-Ok-clause-err
returns-in-Ok-clause-err c = passed_result c.above_ordered.result (order_place (sighted c.args.draft.now.sight) c.args.draft.now.steps c.args.path.now)
    (above_ordered c.args.types.now (sighted c.args.draft.now.sight) c.args.draft.now.steps c.args.path.now (option_copied c.args.before) (last_name c.args.path.now)) c.in-Ok.ensures.ok c.above_ordered.ensures.err

pub returns-in-Err-clause-err : goal.returns-in-Err-clause-err
returns-in-Err-clause-err c = refused_due (order_place (sighted c.args.draft.now.sight) c.args.draft.now.steps c.args.path.now)
    (above_ordered c.args.types.now (sighted c.args.draft.now.sight) c.args.draft.now.steps c.args.path.now (option_copied c.args.before) (last_name c.args.path.now)) c.in-Err.refusal c.in-Err.ensures.err
