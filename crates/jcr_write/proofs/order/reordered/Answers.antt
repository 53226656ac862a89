use Rattle.std.specs.Prelude.{Ok}
use Rattle.std.specs.Option.{option_copied}
use Rattle.jcr_write.specs.Places.{unless_refused}
use Rattle.jcr_write.specs.Writes.{node_ordered, order_refusal}
use Rattle.jcr_write.proofs.Due.{made_ok, memory_result, refused_due}
use Rattle.jcr_write.proofs.order.reordered.Goals as goal

pub returns-in-Ok-clause-ok : goal.returns-in-Ok-clause-ok
returns-in-Ok-clause-ok c = made_ok c.or_memory.result c.node_ordered.result (order_refusal c.args.types.now c.args.parent.now c.args.children.now (option_copied c.args.before) c.args.node.now)
    (node_ordered c.args.types.now c.args.children.now c.args.name.now (option_copied c.args.before) c.args.node.now) c.in-Ok.ensures.ok c.node_ordered.ensures c.or_memory.ensures.ok

pub returns-in-Ok-clause-err : goal.returns-in-Ok-clause-err
returns-in-Ok-clause-err c = memory_result c.or_memory.result
    (unless_refused (order_refusal c.args.types.now c.args.parent.now c.args.children.now (option_copied c.args.before) c.args.node.now) (Ok (node_ordered c.args.types.now c.args.children.now c.args.name.now (option_copied c.args.before) c.args.node.now))) c.or_memory.ensures.err

pub returns-in-Err-clause-err : goal.returns-in-Err-clause-err
returns-in-Err-clause-err c = refused_due (order_refusal c.args.types.now c.args.parent.now c.args.children.now (option_copied c.args.before) c.args.node.now)
    (Ok (node_ordered c.args.types.now c.args.children.now c.args.name.now (option_copied c.args.before) c.args.node.now)) c.in-Err.refusal c.in-Err.ensures.err
