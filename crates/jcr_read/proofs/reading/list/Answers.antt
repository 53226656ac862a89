use Rattle.jcr_trans.specs.Answers.{ShowsNames}
use Rattle.jr_overlay.specs.Overlays.{sighted}
use Rattle.jr_tree.specs.declared.tree.Node.{Node}
use Rattle.jr_order.specs.Order.{ordered}
use Rattle.jcr_read.proofs.Replied.{replies_same}
use Rattle.jcr_read.proofs.reading.list.Goals as goal

pub returns-in-Ok : goal.returns-in-Ok
returns-in-Ok c = replies_same _ _ _ (c.in-Ok.ensures.ok (λ (node : Node). ShowsNames (ordered c.args.types.now node ((sighted c.args.sight.now).children c.args.path.now))))
    (c.replied.ensures (ShowsNames (ordered c.args.types.now c.in-Ok.node.now ((sighted c.args.sight.now).children c.args.path.now))) c.children_reply.ensures)
