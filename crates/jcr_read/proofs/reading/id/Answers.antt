use Rattle.jcr_trans.specs.Answers.{ShowsText}
use Rattle.jr_tree.specs.declared.tree.Node.{Node}
use Rattle.jcr_read.specs.Reading.{node_identifier}
use Rattle.jcr_read.proofs.Replied.{replies_same}
use Rattle.jcr_read.proofs.reading.id.Goals as goal

pub returns-in-Ok : goal.returns-in-Ok
returns-in-Ok c = replies_same _ _ _ (c.in-Ok.ensures.ok (λ (node : Node). ShowsText (node_identifier node c.args.path.now)))
    (c.replied.ensures (ShowsText (node_identifier c.in-Ok.node.now c.args.path.now)) c.identifier_reply.ensures)
