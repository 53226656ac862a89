use Rattle.jcr_trans.specs.Answers.{ShowsProperties}
use Rattle.jr_tree.specs.declared.tree.Node.{Node}
use Rattle.jcr_read.proofs.Replied.{replies_same}
use Rattle.jcr_read.proofs.reading.props.Goals as goal

pub returns-in-Ok : goal.returns-in-Ok
returns-in-Ok c = replies_same _ _ _ (c.in-Ok.ensures.ok (λ (node : Node). ShowsProperties node.props))
    (c.replied.ensures (ShowsProperties c.in-Ok.node.now.props) c.properties_reply.ensures)
