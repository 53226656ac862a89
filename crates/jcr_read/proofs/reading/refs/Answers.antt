use Rattle.std.proofs.Common.{[]}
use Rattle.jcr_trans.specs.Answers.{ShowsItems}
use Rattle.jr_overlay.specs.Overlays.{known_view}
use Rattle.jr_tree.specs.declared.tree.Node.{Node}
use Rattle.jcr_ref.specs.References.{referrers}
use Rattle.jcr_read.specs.Reading.{node_identifier}
use Rattle.jcr_read.proofs.Replied.{replies_seen}
use Rattle.jcr_read.proofs.reading.refs.Goals as goal

pub returns-in-Ok : goal.returns-in-Ok
returns-in-Ok c = replies_seen c.new.result c.args.part.now c.args.overlay.now c.args.path.now
    (λ (node : Node). ShowsItems (referrers ((known_view c.args.part.now c.args.overlay.now).below [])
    (node_identifier node c.args.path.now)))
    _ _ c.new.ensures.known c.new.ensures.changed (c.in-Ok.ensures.ok _)
    (c.replied.ensures (ShowsItems (referrers ((known_view c.args.part.now c.args.overlay.now).below [])
    (node_identifier c.in-Ok.node.now c.args.path.now))) c.referrers_reply.ensures)
