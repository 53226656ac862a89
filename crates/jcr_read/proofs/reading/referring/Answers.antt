use Rattle.std.proofs.Common.{[]}
use Rattle.jr_tree.specs.Trees.{subtree_of}
use Rattle.jr_tree.specs.declared.tree.Node.{Node}
use Rattle.jr_overlay.specs.Overlays.{sighted, whole_view}
use Rattle.jcr_ref.specs.References.{referrers}
use Rattle.jcr_trans.specs.Answers.{ShowsItems}
use Rattle.jcr_read.specs.Reading.{node_identifier}
use Rattle.jcr_read.proofs.Replied.{replies_viewed, viewed_as}
use Rattle.jcr_read.proofs.reading.referring.Goals as goal

pub returns-in-Ok : goal.returns-in-Ok
returns-in-Ok c = replies_viewed (sighted c.args.sight.now) (whole_view c.args.view.now) c.args.path.now
    (λ (node : Node). ShowsItems (referrers (subtree_of c.args.view.now []) (node_identifier node c.args.path.now)))
    _ _ c.requires (c.in-Ok.ensures.ok _)
    (c.replied.ensures (ShowsItems (referrers (subtree_of c.args.view.now [])
    (node_identifier c.in-Ok.node.now c.args.path.now))) c.referring_reply.ensures)

pub returns-in-Err : goal.returns-in-Err
returns-in-Err c = λ m. viewed_as (sighted c.args.sight.now) (whole_view c.args.view.now) c.args.path.now
    (λ (node : Node). ShowsItems (referrers (subtree_of c.args.view.now []) (node_identifier node c.args.path.now)))
    _ c.requires (c.in-Err.ensures.err m _)
