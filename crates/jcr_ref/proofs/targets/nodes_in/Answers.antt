use Rattle.std.proofs.Common.{rules, ◌<◌, length}
use Rattle.jcr_ref.specs.Targets.{node_by_text}
use Rattle.jcr_ref.proofs.FirstNodes.{found_more}
use Rattle.jcr_ref.proofs.targets.nodes_in.Goals as goal

pub loop-id-preserved : goal.loop-id-preserved
loop-id-preserved c =
    let below : c.loop-id.id-index < length c.args.ids.now = search rules in
    found_more (node_by_text c.args.index.now) c.args.ids.now c.loop-id.id-index _ _ _ below (search rules) c.loop-id.invariant c.in_ok-push_node.ensures
