use Rattle.jr_stage.proofs.Beginning.{slice_few, slice_nodes, slice_world}
use Rattle.jr_stage.proofs.Ascending.{if_ok_more}
use Rattle.jr_stage.proofs.stage.world_of.Goals as goal

pub new-requires-clause-clusters : goal.new-requires-clause-clusters
new-requires-clause-clusters c = (c.requires.nodes.some, c.requires.nodes.eight)

pub new-requires-clause-sessions : goal.new-requires-clause-sessions
new-requires-clause-sessions c =
    slice_few c.args.law.now c.args.clusters c.as_slice.result.now c.as_slice.ensures c.in_ok-nodes.nodes.items c.as_slice-2.result.now c.in_ok-nodes.ensures c.as_slice-2.ensures.value c.requires.few

pub new-requires-clause-nodes : goal.new-requires-clause-nodes
new-requires-clause-nodes c =
    slice_nodes c.args.law.now c.args.clusters c.as_slice.result.now c.as_slice.ensures c.in_ok-nodes.nodes.items c.as_slice-2.result.now c.in_ok-nodes.ensures c.as_slice-2.ensures.value c.requires.nodes

pub returns : goal.returns
returns c =
    if_ok_more c.new.result
    (slice_world c.args.law.now c.args.clusters c.as_slice.result.now c.as_slice.ensures c.in_ok-nodes.nodes.items c.as_slice-2.result.now c.in_ok-nodes.ensures c.as_slice-2.ensures.value) c.new.ensures
