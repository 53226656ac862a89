use Rattle.std.proofs.Common.{◌∷◌, ◌++◌, [], ap, ◌∙◌, arith}
use Rattle.oak_node.specs.Memory.{NodeState}
use Rattle.oak_world.proofs.Starting.{begun_more, entry_there}
use Rattle.oak_world.proofs.world.start_memories.Goals as goal

pub new-requires-clause-entry : goal.new-requires-clause-entry
new-requires-clause-entry c = entry_there c.args.clusters c.loop-node.node c.start.result c.start.ensures (omega (arith, c.requires.1)) (omega arith) (omega arith)

pub loop-node-preserved : goal.loop-node-preserved
loop-node-preserved c =
    begun_more c.args.clusters c.loop-node.node c.start.result _ _ (omega arith) c.loop-node.invariant c.start.ensures
    (c.in_ok-push.ensures.items ∙ ap (λ (m : NodeState). c.loop-node.memories.items ++ m ∷ []) c.new.ensures)
