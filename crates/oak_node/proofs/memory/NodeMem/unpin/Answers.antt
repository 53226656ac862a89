use Rattle.oak_node.proofs.Kept.{pins_memory}
use Rattle.oak_node.proofs.Places.{remove_sorted}
use Rattle.oak_node.proofs.memory.NodeMem.unpin.Goals as goal

pub invariant_of-self : goal.invariant_of-self
invariant_of-self c = pins_memory _ _ _ c.self.invariant c.remove.ensures (remove_sorted _ c.self.inside.pins.items c.self.invariant.owners)
