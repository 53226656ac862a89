use Rattle.oak_node.proofs.Kept.{pins_memory}
use Rattle.oak_node.proofs.Places.{insert_sorted}
use Rattle.oak_node.proofs.memory.NodeMem.repin.Goals as goal

pub invariant_of-self : goal.invariant_of-self
invariant_of-self c = pins_memory _ _ _ c.self.invariant c.replace.ensures (insert_sorted _ _ c.self.inside.pins.items c.self.invariant.owners)
