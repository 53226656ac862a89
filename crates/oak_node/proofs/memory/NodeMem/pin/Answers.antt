use Rattle.oak_node.proofs.Kept.{pins_memory}
use Rattle.oak_node.proofs.Places.{insert_sorted}
use Rattle.oak_node.proofs.memory.NodeMem.pin.Goals as goal

pub invariant_of-self-2 : goal.invariant_of-self-2
invariant_of-self-2 c = pins_memory _ _ _ c.self.invariant c.in_ok-put.ensures.ok (insert_sorted _ _ c.self.inside.pins.items c.self.invariant.owners)
