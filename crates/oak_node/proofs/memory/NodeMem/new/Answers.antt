use Rattle.std.proofs.Common.{◌∙◌}
use Rattle.oak_node.proofs.Changes.{kept_start, own_in_is}
use Rattle.oak_node.proofs.Kept.{start_memory, start_own}
use Rattle.oak_node.proofs.memory.NodeMem.new.Goals as goal

pub invariant_of-result : goal.invariant_of-result
invariant_of-result c =
    start_memory _ c.requires.node.0 c.requires.node.1 c.requires.entry c.new.ensures.items c.new-2.ensures.items
    (kept_start _ _ _ _ (c.own_in.ensures ∙ own_in_is c.args.cluster _ c.requires.entry) (start_own _ c.args.cluster c.requires.entry).1 c.new-4.ensures.items)
    (λ h. h)
