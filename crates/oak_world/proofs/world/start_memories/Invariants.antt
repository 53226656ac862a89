use Rattle.std.proofs.Common.{◌≡◌, ◌-◌, map}
use Rattle.std.specs.List.{range_with_len}
use Rattle.jr_rev.specs.Vectors.{start}
use Rattle.oak_node.specs.Memory.{begun}
use Rattle.oak_world.proofs.world.start_memories.Given as goal

-- the memories so far
abbrev pub invariant-loop-node : goal.invariant-loop-node
invariant-loop-node l = l.memories.items ≡ map (λ k. begun k (start l.clusters)) (range_with_len 1 (l.node - 1))
