use Rattle.std.proofs.Common.{◌≡◌}
use Rattle.jr_tree.specs.Changes.{with_writes, nodes_taken}
use Rattle.jr_tree.proofs.difference.take_nodes.Given as goal

-- what is left completes the writes so far
abbrev pub invariant-loop-path : goal.invariant-loop-path
invariant-loop-path l = with_writes l.writes (nodes_taken l.to l.path-iterator) ≡ with_writes l.initial.writes (nodes_taken l.to l.from)
