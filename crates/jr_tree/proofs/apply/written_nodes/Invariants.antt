use Rattle.std.proofs.Common.{◌≡◌, map, take}
use Rattle.std.specs.Map.Iter.{deref}
use Rattle.jr_tree.specs.Merging.{written_nodes}
use Rattle.jr_tree.proofs.apply.written_nodes.Given as goal

-- the nodes that the writes so far are of
abbrev pub invariant-loop-write : goal.invariant-loop-write
invariant-loop-write l = l.part ≡ written_nodes l.nodes (map deref (take l.write-index l.writes))
