use Rattle.std.proofs.Common.{◌≡◌, map, take}
use Rattle.std.specs.List.{fold}
use Rattle.std.specs.Map.Iter.{deref}
use Rattle.jr_tree.specs.Edits.{with_node_write}
use Rattle.jr_tree.proofs.apply.write_nodes.Given as goal

abbrev pub invariant-loop-write : goal.invariant-loop-write
invariant-loop-write l = l.nodes ≡ fold (with_node_write l.born) l.initial.nodes (map deref (take l.write-index l.writes))
