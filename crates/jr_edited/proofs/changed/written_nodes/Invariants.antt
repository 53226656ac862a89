use Rattle.std.proofs.Common.{◌≡◌, take}
use Rattle.jr_tree.specs.Merging.{written_nodes}
use Rattle.jr_edited.proofs.changed.written_nodes.Given as goal

-- the nodes that the writes so far are of
abbrev pub invariant-loop-write : goal.invariant-loop-write
invariant-loop-write l = l.part ≡ written_nodes l.tree (take l.write-index l.writes)
