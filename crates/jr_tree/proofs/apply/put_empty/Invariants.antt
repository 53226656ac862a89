use Rattle.std.proofs.Common.{◌≡◌, map, take}
use Rattle.std.specs.Map.Iter.{deref}
use Rattle.jr_tree.specs.Merging.{with_room}
use Rattle.jr_tree.proofs.apply.put_empty.Given as goal

-- the paths so far have nodes
abbrev pub invariant-loop-path : goal.invariant-loop-path
invariant-loop-path l = l.nodes ≡ with_room l.initial.nodes (map deref (take l.path-index l.paths))
