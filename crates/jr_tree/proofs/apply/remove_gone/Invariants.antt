use Rattle.std.proofs.Common.{◌≡◌, map, take}
use Rattle.std.specs.Map.Iter.{deref}
use Rattle.jr_tree.specs.Merging.{without_gone}
use Rattle.jr_tree.proofs.apply.remove_gone.Given as goal

-- what the writes so far took away is gone
abbrev pub invariant-loop-write : goal.invariant-loop-write
invariant-loop-write l = l.nodes ≡ without_gone l.initial.nodes l.part (map deref (take l.write-index l.writes))
