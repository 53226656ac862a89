use Rattle.std.proofs.Common.{◌≡◌, map, take}
use Rattle.std.specs.Map.Iter.{deref}
use Rattle.jr_tree.specs.Merging.{without_paths}
use Rattle.jr_tree.proofs.apply.remove_paths.Given as goal

-- the paths so far are gone
abbrev pub invariant-loop-gone : goal.invariant-loop-gone
invariant-loop-gone l = l.nodes ≡ without_paths l.initial.nodes (map deref (take l.gone-index l.paths))
