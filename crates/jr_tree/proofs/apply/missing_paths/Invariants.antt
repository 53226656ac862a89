use Rattle.std.proofs.Common.{◌≡◌, ◌++◌, map}
use Rattle.std.specs.Map.Iter.{deref}
use Rattle.jr_tree.specs.Merging.{paths_missing}
use Rattle.jr_tree.proofs.apply.missing_paths.Given as goal

-- what is left completes what was done
abbrev pub invariant-loop-path : goal.invariant-loop-path
invariant-loop-path l = map deref l.paths.items ++ paths_missing l.nodes l.path-iterator ≡ paths_missing l.nodes l.part
