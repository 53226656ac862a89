use Rattle.std.proofs.Common.{◌≡◌, ◌++◌, map}
use Rattle.std.specs.Map.Iter.{deref}
use Rattle.jr_overlay.specs.Committing.{untouched}
use Rattle.jr_overlay.proofs.commit.untouched_paths.Given as goal

-- what is left completes what was done
abbrev pub invariant-loop-path : goal.invariant-loop-path
invariant-loop-path l = map deref l.paths.items ++ untouched l.changes l.path-iterator ≡ untouched l.changes l.steps
