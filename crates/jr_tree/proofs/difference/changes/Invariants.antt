use Rattle.std.proofs.Common.{◌≡◌, ◌++◌}
use Rattle.std.specs.Map.{values_of}
use Rattle.jr_tree.specs.Edits.{changes}
use Rattle.jr_tree.proofs.difference.changes.Given as goal

-- what is left completes the list so far
abbrev pub invariant-loop-write : goal.invariant-loop-write
invariant-loop-write l = l.list.items ++ values_of l.write-iterator ≡ changes l.from l.to
