use Rattle.std.proofs.Common.{◌≡◌, [], fold, take}
use Rattle.oak_changes.specs.Saying.{with_said}
use Rattle.oak_changes.proofs.said.grouped.Given as goal

-- the changes so far are put to their commits
abbrev pub invariant-loop-one : goal.invariant-loop-one
invariant-loop-one l = l.groups ≡ fold with_said [] (take l.one-index l.said)
