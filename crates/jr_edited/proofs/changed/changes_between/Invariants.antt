use Rattle.std.proofs.Common.{◌≡◌, take}
use Rattle.jr_edited.specs.Edited.{changed_between}
use Rattle.jr_edited.proofs.changed.changes_between.Given as goal

-- what the trees have where the writes so far are
abbrev pub invariant-loop-write : goal.invariant-loop-write
invariant-loop-write l = l.changes ≡ changed_between l.old l.new (take l.write-index l.writes)
