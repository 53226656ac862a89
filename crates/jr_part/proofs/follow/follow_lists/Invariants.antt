use Rattle.std.proofs.Common.{◌≡◌, take}
use Rattle.std.specs.List.{fold}
use Rattle.jr_part.specs.Follows.{with_listed}
use Rattle.jr_part.proofs.follow.follow_lists.Given as goal

abbrev pub invariant-loop-write : goal.invariant-loop-write
invariant-loop-write l = l.lists ≡ fold (with_listed l.by) l.initial.lists (take l.write-index l.writes)
