use Rattle.std.proofs.Common.{◌≡◌, take}
use Rattle.std.specs.List.{fold}
use Rattle.jr_part.specs.Follows.{with_begun}
use Rattle.jr_part.proofs.follow.begin_lists.Given as goal

abbrev pub invariant-loop-write : goal.invariant-loop-write
invariant-loop-write l = l.lists ≡ fold with_begun l.initial.lists (take l.write-index l.writes)
