use Rattle.std.proofs.Common.{◌≡◌}
use Rattle.std.specs.Map.{keys_of}
use Rattle.oak_commit.specs.Meeting.{with_revisions}
use Rattle.oak_commit.proofs.met.put_revisions.Given as goal

-- what the entries that are left add to the revisions so far stays
abbrev pub invariant-loop-r : goal.invariant-loop-r
invariant-loop-r g l = with_revisions l.revisions (keys_of l.r-iterator) ≡ with_revisions l.initial.revisions (keys_of l.entries)
