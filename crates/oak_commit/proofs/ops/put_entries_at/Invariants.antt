use Rattle.std.proofs.Common.{◌≡◌, ◌++◌, take}
use Rattle.oak_commit.specs.Places.{items_at}
use Rattle.oak_commit.specs.Writing.{entries_at}
use Rattle.oak_commit.proofs.ops.put_entries_at.Given as goal

-- the entries of the writes at the places so far
abbrev pub invariant-loop-at : goal.invariant-loop-at
invariant-loop-at l = l.changes ≡ l.initial.changes ++ entries_at l.r l.path (items_at l.writes (take l.at-index l.at-items))
