use Rattle.std.proofs.Common.{take}
use Rattle.oak_commit.specs.Places.{Finds, path_of_write}
use Rattle.oak_commit.proofs.places.places_of_writes.Given as goal

-- those so far are found
abbrev pub invariant-loop-at : goal.invariant-loop-at
invariant-loop-at l = Finds path_of_write l.writes (take l.at l.writes) l.places
