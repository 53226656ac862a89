use Rattle.std.proofs.Common.{take}
use Rattle.oak_commit.specs.Places.{Finds}
use Rattle.oak_commit.proofs.places.places_of_marks.Given as goal

-- those so far are found
abbrev pub invariant-loop-at : goal.invariant-loop-at
invariant-loop-at l = Finds (λ m. m.path) l.marks (take l.at l.marks) l.places
