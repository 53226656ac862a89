use Rattle.std.proofs.Common.{◌≡◌, map, take}
use Rattle.oak_commit.specs.Places.{items_at}
use Rattle.oak_commit.proofs.places.marks_here.Given as goal

-- the marks at the places so far
abbrev pub invariant-loop-at : goal.invariant-loop-at
invariant-loop-at l = l.here.items ≡ map (λ m. m.mark) (items_at l.marks (take l.at-index l.at-items))
