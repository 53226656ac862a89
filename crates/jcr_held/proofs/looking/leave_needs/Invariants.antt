use Rattle.std.proofs.Common.{◌≡◌, ◌++◌}
use Rattle.std.specs.List.{flat_map}
use Rattle.std.specs.Vec.Iter.{into_iter_items}
use Rattle.jcr_held.specs.Looking.{places_for}
use Rattle.jcr_held.proofs.looking.leave_needs.Given as goal

-- the places of the needs so far, and those of what is left
abbrev pub invariant-loop-need : goal.invariant-loop-need
invariant-loop-need l = l.left.items ++ flat_map places_for (into_iter_items l.need-iterator) ≡ flat_map places_for l.fn.needs.items
