use Rattle.std.proofs.Common.{◌≡◌, map, take}
use Rattle.std.specs.Map.Iter.{deref}
use Rattle.jr_overlay.specs.Committing.{without_places}
use Rattle.jr_overlay.proofs.commit.remove_places.Given as goal

-- the places so far are gone
abbrev pub invariant-loop-gone : goal.invariant-loop-gone
invariant-loop-gone l = l.changes ≡ without_places l.initial.changes (map deref (take l.gone-index l.paths))
