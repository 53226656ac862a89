use Rattle.std.proofs.Common.{◌≡◌, map, take}
use Rattle.std.specs.Map.Iter.{deref}
use Rattle.jr_overlay.specs.Committing.{with_places}
use Rattle.jr_overlay.proofs.commit.put_places.Given as goal

-- the paths so far have places
abbrev pub invariant-loop-path : goal.invariant-loop-path
invariant-loop-path l = l.changes ≡ with_places l.part.nodes l.initial.changes (map deref (take l.path-index l.paths))
