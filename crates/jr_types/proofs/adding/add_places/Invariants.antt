use Rattle.std.proofs.Common.{◌≡◌, take, fold}
use Rattle.jr_types.specs.Registered.{with_place}
use Rattle.jr_types.proofs.adding.add_places.Given as goal

abbrev pub invariant-loop-place : goal.invariant-loop-place
invariant-loop-place l = l.line ≡ fold with_place l.initial.line (take l.place-index l.places)
