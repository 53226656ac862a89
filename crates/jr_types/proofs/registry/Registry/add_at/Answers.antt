use Rattle.std.proofs.Common.{rules, Some, ◌≡◌, ◌<◌, ◌∷◌, ◌++◌, [], length, map}
use Rattle.std.specs.Prelude.{slice_get, slice_index_or}
use Rattle.std.specs.List.{cons_option}
use Rattle.jr_types.proofs.Further.{at_step, pushed}
use Rattle.jr_types.proofs.registry.Registry.add_at.Goals as goal
use Rattle.jr_types.proofs.registry.Registry.add_at.Goals.{in-Some+in_ok-push, in_default}

pub loop-place-preserved : goal.loop-place-preserved
loop-place-preserved c =
    let l : c.loop-place.place-index < length c.args.places.now = search rules in
    let put : map (λ d. d.now) c.match-at.types.items ≡ map (λ d. d.now) c.loop-place.types.items ++ cons_option (slice_get c.args.self.now (slice_index_or c.args.places.now c.loop-place.place-index 0)) [] =
    elim c.match-at.branch [
      | in-Some+in_ok-push w ↦
          let p : c.match-at.types.items ≡ c.loop-place.types.items ++ w.in-Some.definition ∷ [] = search rules in
          let s : Some w.in-Some.definition.now ≡ slice_get c.args.self.now (slice_index_or c.args.places.now c.loop-place.place-index 0) = search rules in
          pushed (λ d. d.now) c.loop-place.types.items c.match-at.types.items w.in-Some.definition _ p s
      | in_default w ↦ search rules
    ] in
    at_step c.args.self.now c.args.places.now c.loop-place.place-index 0 _ _ _ l c.loop-place.invariant put
