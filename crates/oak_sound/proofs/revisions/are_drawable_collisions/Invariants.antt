use Rattle.std.proofs.Common.{◌≡◌}
use Rattle.std.proofs.Common.{[], ◌∷◌}
use Rattle.std.specs.List.{flat_map, list_all}
use Rattle.oak_sound.specs.Sound.{is_drawable}
use Rattle.oak_sound.proofs.revisions.are_drawable_collisions.Given as goal

-- what is left decides
abbrev pub invariant-loop-r : goal.invariant-loop-r
invariant-loop-r l =
    list_all (is_drawable l.clusters) (flat_map (λ e. e.0 ∷ e.1.0 ∷ []) l.r-iterator)
    ≡ list_all (is_drawable l.clusters) (flat_map (λ e. e.0 ∷ e.1.0 ∷ []) l.collisions)
