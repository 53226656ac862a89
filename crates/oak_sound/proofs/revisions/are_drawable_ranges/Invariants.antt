use Rattle.std.proofs.Common.{◌≡◌}
use Rattle.std.proofs.Common.{[], ◌∷◌, drop}
use Rattle.std.specs.List.{flat_map, list_all}
use Rattle.oak_sound.specs.Sound.{is_drawable}
use Rattle.oak_sound.proofs.revisions.are_drawable_ranges.Given as goal

-- what is left decides
abbrev pub invariant-loop-entry : goal.invariant-loop-entry
invariant-loop-entry l =
    list_all (is_drawable l.clusters) (flat_map (λ e. e.high ∷ e.low ∷ []) (drop l.entry-index l.listed))
    ≡ list_all (is_drawable l.clusters) (flat_map (λ e. e.high ∷ e.low ∷ []) l.listed)
