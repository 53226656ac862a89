use Rattle.std.proofs.Common.{◌≡◌}
use Rattle.std.specs.List.{flat_map, list_all}
use Rattle.std.specs.Map.{keys_of}
use Rattle.oak_sound.specs.Sound.{is_drawable}
use Rattle.oak_sound.proofs.revisions.are_drawable_values.Given as goal

-- what is left decides
abbrev pub invariant-loop-values : goal.invariant-loop-values
invariant-loop-values l =
    list_all (is_drawable l.clusters) (flat_map (λ p. keys_of p.1) l.values-iterator)
    ≡ list_all (is_drawable l.clusters) (flat_map (λ p. keys_of p.1) l.props)
