use Rattle.std.proofs.Common.{◌≡◌}
use Rattle.std.specs.Prelude.{◌&&◌}
use Rattle.jr_rev.specs.Revisions.{is_at_most}
use Rattle.std.specs.List.{flat_map, list_all}
use Rattle.std.specs.Map.{keys_of}
use Rattle.oak_sound.proofs.roots.are_values_between.Given as goal

-- what is left decides
abbrev pub invariant-loop-values : goal.invariant-loop-values
invariant-loop-values l =
    list_all (λ r. is_at_most l.entry.low r && is_at_most r l.entry.high) (flat_map (λ p. keys_of p.1) l.values-iterator)
    ≡ list_all (λ r. is_at_most l.entry.low r && is_at_most r l.entry.high) (flat_map (λ p. keys_of p.1) l.props)
