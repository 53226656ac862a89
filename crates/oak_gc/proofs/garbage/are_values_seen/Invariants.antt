use Rattle.std.proofs.Common.{◌≡◌}
use Rattle.std.specs.List.{flat_map, list_all}
use Rattle.std.specs.Map.{keys_of}
use Rattle.jr_rev.specs.Vectors.{sees}
use Rattle.oak_gc.proofs.garbage.are_values_seen.Given as goal

-- those so far are seen, so those that are left decide
abbrev pub invariant-loop-values : goal.invariant-loop-values
invariant-loop-values l = list_all (sees l.vector) (flat_map (λ p. keys_of p.1) l.values-iterator) ≡ list_all (sees l.vector) (flat_map (λ p. keys_of p.1) l.props)
