use Rattle.std.proofs.Common.{◌≡◌}
use Rattle.std.proofs.Common.{fold}
use Rattle.jr_rev.specs.Vectors.{raised}
use Rattle.oak_read.specs.Meaning.{documents_in, is_committed}
use Rattle.std.specs.List.{filter, flat_map}
use Rattle.std.specs.Map.{keys_of}
use Rattle.oak_sound.proofs.whole.raise_by_values.Given as goal

-- what those that are left raise stays
abbrev pub invariant-loop-values : goal.invariant-loop-values
invariant-loop-values l =
    fold raised l.vector (filter (is_committed (documents_in l.documents) l.sweep l.document) (flat_map (λ p. keys_of p.1) l.values-iterator))
    ≡ fold raised l.initial.vector (filter (is_committed (documents_in l.documents) l.sweep l.document) (flat_map (λ p. keys_of p.1) l.document.props))
