use Rattle.std.proofs.Common.{◌≡◌}
use Rattle.std.proofs.Common.{fold}
use Rattle.jr_rev.specs.Vectors.{raised}
use Rattle.oak_read.specs.Meaning.{documents_in, is_committed}
use Rattle.std.specs.List.{filter}
use Rattle.std.specs.Map.{keys_of}
use Rattle.oak_sound.proofs.whole.raise_by_entries.Given as goal

-- what those that are left raise stays
abbrev pub invariant-loop-r : goal.invariant-loop-r
invariant-loop-r g l =
    fold raised l.vector (filter (is_committed (documents_in l.documents) l.sweep l.document) (keys_of l.r-iterator))
    ≡ fold raised l.initial.vector (filter (is_committed (documents_in l.documents) l.sweep l.document) (keys_of l.entries))
