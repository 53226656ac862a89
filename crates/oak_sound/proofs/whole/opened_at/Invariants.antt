use Rattle.std.proofs.Common.{◌≡◌}
use Rattle.std.proofs.Common.{fold}
use Rattle.jr_rev.specs.Vectors.{raised}
use Rattle.oak_sound.specs.Meant.{committed_entries}
use Rattle.std.specs.List.{flat_map}
use Rattle.oak_sound.specs.Meant.{committed_entries_in}
use Rattle.oak_sound.proofs.whole.opened_at.Given as goal

-- what those that are left raise stays
abbrev pub invariant-loop-document : goal.invariant-loop-document
invariant-loop-document l =
    fold raised l.vector (flat_map (λ e. committed_entries_in l.documents l.sweep e.1) l.document-iterator)
    ≡ fold raised l.initial.vector (committed_entries l.documents l.sweep)
