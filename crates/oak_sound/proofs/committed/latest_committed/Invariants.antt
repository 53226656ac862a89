use Rattle.std.proofs.Common.{◌≡◌, ◌++◌}
use Rattle.std.specs.Prelude.{option_to_list}
use Rattle.std.specs.List.{filter}
use Rattle.oak_read.specs.Meaning.{documents_in, is_committed, latest}
use Rattle.oak_read.specs.Shown.{shown}
use Rattle.oak_sound.specs.Sound.{latest_committed}
use Rattle.oak_sound.proofs.committed.latest_committed.Given as goal

-- the latest of the best so far and the entries that are left stays
abbrev pub invariant-loop-r : goal.invariant-loop-r
invariant-loop-r g l =
    latest (option_to_list (shown l.best) ++ filter (λ e. is_committed (documents_in l.documents) l.sweep l.document e.0) l.r-iterator)
    ≡ latest_committed l.documents l.sweep l.document l.entries
