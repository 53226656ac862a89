use Rattle.std.proofs.Common.{◌≡◌, ◌++◌}
use Rattle.std.specs.Prelude.{option_to_list}
use Rattle.oak_read.specs.Meaning.{documents_in, latest}
use Rattle.oak_read.specs.Shown.{shown, counting_among}
use Rattle.oak_read.proofs.latest.latest_with.Given as goal

-- the latest of the best so far and the entries that are left stays
abbrev pub invariant-loop-r : goal.invariant-loop-r
invariant-loop-r g l =
    latest (option_to_list (shown l.best) ++ counting_among (documents_in l.documents) l.pin.sweep l.pin.base l.document l.r-iterator)
    ≡ latest (option_to_list (shown l.initial.best) ++ counting_among (documents_in l.documents) l.pin.sweep l.pin.base l.document l.entries)
