use Rattle.std.proofs.Common.{◌≡◌, ◌&&◌, ◌++◌, filter, map}
use Rattle.std.specs.Prelude.{not}
use Rattle.jr_rev.specs.Vectors.{sees}
use Rattle.oak_read.specs.Meaning.{documents_in, is_committed}
use Rattle.oak_changes.proofs.states.add_deleted.Given as goal

-- the states so far, and those of the entries that are left
abbrev pub invariant-loop-r : goal.invariant-loop-r
invariant-loop-r l =
    l.states ++ map (λ e. (e.0, not e.1)) (filter (λ e. sees l.pin.base e.0 && is_committed (documents_in l.documents) l.pin.sweep l.document e.0) l.r-iterator)
    ≡ l.initial.states ++ map (λ e. (e.0, not e.1)) (filter (λ e. sees l.pin.base e.0 && is_committed (documents_in l.documents) l.pin.sweep l.document e.0) l.document.deleted)
