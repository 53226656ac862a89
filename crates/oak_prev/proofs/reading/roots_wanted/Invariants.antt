use Rattle.std.proofs.Common.{◌≡◌, fold}
use Rattle.oak_prev.specs.Wanted.{asked_roots, roots_wanted, with_other_id}
use Rattle.oak_prev.proofs.reading.roots_wanted.Given as goal

-- what the properties that are left add to the roots so far stays
abbrev pub invariant-loop-values : goal.invariant-loop-values
invariant-loop-values l = fold (with_other_id l.document) l.roots (asked_roots l.pin l.document l.values-iterator) ≡ roots_wanted l.pin l.document
