use Rattle.std.proofs.Common.{◌≡◌, fold}
use Rattle.std.specs.Map.{keys_of}
use Rattle.oak_read.specs.Wanted.{asked_roots, with_unknown}
use Rattle.oak_read.proofs.wanted.add_roots.Given as goal

-- what the entries that are left add to the roots so far stays
abbrev pub invariant-loop-r : goal.invariant-loop-r
invariant-loop-r g l =
    fold (with_unknown l.known) l.wanted (asked_roots l.pin.sweep l.pin.base l.document (keys_of l.r-iterator))
    ≡ fold (with_unknown l.known) l.initial.wanted (asked_roots l.pin.sweep l.pin.base l.document (keys_of l.entries))
