use Rattle.std.proofs.Common.{◌≡◌, fold}
use Rattle.oak_read.specs.Wanted.{property_roots, with_unknown}
use Rattle.oak_read.proofs.wanted.add_roots_of_properties.Given as goal

-- what the properties that are left add to the roots so far stays
abbrev pub invariant-loop-values : goal.invariant-loop-values
invariant-loop-values l =
    fold (with_unknown l.known) l.wanted (property_roots l.pin.sweep l.pin.base l.document l.values-iterator)
    ≡ fold (with_unknown l.known) l.initial.wanted (property_roots l.pin.sweep l.pin.base l.document l.document.props)
