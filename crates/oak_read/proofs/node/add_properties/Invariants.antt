use Rattle.std.proofs.Common.{◌≡◌, map, fold}
use Rattle.std.specs.Map.{keys_of}
use Rattle.std.specs.Map.Iter.{deref}
use Rattle.oak_read.specs.Meaning.{documents_in}
use Rattle.oak_read.specs.Shown.{with_property}
use Rattle.oak_read.proofs.node.add_properties.Given as goal

-- what the names that are left make of the properties so far stays
abbrev pub invariant-loop-name : goal.invariant-loop-name
invariant-loop-name l =
    fold (with_property (documents_in l.documents) l.pin.sweep l.pin.base (map deref l.all)) l.found (keys_of l.name-iterator)
    ≡ fold (with_property (documents_in l.documents) l.pin.sweep l.pin.base (map deref l.all)) l.initial.found (keys_of l.document.props)
