use Rattle.std.proofs.Common.{◌≡◌, ◌++◌, map}
use Rattle.std.specs.List.{flat_map}
use Rattle.std.specs.Map.{keys_of}
use Rattle.std.specs.Map.Iter.{deref}
use Rattle.oak_read.specs.Meaning.{documents_in}
use Rattle.oak_changes.specs.Saying.{property_said}
use Rattle.oak_changes.proofs.said.add_properties_in.Given as goal

-- the changes so far, and those of the properties that are left
abbrev pub invariant-loop-name : goal.invariant-loop-name
invariant-loop-name l =
    l.said ++ flat_map (property_said (documents_in l.documents) l.pin.sweep l.from l.pin.base l.path (map deref l.all)) (keys_of l.name-iterator)
    ≡ l.initial.said ++ flat_map (property_said (documents_in l.documents) l.pin.sweep l.from l.pin.base l.path (map deref l.all)) (keys_of l.document.props)
