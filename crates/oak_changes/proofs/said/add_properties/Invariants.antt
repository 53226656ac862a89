use Rattle.std.proofs.Common.{◌≡◌, ◌++◌, map, take}
use Rattle.std.specs.List.{flat_map}
use Rattle.std.specs.Map.{keys_of}
use Rattle.std.specs.Map.Iter.{deref}
use Rattle.oak_read.specs.Meaning.{documents_in}
use Rattle.oak_changes.specs.Saying.{property_said}
use Rattle.oak_changes.proofs.said.add_properties.Given as goal

-- the changes of the properties of the documents so far
abbrev pub invariant-loop-document : goal.invariant-loop-document
invariant-loop-document l =
    l.said ≡ l.initial.said ++ flat_map (λ d. flat_map (property_said (documents_in l.documents) l.pin.sweep l.from l.pin.base l.path (map deref l.all)) (keys_of d.props)) (map deref (take l.document-index l.all))
