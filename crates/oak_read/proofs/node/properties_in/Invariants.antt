use Rattle.std.proofs.Common.{◌≡◌, [], map, fold, take}
use Rattle.std.specs.List.{flat_map}
use Rattle.std.specs.Map.{keys_of}
use Rattle.std.specs.Map.Iter.{deref}
use Rattle.oak_read.specs.Meaning.{documents_in}
use Rattle.oak_read.specs.Shown.{with_property}
use Rattle.oak_read.proofs.node.properties_in.Given as goal

-- the properties of the documents so far
abbrev pub invariant-loop-document : goal.invariant-loop-document
invariant-loop-document l =
    l.found ≡ fold (with_property (documents_in l.documents) l.pin.sweep l.pin.base (map deref l.all)) [] (flat_map (λ d. keys_of d.props) (map deref (take l.document-index l.all)))
