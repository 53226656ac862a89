use Rattle.std.proofs.Common.{◌≡◌, ◌++◌}
use Rattle.std.specs.Map.{keys_of}
use Rattle.oak_read.specs.Meaning.{documents_in, found_children}
use Rattle.oak_read.proofs.children.find_children.Given as goal

-- the names so far, and those of the documents that are left
abbrev pub invariant-loop-id : goal.invariant-loop-id
invariant-loop-id l =
    l.names.items ++ found_children (documents_in l.documents) l.pin.sweep l.pin.base (keys_of l.id-iterator) l.path
    ≡ found_children (documents_in l.documents) l.pin.sweep l.pin.base (keys_of l.documents) l.path
