-- What is left of a document once its garbage was dropped.
use Rattle.std.specs.Prelude.{◌≡◌, ℕ, List, [], Some}
use Rattle.std.specs.List.Sorted.{IsStrictlySortedBy}
use Rattle.std.specs.Map.{keys_of}
use Rattle.jr_path.specs.Names.{name_cmp}
use Rattle.jr_rev.specs.declared.vector.RevVec.{RevVec}
use Rattle.oak_doc.specs.declared.document.Document.{Document}
use Rattle.oak_doc.specs.Updates.{after_changes}
use Rattle.oak_gc.specs.Garbage.{garbage_in, pruning}

-- a document whose garbage was dropped, with any of the previous documents that it lists, has no entry that is garbage of that bound
abbrev pub LeavesNoGarbage : Type 0
LeavesNoGarbage = (m t : RevVec) (d : Document) (ns : List ℕ) (number : ℕ) → IsStrictlySortedBy name_cmp (keys_of d.props) → garbage_in m t (after_changes (Some d) (pruning m t d ns) number) ≡ []
