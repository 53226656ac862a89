-- Whose status a splitter asks: the commit roots of what it may move.
use Rattle.std.specs.Prelude.{Bool, cond, not, ◌&&◌, nat_lt, List, [], length, map}
use Rattle.std.specs.Ordering.{eq_by_cmp}
use Rattle.std.specs.BTreeMap.{insert_entry}
use Rattle.std.specs.Map.{keys_of}
use Rattle.std.specs.List.{filter, flat_map, fold}
use Rattle.jr_path.specs.Ids.{id_cmp}
use Rattle.jr_path.specs.declared.path.DocId.{DocId}
use Rattle.jr_rev.specs.declared.revision.Revision.{Revision}
use Rattle.jr_rev.specs.declared.vector.Pin.{Pin}
use Rattle.jr_rev.specs.Vectors.{sees}
use Rattle.oak_doc.specs.declared.document.Document.{Document}
use Rattle.oak_doc.specs.Updates.{Props}
use Rattle.oak_read.specs.Meaning.{commit_root_of}
use Rattle.oak_read.specs.Wanted.{Ids}

-- an id more, but for that of the document itself
abbrev pub with_other_id : Document → Ids → DocId → Ids
with_other_id d ids x = cond (eq_by_cmp id_cmp x d.id) ids (insert_entry id_cmp ids x tt)

module _ (pin : Pin) where
  -- only its commit root tells whether an entry that the base sees is committed
  abbrev pub is_asked : Revision → Bool
  is_asked r = sees pin.base r && not (sees pin.sweep r)

  -- the revisions of a property whose status is asked; of a property with one entry nothing moves
  abbrev pub asked_of : {X : Type 0} → List (Revision × X) → List Revision
  asked_of es = cond (nat_lt 1 (length es)) (filter is_asked (keys_of es)) []

  -- the commit roots of a document's properties that are asked
  abbrev pub asked_roots : Document → Props → List DocId
  asked_roots d ps = flat_map (λ p. map (commit_root_of d) (asked_of p.1)) ps

  -- each once, in store order, but for the document itself
  abbrev pub roots_wanted : Document → Ids
  roots_wanted d = fold (with_other_id d) [] (asked_roots d d.props)
