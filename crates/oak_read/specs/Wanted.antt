-- Which documents are read beside that of a node.
use Rattle.std.specs.Prelude.{Bool, true, false, cond, not, ◌&&◌, List, [], ◌∷◌, ◌++◌, map, Option, None, Some, is_some}
use Rattle.std.specs.Option.{option_map_or}
use Rattle.std.specs.Map.{keys_of, lookup}
use Rattle.std.specs.BTreeMap.{insert_entry, is_at}
use Rattle.std.specs.List.{filter, flat_map, fold}
use Rattle.jr_path.specs.Ids.{id_cmp}
use Rattle.jr_path.specs.declared.path.Path.{Path}
use Rattle.jr_path.specs.declared.path.DocId.{DocId}
use Rattle.jr_path.specs.declared.path.DocId.TheVariants as id
use Rattle.jr_rev.specs.declared.revision.Revision.{Revision}
use Rattle.jr_rev.specs.declared.vector.RevVec.{RevVec}
use Rattle.jr_rev.specs.Vectors.{sees}
use Rattle.oak_doc.specs.declared.document.Document.{Document}
use Rattle.oak_doc.specs.Updates.{Props}
use Rattle.oak_read.specs.Meaning.{documents_in, commit_root_of}
use Rattle.oak_read.specs.Shown.{with_previous}
use Rattle.oak_read.specs.declared.wanted.Left.{Left}

-- the documents that were read, by their ids
abbrev pub Known : Type 0
Known = List (DocId × Document)

-- a set of ids, in store order
abbrev pub Ids : Type 0
Ids = List (DocId × Unit {0})

-- with an id, where its document isn't known
abbrev pub with_unknown : Known → Ids → DocId → Ids
with_unknown known ids x = cond (is_some (lookup (is_at (id_cmp x)) known)) ids (insert_entry id_cmp ids x tt)

-- those of these ids whose documents aren't known
abbrev pub unknown : Known → List DocId → Ids
unknown known = fold (with_unknown known) []

-- the ids of the previous documents that a document lists
abbrev pub listed : Path → Document → List DocId
listed p d = map (λ e. id.Prev e.number p) d.prev

-- the listed previous documents that aren't known
abbrev pub previous_wanted : Known → Path → Ids
previous_wanted known p = option_map_or (λ d. unknown known (listed p d)) (documents_in known (id.Node p)) []

module _ (t v : RevVec) where
  -- the commit roots of those of a document's revisions that v sees and t doesn't
  abbrev pub asked_roots : Document → List Revision → List DocId
  asked_roots d rs = map (commit_root_of d) (filter (λ r. sees v r && not (sees t r)) rs)

  -- of the entries of properties
  abbrev pub property_roots : Document → Props → List DocId
  property_roots d ps = flat_map (λ p. asked_roots d (keys_of p.1)) ps

  -- of the entries of `_deleted`, and where the node is wanted whole of its properties
  abbrev pub roots_of : Bool → Document → List DocId
  roots_of whole d = asked_roots d (keys_of d.deleted) ++ cond whole (property_roots d d.props) []

  -- over the document of a path and the previous documents that it lists, those that aren't known
  abbrev pub roots_wanted : Known → Bool → Path → Ids
  roots_wanted known whole p = option_map_or (λ d. unknown known (flat_map (roots_of whole) (with_previous (documents_in known) p d))) (documents_in known (id.Node p)) []

-- a set of ids as the first of them and the others
abbrev pub left_of : Ids → Option Left
left_of [] = None
left_of (e ∷ es) = Some (record { first = e.0; rest = es })
