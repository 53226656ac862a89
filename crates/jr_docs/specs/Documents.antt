-- The JSON of documents.
use Rattle.std.specs.Prelude.{ℕ, true, List, [], ◌∷◌, ◌++◌, map, Option, None, Some, codes}
use Rattle.std.specs.Fmt.{decimal}
use Rattle.std.specs.Option.{option_map_or}
use Rattle.jr_json.specs.Json.{property_data}
use Rattle.jr_path.specs.Ids.{id_text, path_text}
use Rattle.jr_path.specs.Names.{item_path}
use Rattle.jr_path.specs.declared.name.Name.{Name}
use Rattle.jr_path.specs.declared.path.Item.{Item}
use Rattle.jr_path.specs.declared.path.Path.{Path}
use Rattle.jr_path.specs.declared.path.DocId.{DocId}
use Rattle.jr_path.specs.declared.path.DocId.TheVariants.{Node, Prev, Settings}
use Rattle.jr_rev.specs.declared.revision.Revision.{Revision}
use Rattle.jr_rev.specs.declared.vector.Pin.{Pin}
use Rattle.jr_rev.specs.Texts.{revision_text, vector_text}
use Rattle.jr_rev.specs.Vectors.{Entries}
use Rattle.jr_value.specs.declared.value.Property.{Property}
use Rattle.oak_doc.specs.declared.document.Document.{Document}
use Rattle.oak_doc.specs.declared.document.PrevEntry.{PrevEntry}
use Rattle.serde_json.specs.Data.{Data, null, boolean, number, string, array, object, unsigned}
use Rattle.serde_json.specs.Data.{no_members}
use Rattle.serde_json.specs.View.{items_of}
use Rattle.serde_json.specs.Written.{compact_text}
use Rattle.jr_docs.specs.Members.{Field, map_data, put_fields, unless_empty}

-- ---- values

-- a depth, or a number of sessions
abbrev pub number_data : ℕ → Data
number_data n = number (unsigned n)

-- of a revision that is committed
abbrev pub commit_data : Unit {0} → Data
commit_data u = string (codes "c")

-- of a revision with a mark
abbrev pub note_data : Unit {0} → Data
note_data u = boolean true

-- of a collision the marking revision and the path of the item
abbrev pub collision_data : Revision × Item → Data
collision_data c =
    array (items_of (string (revision_text c.0) ∷ string (path_text (item_path c.1)) ∷ []))

-- the value of a property, `null` where it has none
abbrev pub held_data : Option Property → Data
held_data x = option_map_or property_data x null

-- a vector, then its sweep vector
abbrev pub pin_data : Pin → Data
pin_data p = array (items_of (string (vector_text p.base) ∷ string (vector_text p.sweep) ∷ []))

-- a previous document of the node at a path: its id, the greatest revision and the least
abbrev pub prev_data : Path → PrevEntry → Data
prev_data p e = array (items_of (string (id_text (Prev e.number p))
    ∷ string (revision_text e.high) ∷ string (revision_text e.low) ∷ []))

-- ---- fields

-- a map by revision
abbrev pub by_revision : {V : Type 0} → (V → Data) → List (Revision × V) → Option Data
by_revision of_value es = unless_empty (map_data revision_text of_value) es

-- a vector
abbrev pub vector_field : Entries → Option Data
vector_field v = unless_empty string (vector_text v)

-- the sweep vector of the document of the node at a path: only the root has one
abbrev pub sweep_field : Path → Entries → Option Data
sweep_field [] v = vector_field v
sweep_field (n ∷ p) v = None

-- the previous documents that the document of the node at a path lists
abbrev pub listed_data : Path → List PrevEntry → Data
listed_data p es = array (items_of (map (prev_data p) es))

-- the field of a property is named `p:` and its name
abbrev pub property_field : Name × List (Revision × Option Property) → Field
property_field e = (codes "p:" ++ e.0, by_revision held_data e.1)

-- what the document of a node has beside its id and its number
abbrev pub node_fields : Path → Document → List Field
node_fields p d =
    (codes "_deleted", by_revision boolean d.deleted)
    ∷ (codes "_commitRoot", by_revision number_data d.commit_root)
    ∷ (codes "_revisions", by_revision commit_data d.revisions)
    ∷ (codes "_collisions", by_revision collision_data d.collisions)
    ∷ (codes "_touched", by_revision note_data d.touched)
    ∷ (codes "_guard", by_revision note_data d.guard)
    ∷ (codes "_lastRev", vector_field d.last_rev)
    ∷ (codes "_sweepRev", sweep_field p d.sweep_rev)
    ∷ (codes "_prev", unless_empty (listed_data p) d.prev)
    ∷ map property_field d.props

-- what a previous document has
abbrev pub prev_fields : Document → List Field
prev_fields d =
    (codes "_commitRoot", by_revision number_data d.commit_root) ∷ map property_field d.props

-- what the document of the settings has
abbrev pub settings_fields : Document → List Field
settings_fields d =
    (codes "_sessions", Some (number_data d.sessions))
    ∷ (codes "checkpoints", Some (map_data (λ t. t) pin_data d.checkpoints))
    ∷ (codes "readers", Some (map_data decimal pin_data d.readers))
    ∷ []

-- what a document of that id has
abbrev pub fields_at : DocId → Document → List Field
fields_at (Node p) d = node_fields p d
fields_at (Prev n p) d = prev_fields d
fields_at Settings d = settings_fields d

-- the id and the number of a document, and what else it has
abbrev pub fields_of : Document → List Field
fields_of d = (codes "_id", Some (string (id_text d.id)))
    ∷ (codes "_modCount", Some (number_data d.mod_count)) ∷ fields_at d.id d

-- the JSON of a document: what is empty is left out, but in the settings
abbrev pub document_data : Document → Data
document_data d = object (put_fields no_members (fields_of d))

-- a document as a line, without its end
abbrev pub document_line : Document → List ℕ
document_line d = compact_text (document_data d)
