-- What is found at the names of the fields in the JSON of a document.
use Rattle.std.proofs.Common.{◌≡◌, List, ◌∷◌, Option, None, Some, false, refl, sym, ap, ◌∙◌}
use Rattle.std.specs.Prelude.{ℕ, codes, map}
use Rattle.std.specs.Ordering.{is_eq, nat_cmp}
use Rattle.std.specs.Cmp.Lexicographic.{slice_cmp}
use Rattle.serde_json.specs.Data.{Data, boolean, string, no_members}
use Rattle.serde_json.specs.Find.{get, get_member}
use Rattle.jr_docs.specs.Documents.{by_revision, collision_data, commit_data, document_data, fields_at, listed_data}
use Rattle.jr_docs.specs.Documents.{note_data, number_data, pin_data, property_field, sweep_field, vector_field}
use Rattle.jr_docs.specs.Members.{Field, map_data, put_fields, unless_empty}
use Rattle.jr_docs_read.specs.Reading.{printed_members}
use Rattle.jr_docs_read.proofs.Found.{fields_found, found, others_found, over, over_none}
use Rattle.jr_path.specs.Ids.{id_text}
use Rattle.jr_path.specs.declared.path.DocId.{DocId}
use Rattle.jr_path.specs.declared.path.DocId.TheVariants.{Node, Prev, Settings}
use Rattle.jr_path.specs.declared.path.Path.{Path}
use Rattle.oak_doc.specs.declared.document.Document.{Document}
use Rattle.oak_doc.specs.Updates.{Props}
use Rattle.std.specs.Fmt.{decimal}

-- the fields with an id's others
abbrev pub fields_with : DocId → Document → List Field
fields_with i d = (codes "_id", Some (string (id_text d.id))) ∷ (codes "_modCount", Some (number_data d.mod_count)) ∷ fields_at i d

pub members_at : (i : DocId) (d : Document) → d.id ≡ i → printed_members d ≡ put_fields no_members (fields_with i d)
members_at i d is = ap (λ (k : DocId). put_fields no_members (fields_with k d)) is

-- what is found at a name among the fields is what the JSON has there
pub at_name : (q : List ℕ) (o : Option Data) (i : DocId) (d : Document) (j : Data) → d.id ≡ i → document_data d ≡ j → found q (fields_with i d) None ≡ o → get q j ≡ o
at_name q o i d j is json there = ap (get q) (sym json) ∙ (ap (get_member q) (members_at i d is) ∙ (fields_found q (fields_with i d) no_members ∙ there))

-- behind the fields before them, properties change nothing at another name
before_props : (q : List ℕ) (ps : Props) (o : Option Data) → ((p : _) → is_eq (slice_cmp nat_cmp q (property_field p).0) ≡ false) → found q (map property_field ps) (over o None) ≡ o
before_props q ps o other = others_found q property_field other ps (over o None) ∙ over_none o

pub node_deleted : (p : Path) (d : Document) (j : Data) → d.id ≡ Node p → document_data d ≡ j → get (codes "_deleted") j ≡ by_revision boolean d.deleted
node_deleted p d j is json = at_name (codes "_deleted") _ (Node p) d j is json (before_props (codes "_deleted") d.props (by_revision boolean d.deleted) (λ x. refl))

pub node_commit_root : (p : Path) (d : Document) (j : Data) → d.id ≡ Node p → document_data d ≡ j → get (codes "_commitRoot") j ≡ by_revision number_data d.commit_root
node_commit_root p d j is json = at_name (codes "_commitRoot") _ (Node p) d j is json (before_props (codes "_commitRoot") d.props (by_revision number_data d.commit_root) (λ x. refl))

pub node_revisions : (p : Path) (d : Document) (j : Data) → d.id ≡ Node p → document_data d ≡ j → get (codes "_revisions") j ≡ by_revision commit_data d.revisions
node_revisions p d j is json = at_name (codes "_revisions") _ (Node p) d j is json (before_props (codes "_revisions") d.props (by_revision commit_data d.revisions) (λ x. refl))

pub node_collisions : (p : Path) (d : Document) (j : Data) → d.id ≡ Node p → document_data d ≡ j → get (codes "_collisions") j ≡ by_revision collision_data d.collisions
node_collisions p d j is json = at_name (codes "_collisions") _ (Node p) d j is json (before_props (codes "_collisions") d.props (by_revision collision_data d.collisions) (λ x. refl))

pub node_touched : (p : Path) (d : Document) (j : Data) → d.id ≡ Node p → document_data d ≡ j → get (codes "_touched") j ≡ by_revision note_data d.touched
node_touched p d j is json = at_name (codes "_touched") _ (Node p) d j is json (before_props (codes "_touched") d.props (by_revision note_data d.touched) (λ x. refl))

pub node_guard : (p : Path) (d : Document) (j : Data) → d.id ≡ Node p → document_data d ≡ j → get (codes "_guard") j ≡ by_revision note_data d.guard
node_guard p d j is json = at_name (codes "_guard") _ (Node p) d j is json (before_props (codes "_guard") d.props (by_revision note_data d.guard) (λ x. refl))

pub node_last_rev : (p : Path) (d : Document) (j : Data) → d.id ≡ Node p → document_data d ≡ j → get (codes "_lastRev") j ≡ vector_field d.last_rev
node_last_rev p d j is json = at_name (codes "_lastRev") _ (Node p) d j is json (before_props (codes "_lastRev") d.props (vector_field d.last_rev) (λ x. refl))

pub node_sweep_rev : (p : Path) (d : Document) (j : Data) → d.id ≡ Node p → document_data d ≡ j → get (codes "_sweepRev") j ≡ sweep_field p d.sweep_rev
node_sweep_rev p d j is json = at_name (codes "_sweepRev") _ (Node p) d j is json (before_props (codes "_sweepRev") d.props (sweep_field p d.sweep_rev) (λ x. refl))

pub node_prev : (p : Path) (d : Document) (j : Data) → d.id ≡ Node p → document_data d ≡ j → get (codes "_prev") j ≡ unless_empty (listed_data p) d.prev
node_prev p d j is json = at_name (codes "_prev") _ (Node p) d j is json (before_props (codes "_prev") d.props (unless_empty (listed_data p) d.prev) (λ x. refl))

pub prev_commit_root : (n : ℕ) (p : Path) (d : Document) (j : Data) → d.id ≡ Prev n p → document_data d ≡ j → get (codes "_commitRoot") j ≡ by_revision number_data d.commit_root
prev_commit_root n p d j is json = at_name (codes "_commitRoot") _ (Prev n p) d j is json (before_props (codes "_commitRoot") d.props (by_revision number_data d.commit_root) (λ x. refl))

pub settings_sessions : (d : Document) (j : Data) → d.id ≡ Settings → document_data d ≡ j → get (codes "_sessions") j ≡ Some (number_data d.sessions)
settings_sessions d j is json = at_name (codes "_sessions") _ Settings d j is json refl

pub settings_checkpoints : (d : Document) (j : Data) → d.id ≡ Settings → document_data d ≡ j → get (codes "checkpoints") j ≡ Some (map_data (λ t. t) pin_data d.checkpoints)
settings_checkpoints d j is json = at_name (codes "checkpoints") _ Settings d j is json refl

pub settings_readers : (d : Document) (j : Data) → d.id ≡ Settings → document_data d ≡ j → get (codes "readers") j ≡ Some (map_data decimal pin_data d.readers)
settings_readers d j is json = at_name (codes "readers") _ Settings d j is json refl

-- each document has its id and its number
id_among : (i : DocId) (d : Document) → found (codes "_id") (fields_with i d) None ≡ Some (string (id_text d.id))
id_among (Node p) d = others_found (codes "_id") property_field (λ x. refl) d.props (Some (string (id_text d.id)))
id_among (Prev n p) d = others_found (codes "_id") property_field (λ x. refl) d.props (Some (string (id_text d.id)))
id_among Settings d = refl

number_among : (i : DocId) (d : Document) → found (codes "_modCount") (fields_with i d) None ≡ Some (number_data d.mod_count)
number_among (Node p) d = others_found (codes "_modCount") property_field (λ x. refl) d.props (Some (number_data d.mod_count))
number_among (Prev n p) d = others_found (codes "_modCount") property_field (λ x. refl) d.props (Some (number_data d.mod_count))
number_among Settings d = refl

pub id_found : (d : Document) (j : Data) → document_data d ≡ j → get (codes "_id") j ≡ Some (string (id_text d.id))
id_found d j json = at_name (codes "_id") _ d.id d j refl json (id_among d.id d)

pub number_found : (d : Document) (j : Data) → document_data d ≡ j → get (codes "_modCount") j ≡ Some (number_data d.mod_count)
number_found d j json = at_name (codes "_modCount") _ d.id d j refl json (number_among d.id d)
