-- What the line of a document tells of it.
use Rattle.std.specs.Prelude.{◌≡◌, ℕ, Bool, true, List, [], ◌∷◌, map, filter, Option, None}
use Rattle.std.specs.List.{list_any}
use Rattle.jr_path.specs.Names.{item_path}
use Rattle.jr_path.specs.declared.name.Name.{Name}
use Rattle.jr_path.specs.declared.path.DocId.{DocId}
use Rattle.jr_path.specs.declared.path.DocId.TheVariants.{Node, Prev, Settings}
use Rattle.jr_path.specs.declared.path.Item.{Item}
use Rattle.jr_path.specs.declared.path.Path.{Path}
use Rattle.jr_rev.specs.Vectors.{Entries, no_entries}
use Rattle.jr_rev.specs.declared.revision.Revision.{Revision}
use Rattle.jr_value.specs.declared.value.Property.{Property}
use Rattle.oak_doc.specs.Updates.{document_of}
use Rattle.oak_doc.specs.declared.document.Document.{Document}

-- the node at a path
abbrev pub node_item : Path → Item
node_item p = record { path = p; name = None }

-- a collision that names the node at the path of its item
abbrev pub as_node : Revision × (Revision × Item) → Revision × (Revision × Item)
as_node e = (e.0, (e.1.0, node_item (item_path e.1.1)))

-- a property has an entry
abbrev pub has_entries : Name × List (Revision × Option Property) → Bool
has_entries p = list_any (λ e. true) p.1

-- a vector of the document of the node at a path, where the node is the root
abbrev pub of_root : Path → Entries → Entries
of_root [] v = v
of_root (n ∷ p) v = no_entries

-- a document with an id and a number alone
abbrev pub numbered : DocId → ℕ → Document
numbered id n = record (document_of None id) { mod_count = n }

-- a document as a node's, without the fields of the settings, and a sweep vector off the root
abbrev pub printed_of_node : Path → Document → Document
printed_of_node p d = record d {
  collisions = map as_node d.collisions;
  sweep_rev = of_root p d.sweep_rev;
  props = filter has_entries d.props;
  sessions = 0;
  checkpoints = [];
  readers = [];
}

-- what is printed of a previous document
abbrev pub printed_of_prev : Document → Document
printed_of_prev d = record (numbered d.id d.mod_count) {
  commit_root = d.commit_root;
  props = filter has_entries d.props;
}

-- what is printed of the settings
abbrev pub printed_of_settings : Document → Document
printed_of_settings d = record (numbered d.id d.mod_count) {
  sessions = d.sessions;
  checkpoints = d.checkpoints;
  readers = d.readers;
}

-- what is printed of a document of that id
abbrev pub printed_at : DocId → Document → Document
printed_at (Node p) d = printed_of_node p d
printed_at (Prev n p) d = printed_of_prev d
printed_at Settings d = printed_of_settings d

-- no entry of `_deleted` is in a previous document: a split moves none, and none is printed
abbrev pub IsPlain : Document → Type 0
IsPlain d = (n : ℕ) (p : Path) → d.id ≡ Prev n p → d.deleted ≡ []

-- the document with what its line tells: the fields of its kind, the properties that have an entry,
-- and for the item of a collision the node at its path
abbrev pub as_printed : Document → Document
as_printed d = printed_at d.id d
