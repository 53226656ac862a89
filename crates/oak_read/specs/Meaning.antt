-- What documents mean: the entries that count, and the node at a path.
use Rattle.std.specs.Prelude.{Bool, false, cond, not, ◌&&◌, ◌||◌, List, [], ◌∷◌, take, Option, None, Some, is_some}
use Rattle.std.specs.Option.{option_map, option_map_or, option_and_then, option_flatten}
use Rattle.std.specs.Map.{keys_of, lookup}
use Rattle.std.specs.BTreeMap.{insert_entry, is_at}
use Rattle.std.specs.List.{filter, filter_map, flat_map, fold}
use Rattle.jr_path.specs.Ids.{id_cmp}
use Rattle.jr_path.specs.Names.{name_cmp, last_name}
use Rattle.jr_path.specs.declared.name.Name.{Name}
use Rattle.jr_path.specs.declared.path.Path.{Path}
use Rattle.jr_path.specs.declared.path.DocId.{DocId}
use Rattle.jr_path.specs.declared.path.DocId.TheVariants as id
use Rattle.jr_value.specs.declared.value.Property.{Property}
use Rattle.jr_tree.specs.declared.tree.Node.{Node}
use Rattle.jr_tree.specs.Trees.{born_of, is_child_of}
use Rattle.jr_rev.specs.declared.revision.Revision.{Revision}
use Rattle.jr_rev.specs.declared.vector.RevVec.{RevVec}
use Rattle.jr_rev.specs.Revisions.{is_before}
use Rattle.jr_rev.specs.Vectors.{sees}
use Rattle.oak_doc.specs.declared.document.Document.{Document}
use Rattle.oak_doc.specs.Updates.{of_revision, values_of_property}

-- the documents, by their ids
abbrev pub Documents : Type 0
Documents = DocId → Option Document

-- the documents of a table by their ids
abbrev pub documents_in : List (DocId × Document) → Documents
documents_in table id = lookup (is_at (id_cmp id)) table

-- the path of the node whose document it is
abbrev pub path_of : DocId → Path
path_of (id.Node p) = p
path_of (id.Prev n p) = p
path_of id.Settings = []

-- of a previous document the document of its node, else the document itself
abbrev pub main_of : DocId → DocId
main_of (id.Prev n p) = id.Node p
main_of (id.Node p) = id.Node p
main_of id.Settings = id.Settings

-- the commit root of a revision in a document: the ancestor of the depth noted there, or the document of its node
abbrev pub commit_root_of : Document → Revision → DocId
commit_root_of d r = option_map_or (λ depth. id.Node (take depth (path_of d.id))) (of_revision d.commit_root r) (main_of d.id)

-- the sweep vector sees the revision, or its commit root has it
abbrev pub is_committed : Documents → RevVec → Document → Revision → Bool
is_committed ds t d r = sees t r || option_map_or (λ root. is_some (of_revision root.revisions r)) (ds (commit_root_of d r)) false

-- the later of an entry and a best one; at the same revision the entry
abbrev pub later_of : {X : Type 0} → Revision × X → Option (Revision × X) → Revision × X
later_of e None = e
later_of e (Some f) = cond (is_before e.0 f.0) f e

-- the entry of the greatest revision, the first where several have it
abbrev pub latest : {X : Type 0} → List (Revision × X) → Option (Revision × X)
latest [] = None
latest (e ∷ es) = Some (later_of e (latest es))

module _ (ds : Documents) (t v : RevVec) where
  -- the entries of a document that are committed and that v sees
  abbrev pub counting : {X : Type 0} → (Document → List (Revision × X)) → Document → List (Revision × X)
  counting field d = filter (λ e. sees v e.0 && is_committed ds t d e.0) (field d)

  -- the entry that counts for an item, over a document and its previous documents
  abbrev pub entry_of : {X : Type 0} → (Document → List (Revision × X)) → List Document → Option (Revision × X)
  entry_of field all = latest (flat_map (counting field) all)

  -- its value
  abbrev pub value_of : {X : Type 0} → (Document → List (Revision × X)) → List Document → Option X
  value_of field all = option_map (λ e. e.1) (entry_of field all)

  -- the revision of the `_deleted` that counts
  abbrev pub added_by : List Document → Option Revision
  added_by all = option_map (λ e. e.0) (entry_of (λ d. d.deleted) all)

  -- the document of a path and the previous documents that it lists and that are there
  abbrev pub documents_at : Path → Document → List Document
  documents_at p d = d ∷ filter_map (λ e. ds (id.Prev e.number p)) d.prev

  -- the properties that have a value
  abbrev pub properties_in : List Document → List (Name × Property)
  properties_in all = fold (λ ps n. option_map_or (insert_entry name_cmp ps n) (option_flatten (value_of (λ d. values_of_property d.props n) all)) ps) [] (flat_map (λ d. keys_of d.props) all)

  -- the `_deleted` that counts is false
  abbrev pub is_undeleted : List Document → Bool
  is_undeleted all = option_map_or not (value_of (λ d. d.deleted) all) false

  -- the properties that have a value, and the revision of the `_deleted` that counts, which added the node
  abbrev pub node_told : List Document → Node
  node_told all = record { props = properties_in all; born = added_by all }

  -- the node at a path, where its document and the previous ones say that it is there
  abbrev pub found_node : Path → Option Node
  found_node p = option_and_then (λ d. let all = documents_at p d in cond (is_undeleted all) (Some (node_told all)) None) (ds (id.Node p))

  -- the last name of the path of a node's document, with the revision that added it, where the node is found and is a child of p
  abbrev pub child_found : Path → DocId → Option (Name × Option Revision)
  child_found p (id.Node q) = cond (is_child_of p q && is_some (found_node q)) (option_map (λ n. (n, born_of (found_node q))) (last_name q)) None
  child_found p _ = None

  -- the last names of the children of p that are found among the nodes of these ids, each with the revision that added it
  abbrev pub found_children : List DocId → Path → List (Name × Option Revision)
  found_children ids p = filter_map (child_found p) ids
