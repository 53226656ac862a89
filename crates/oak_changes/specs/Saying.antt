-- What documents say of the commits between two vectors.
use Rattle.std.specs.Prelude.{Bool, false, cond, not, ◌||◌, List, [], ◌∷◌, ◌++◌, map, None, Some, is_some, unwrap_or}
use Rattle.std.specs.Option.{option_map_or}
use Rattle.std.specs.Map.{keys_of, lookup, values_of}
use Rattle.std.specs.BTreeMap.{insert_entry, is_at}
use Rattle.std.specs.List.{filter, flat_map, fold}
use Rattle.jr_path.specs.declared.name.Name.{Name}
use Rattle.jr_path.specs.declared.path.Path.{Path}
use Rattle.jr_path.specs.declared.path.DocId.{DocId}
use Rattle.jr_path.specs.declared.path.DocId.TheVariants as id
use Rattle.jr_path.specs.declared.path.Item.{Item}
use Rattle.jr_rev.specs.declared.revision.Revision.{Revision}
use Rattle.jr_rev.specs.declared.vector.RevVec.{RevVec}
use Rattle.jr_rev.specs.Revisions.{is_before, revision_cmp}
use Rattle.jr_rev.specs.Vectors.{sees}
use Rattle.jr_tree.specs.declared.shared.ItemChange.{ItemChange}
use Rattle.jr_tree.specs.declared.shared.CommitChanges.{CommitChanges}
use Rattle.jr_tree.specs.Edits.{item_cmp}
use Rattle.oak_doc.specs.declared.document.Document.{Document}
use Rattle.oak_doc.specs.Updates.{of_revision, values_of_property}
use Rattle.oak_read.specs.Meaning.{Documents, counting, latest}
use Rattle.oak_read.specs.Shown.{with_previous}
use Rattle.oak_changes.specs.declared.said.Said.{Said}

-- whether an item is there, at each of some revisions
abbrev pub States : Type 0
States = List (Revision × Bool)

-- of the entries of an item that count over some documents, whether each leaves the item there
abbrev pub states_of : Documents → RevVec → RevVec → {X : Type 0} → (Document → List (Revision × X)) → (X → Bool) → List Document → States
states_of ds t v field there all = map (λ e. (e.0, there e.1)) (flat_map (counting ds t v field) all)

-- the states before a revision: those that `from` sees, and those below it
abbrev pub states_before : RevVec → Revision → States → States
states_before from r states = filter (λ e. sees from e.0 || is_before e.0 r) states

-- whether the item is there by the latest of its states before a revision, and by that of the revision
abbrev pub was_there : RevVec → Revision → States → Bool
was_there from r states = option_map_or (λ e. e.1) (latest (states_before from r states)) false

-- whether the commit of a revision leaves the item there, by that revision's state
abbrev pub is_there : Revision → States → Bool
is_there r states = unwrap_or (of_revision states r) false

-- the change of an item by the commit of a revision
abbrev pub said_of : RevVec → Item → States → Revision → Said
said_of from item states r = record { revision = r; change = record { item = item; before = was_there from r states; after = is_there r states } }

-- the changes of an item by the commits that `from` doesn't see
abbrev pub item_said : RevVec → Item → States → List Said
item_said from item states = map (said_of from item states) (filter (λ r. not (sees from r)) (keys_of states))

-- that of one commit, where `from` doesn't see it
abbrev pub new_said : RevVec → Item → States → Revision → List Said
new_said from item states r = cond (sees from r) [] (said_of from item states r ∷ [])

module _ (ds : Documents) (t from to : RevVec) where
  -- the changes of a node, and of a property of it, over the documents of the node
  abbrev pub node_said : Path → List Document → List Said
  node_said p all = item_said from (record { path = p; name = None }) (states_of ds t to (λ d. d.deleted) not all)

  -- the changes of one property of a node, over the documents of the node
  abbrev pub property_said : Path → List Document → Name → List Said
  property_said p all n = item_said from (record { path = p; name = Some n }) (states_of ds t to (λ d. values_of_property d.props n) is_some all)

  -- the changes of the node at a path and of its properties, over its documents
  abbrev pub path_said : Path → List Document → List Said
  path_said p all = node_said p all ++ flat_map (property_said p all) (flat_map (λ d. keys_of d.props) all)

  -- the changes that the document of an id and those that it lists tell, where it is a node's and is there
  abbrev pub document_said : DocId → List Said
  document_said (id.Node p) = option_map_or (λ d. path_said p (with_previous ds p d)) (ds (id.Node p)) []
  document_said _ = []

-- the changes of a revision so far, by their items
abbrev pub Grouped : Type 0
Grouped = List (Revision × List (Item × ItemChange))

-- the changes of a revision so far, by their items, or none
abbrev pub changes_at : Grouped → Revision → List (Item × ItemChange)
changes_at groups r = unwrap_or (lookup (is_at (revision_cmp r)) groups) []

-- with a change more, in the place of an earlier one of its item
abbrev pub with_said : Grouped → Said → Grouped
with_said groups s = insert_entry revision_cmp groups s.revision (insert_entry item_cmp (changes_at groups s.revision) s.change.item s.change)

-- the commits in ascending order, each with its changes in the order of their items
abbrev pub grouped : List Said → List CommitChanges
grouped said = map (λ e. record { revision = e.0; changes = values_of e.1 }) (fold with_said [] said)

-- what documents of these ids say of the commits that `to` sees and `from` doesn't
abbrev pub changes_said : Documents → RevVec → RevVec → RevVec → List DocId → List CommitChanges
changes_said ds t from to ids = grouped (flat_map (document_said ds t from to) ids)
