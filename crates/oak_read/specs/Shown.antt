-- Parts of what documents mean, as code reads them.
use Rattle.std.specs.Prelude.{◌&&◌, cond, false, not, List, ◌∷◌, Option, None, Some}
use Rattle.std.specs.Option.{option_map, option_map_or, option_flatten}
use Rattle.std.specs.BTreeMap.{insert_entry}
use Rattle.std.specs.List.{filter, filter_map}
use Rattle.std.specs.Borrow.{Bor}
use Rattle.jr_path.specs.Names.{name_cmp}
use Rattle.jr_path.specs.declared.name.Name.{Name}
use Rattle.jr_path.specs.declared.path.Path.{Path}
use Rattle.jr_path.specs.declared.path.DocId.TheVariants as id
use Rattle.jr_value.specs.declared.value.Property.{Property}
use Rattle.jr_tree.specs.declared.tree.Node.{Node}
use Rattle.jr_rev.specs.declared.revision.Revision.{Revision}
use Rattle.jr_rev.specs.declared.vector.RevVec.{RevVec}
use Rattle.jr_rev.specs.Vectors.{sees}
use Rattle.oak_doc.specs.declared.document.Document.{Document}
use Rattle.oak_doc.specs.Updates.{values_of_property}
use Rattle.oak_read.specs.Meaning.{Documents, added_by, is_committed, properties_in, value_of}

-- an entry whose value is lent
abbrev pub shown : {X : Type 0} → Option (Revision × Bor X) → Option (Revision × X)
shown = option_map (λ e. (e.0, e.1.now))

-- a document and the previous documents that it lists and that are there
abbrev pub with_previous : Documents → Path → Document → List Document
with_previous ds p d = d ∷ filter_map (λ e. ds (id.Prev e.number p)) d.prev

module _ (ds : Documents) (t v : RevVec) where
  -- the entries among these, which stand in the document, that count
  abbrev pub counting_among : {X : Type 0} → Document → List (Revision × X) → List (Revision × X)
  counting_among d es = filter (λ e. sees v e.0 && is_committed ds t d e.0) es

  -- the node over its documents
  abbrev pub node_over : List Document → Option Node
  node_over all = cond (option_map_or not (value_of ds t v (λ e. e.deleted) all) false) (Some (record { props = properties_in ds t v all; born = added_by ds t v all })) None

  -- the properties so far, with that of a name, where over all documents it has a value
  abbrev pub with_property : List Document → List (Name × Property) → Name → List (Name × Property)
  with_property all ps n = option_map_or (insert_entry name_cmp ps n) (option_flatten (value_of ds t v (λ d. values_of_property d.props n) all)) ps
