-- What stands for an item at a path: entries of the node's document, and behind them those of the
-- previous documents that it lists.
use Rattle.std.specs.Prelude.{◌⊎◌, Bool, cond, not, List, [], Option, None, Some, is_some, IsTrue}
use Rattle.std.specs.Option.{option_map, option_map_or}
use Rattle.std.specs.List.{flat_map}
use Rattle.jr_path.specs.declared.name.Name.{Name}
use Rattle.jr_path.specs.declared.path.Path.{Path}
use Rattle.jr_path.specs.declared.path.DocId.TheVariants as id
use Rattle.jr_value.specs.declared.value.Property.{Property}
use Rattle.jr_rev.specs.declared.revision.Revision.{Revision}
use Rattle.jr_tree.specs.declared.edit.Write.{Write}
use Rattle.jr_tree.specs.Items.{here_of}
use Rattle.oak_doc.specs.declared.document.Document.{Document}
use Rattle.oak_doc.specs.Updates.{of_revision, values_of_property}
use Rattle.oak_read.specs.Meaning.{Documents}
use Rattle.oak_read.specs.Shown.{with_previous}

-- the documents at a path: that of the node, and the previous documents that it lists and that are
-- there
abbrev pub all_at : Documents → Path → List Document
all_at ds p = option_map_or (with_previous ds p) (ds (id.Node p)) []

-- whether a write of the node at p says that it is gone
abbrev pub gone_of : Path → Write → Option Bool
gone_of p w = option_map not (here_of p w)

-- the entries of `_deleted`, and of a property, over some documents
abbrev pub gone_in : List Document → List (Revision × Bool)
gone_in all = flat_map (λ d. d.deleted) all

-- the entries of a property in some documents
abbrev pub values_in : Name → List Document → List (Revision × Option Property)
values_in n all = flat_map (λ d. values_of_property d.props n) all

-- what an entry of `_deleted` shows: the revision that added the node, where it is there
abbrev pub shows_node : Revision × Bool → Option Revision
shows_node e = cond e.1 None (Some e.0)

-- what an entry of a property shows: its value, where it has one
abbrev pub shows_value : Revision × Option Property → Option Property
shows_value e = e.1

-- a document has an entry of r: of its node, or of a property
abbrev pub HasEntryOf : Revision → Document → Type 0
HasEntryOf r d =
    IsTrue (is_some (of_revision d.deleted r))
    ⊎ ((n : Name) × IsTrue (is_some (of_revision (values_of_property d.props n) r)))
