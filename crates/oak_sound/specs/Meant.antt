-- What documents at rest mean as a whole: how far they are committed, and the tree that they show
-- there.
use Rattle.std.specs.Prelude.{ℕ, max, List, [], ◌++◌, fold}
use Rattle.std.specs.BTreeMap.{insert_entry}
use Rattle.std.specs.List.{filter, flat_map}
use Rattle.std.specs.Map.{keys_of}
use Rattle.std.specs.Option.{option_map_or}
use Rattle.jr_path.specs.Names.{path_cmp}
use Rattle.jr_path.specs.declared.path.DocId.{DocId}
use Rattle.jr_path.specs.declared.path.DocId.TheVariants.{Node}
use Rattle.jr_rev.specs.declared.revision.Revision.{Revision}
use Rattle.jr_rev.specs.declared.vector.RevVec.{RevVec}
use Rattle.jr_rev.specs.declared.vector.Pin.{Pin}
use Rattle.jr_rev.specs.Vectors.{no_entries, raised, start}
use Rattle.jr_tree.specs.Trees.{Nodes}
use Rattle.oak_doc.specs.declared.document.Document.{Document}
use Rattle.oak_read.specs.Meaning.{documents_in, found_node, is_committed}

-- documents in store order, by their ids
abbrev pub ById : Type 0
ById = List (DocId × Document)

-- the sweep vector of the root's document
abbrev pub swept : ById → RevVec
swept ds = option_map_or (λ d. d.sweep_rev) (documents_in ds (Node [])) no_entries

-- the revisions of the entries of a document: of `_deleted` and of the values of its properties
abbrev pub entry_revisions : Document → List Revision
entry_revisions d = keys_of d.deleted ++ flat_map (λ p. keys_of p.1) d.props

-- those that are committed as they stand in the document
abbrev pub committed_entries_in : ById → RevVec → Document → List Revision
committed_entries_in ds t d = filter (is_committed (documents_in ds) t d) (entry_revisions d)

-- the committed entries of all documents
abbrev pub committed_entries : ById → RevVec → List Revision
committed_entries ds t = flat_map (λ e. committed_entries_in ds t e.1) ds

-- for each of so many cluster nodes the greatest revision of a committed entry, or its start
abbrev pub opened_at : ℕ → ById → RevVec
opened_at clusters ds = fold raised (start clusters) (committed_entries ds (swept ds))

-- the pair of vectors at which documents are opened: how far they are committed and swept
abbrev pub opened_pin : ℕ → ById → Pin
opened_pin clusters ds = record { base = opened_at clusters ds; sweep = swept ds }

-- the nodes, and what documents show at the path of one more
abbrev pub with_shown : ById → RevVec → RevVec → Nodes → DocId → Nodes
with_shown ds t v nodes (Node p) =
    option_map_or (insert_entry path_cmp nodes p) (found_node (documents_in ds) t v p) nodes
with_shown ds t v nodes id = nodes

-- the nodes that documents show, in path order
abbrev pub shown_tree : ById → RevVec → RevVec → Nodes
shown_tree ds t v = fold (with_shown ds t v) [] (keys_of ds)

-- the tree that documents open with
abbrev pub opened_tree : ℕ → ById → Nodes
opened_tree clusters ds = shown_tree ds (swept ds) (opened_at clusters ds)

-- the greatest number of a document
abbrev pub greatest_number : ById → ℕ
greatest_number ds = fold (λ n e. max n e.1.mod_count) 0 ds
