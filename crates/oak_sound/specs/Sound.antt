-- Which documents a repository can be opened from: five rules, each of single documents.
use Rattle.std.specs.Prelude.{◌≡◌, ℕ, ◌^◌, Bool, true, false, cond, not, ◌&&◌, ◌||◌, ◌==◌, nat_le}
use Rattle.std.specs.Prelude.{nat_lt, List, [], ◌∷◌, ◌++◌, length, Option, None, Some, is_some}
use Rattle.std.specs.List.{filter, filter_map, flat_map, list_all, list_any}
use Rattle.std.specs.Map.{keys_of}
use Rattle.std.specs.Option.{option_map, option_map_or, option_or}
use Rattle.jr_path.specs.declared.path.Path.{Path}
use Rattle.jr_path.specs.declared.path.DocId.{DocId}
use Rattle.jr_path.specs.declared.path.DocId.TheVariants.{Node, Prev, Settings}
use Rattle.jr_items.specs.Names.{system, version_storage}
use Rattle.jr_value.specs.declared.value.Property.{Property}
use Rattle.jr_rev.specs.declared.revision.Revision.{Revision}
use Rattle.jr_rev.specs.declared.vector.RevVec.{RevVec}
use Rattle.jr_rev.specs.declared.vector.Pin.{Pin}
use Rattle.jr_rev.specs.Revisions.{is_at_most, is_before}
use Rattle.jr_rev.specs.Vectors.{entry, is_below}
use Rattle.jr_tree.specs.Trees.{Nodes, node_at, has_parent}
use Rattle.oak_doc.specs.declared.document.Document.{Document}
use Rattle.oak_doc.specs.declared.document.PrevEntry.{PrevEntry}
use Rattle.oak_doc.specs.Updates.{values_of_property}
use Rattle.oak_machine.specs.History.{has_entry}
use Rattle.oak_read.specs.Meaning.{documents_in, is_committed, latest, path_of}
use Rattle.oak_sound.specs.Meant.{ById, entry_revisions, opened_tree, swept}

-- the cluster nodes that there may be
abbrev pub eight : List ℕ
eight = 1 ∷ 2 ∷ 3 ∷ 4 ∷ 5 ∷ 6 ∷ 7 ∷ 8 ∷ []

-- ---- 1: the vectors of the root

-- the vector has an entry for each of so many cluster nodes, and no other
abbrev pub is_of_nodes : ℕ → RevVec → Bool
is_of_nodes clusters v = list_all (λ k. has_entry (nat_le k clusters) (entry v k)) eight

-- both vectors of the root have, and no more is swept than is published
abbrev pub keeps_vectors : ℕ → DocId → Document → Bool
keeps_vectors clusters (Node []) d =
    is_of_nodes clusters d.last_rev && is_of_nodes clusters d.sweep_rev
    && is_below d.sweep_rev d.last_rev
keeps_vectors clusters id d = true

-- ---- 2: revisions

-- one that a repository of so many cluster nodes draws, at an earlier time than 2^62
abbrev pub is_drawable : ℕ → Revision → Bool
is_drawable clusters r =
    r.counter == 0 && nat_lt r.time (2 ^ 62) && nat_le 1 r.cluster && nat_le r.cluster clusters

-- the entries of a vector
abbrev pub of_vector : RevVec → List Revision
of_vector v = filter_map (entry v) eight

-- the entries of both vectors
abbrev pub of_pin : Pin → List Revision
of_pin p = of_vector p.base ++ of_vector p.sweep

-- what a document keeps by revision
abbrev pub keyed_revisions : Document → List Revision
keyed_revisions d =
    keys_of d.deleted ++ keys_of d.commit_root ++ keys_of d.revisions ++ keys_of d.touched
    ++ keys_of d.guard ++ flat_map (λ p. keys_of p.1) d.props

-- the revisions that it keeps otherwise
abbrev pub other_revisions : Document → List Revision
other_revisions d =
    flat_map (λ e. e.0 ∷ e.1.0 ∷ []) d.collisions
    ++ flat_map (λ e. e.high ∷ e.low ∷ []) d.prev
    ++ of_vector d.last_rev ++ of_vector d.sweep_rev
    ++ flat_map (λ e. of_pin e.1) d.checkpoints ++ flat_map (λ e. of_pin e.1) d.readers

-- each revision in a document is drawable
abbrev pub keeps_revisions : ℕ → Document → Bool
keeps_revisions clusters d =
    list_all (is_drawable clusters) (keyed_revisions d)
    && list_all (is_drawable clusters) (other_revisions d)

-- ---- 3: numbers

-- a number below 2^63, which no document before has, and at most 2^24 - 64 sessions
abbrev pub keeps_numbers : ById → Document → Bool
keeps_numbers before d =
    nat_lt d.mod_count (2 ^ 63)
    && not (list_any (λ e. e.1.mod_count == d.mod_count) before)
    && nat_le d.sessions 16777152

-- ---- 4: commit roots and previous documents

-- each commit root stands above the document's node
abbrev pub has_roots_above : DocId → Document → Bool
has_roots_above id d = list_all (λ e. nat_lt e.1 (length (path_of id))) d.commit_root

-- each entry of a previous document is between the revisions that it is listed with
abbrev pub is_in_listed_range : PrevEntry → Document → Bool
is_in_listed_range e x =
    list_all (λ r. is_at_most e.low r && is_at_most r e.high) (entry_revisions x)

-- wherever that number is listed
abbrev pub is_as_listed : ℕ → Document → Document → Bool
is_as_listed n x d = list_all (λ e. not (e.number == n) || is_in_listed_range e x) d.prev

module _ (ds : ById) (t : RevVec) where
  -- the latest entry of an item in a document that is committed there
  abbrev pub latest_committed : {X : Type 0} → Document → List (Revision × X)
      → Option (Revision × X)
  latest_committed d es = latest (filter (λ e. is_committed (documents_in ds) t d e.0) es)

  -- each of the second entries is before the latest committed one of the first
  abbrev pub are_behind : {X Y : Type 0} → Document → List (Revision × X) → List (Revision × Y)
      → Bool
  are_behind d es older =
      list_all (λ r. option_map_or (λ e. is_before r e.0) (latest_committed d es) false)
      (keys_of older)

  -- for each entry of a previous document there is a later committed one of its item
  abbrev pub has_later : Document → Document → Bool
  has_later d x =
      are_behind d d.deleted x.deleted
      && list_all (λ p. are_behind d (values_of_property d.props p.0) p.1) x.props

  -- a listed number is one from before, and what is there of it has later entries
  abbrev pub is_well_listed : Path → Document → PrevEntry → Bool
  is_well_listed p d e =
      nat_lt e.number d.mod_count
      && option_map_or (has_later d) (documents_in ds (Prev e.number p)) true

  -- what a node's document lists is well listed; a previous document is as it is listed
  abbrev pub keeps_previous : DocId → Document → Bool
  keeps_previous (Node p) d = list_all (is_well_listed p d) d.prev
  keeps_previous (Prev n p) d =
      option_map_or (is_as_listed n d) (documents_in ds (Node p)) true
  keeps_previous Settings d = true

  -- a document's commit roots stand above it, and its previous documents are as listed
  abbrev pub keeps_roots : DocId → Document → Bool
  keeps_roots id d = has_roots_above id d && keeps_previous id d

-- ---- 5: the tree

-- the repository's own nodes are there
abbrev pub has_system : Nodes → Bool
has_system nodes =
    is_some (node_at nodes []) && is_some (node_at nodes system)
    && is_some (node_at nodes version_storage)

-- an entry is there, and it is a value
abbrev pub is_value : Option (Revision × Option Property) → Bool
is_value e = option_map_or (λ e. is_some e.1) e false

-- no property has a value as its latest committed entry
abbrev pub has_no_values : ById → RevVec → Document → Bool
has_no_values ds t d = list_all (λ p. not (is_value (latest_committed ds t d p.1))) d.props

module _ (ds : ById) (t : RevVec) (nodes : Nodes) where
  -- a node that is there has a node above it; one that isn't has no property with a value
  abbrev pub keeps_node : Path → Document → Bool
  keeps_node p d = cond (is_some (node_at nodes p)) (has_parent nodes p) (has_no_values ds t d)

  -- the root's document answers for the repository's own nodes too
  abbrev pub keeps_tree : DocId → Document → Bool
  keeps_tree (Node []) d = has_system nodes && keeps_node [] d
  keeps_tree (Node (n ∷ p)) d = keeps_node (n ∷ p) d
  keeps_tree id d = true

-- ---- the rules in order

-- what is asked of a document, after the documents before it
abbrev pub DocumentRule : Type 0
DocumentRule = ById → DocId × Document → Bool

-- the rules, each with its number
abbrev pub rules : ℕ → ById → List (ℕ × DocumentRule)
rules clusters ds =
    (1, λ before e. keeps_vectors clusters e.0 e.1)
    ∷ (2, λ before e. keeps_revisions clusters e.1)
    ∷ (3, λ before e. keeps_numbers before e.1)
    ∷ (4, λ before e. keeps_roots ds (swept ds) e.0 e.1)
    ∷ (5, λ before e. keeps_tree ds (swept ds) (opened_tree clusters ds) e.0 e.1)
    ∷ []

-- the first document that doesn't keep a rule, counted from 0
abbrev pub first_breaking : DocumentRule → ById → ById → Option ℕ
first_breaking keeps before [] = None
first_breaking keeps before (e ∷ es) =
    cond (keeps before e) (first_breaking keeps (before ++ e ∷ []) es) (Some (length before))

-- the first of some rules that is broken, with the first document that breaks it
abbrev pub first_broken_of : List (ℕ × DocumentRule) → ById → Option (ℕ × ℕ)
first_broken_of [] ds = None
first_broken_of (r ∷ rs) ds =
    option_or (option_map (λ i. (r.0, i)) (first_breaking r.1 [] ds)) (first_broken_of rs ds)

-- the first of the five rules that is broken
abbrev pub first_broken : ℕ → ById → Option (ℕ × ℕ)
first_broken clusters ds = first_broken_of (rules clusters ds) ds

-- documents from which a repository can be opened
abbrev pub AreSoundDocuments : ℕ → ById → Type 0
AreSoundDocuments clusters ds = first_broken clusters ds ≡ None
