-- At which places of a list the items of each path stand.
use Rattle.std.specs.Prelude.{◌≡◌, ℕ, List, [], ◌∷◌, ◌++◌, slice_get}
use Rattle.std.specs.Option.{unwrap_or}
use Rattle.std.specs.Ordering.{eq_by_cmp}
use Rattle.std.specs.Map.{lookup}
use Rattle.std.specs.BTreeMap.{insert_entry, is_at}
use Rattle.std.specs.List.{filter, filter_map}
use Rattle.jr_path.specs.Names.{path_cmp}
use Rattle.jr_path.specs.declared.path.Path.{Path}
use Rattle.jr_path.specs.declared.path.DocId.{DocId}
use Rattle.jr_tree.specs.declared.edit.Edit.{Edit}
use Rattle.jr_tree.specs.declared.edit.Write.{Write}
use Rattle.jr_tree.specs.Edits.{item_of}
use Rattle.oak_clash.specs.declared.mark.MarkAt.{MarkAt}
use Rattle.oak_clash.specs.Clashes.{commit_root}
use Rattle.oak_commit.specs.Writing.{written_ids}

-- for each path some places of a list
abbrev pub Places : Type 0
Places = List (Path × List ℕ)

-- the places of a path
abbrev pub places_of : Places → Path → List ℕ
places_of places p = unwrap_or (lookup (is_at (path_cmp p)) places) []

-- with one more place of a path
abbrev pub with_path_place : Places → Path → ℕ → Places
with_path_place places p at = insert_entry path_cmp places p (places_of places p ++ at ∷ [])

-- the items that stand at some places of a list
abbrev pub items_at : {X : Type 0} → List X → List ℕ → List X
items_at xs places = filter_map (slice_get xs) places

-- the items of a path
abbrev pub of_path : {X : Type 0} → (X → Path) → Path → List X → List X
of_path path p xs = filter (λ x. eq_by_cmp path_cmp p (path x)) xs

-- at the places of each path stand those of some items, which are the first of a list, that are of the path
abbrev pub Finds : {X : Type 0} → (X → Path) → List X → List X → Places → Type 0
Finds path all some places = (p : Path) → items_at all (places_of places p) ≡ of_path path p some

-- the path of the node that a write is of
abbrev pub path_of_write : Write → Path
path_of_write w = (item_of w).path

-- what a commit is to do
pub record Planned : Type 0 where
  pub edit : Edit
  pub marks : List MarkAt

-- what is computed once of a commit: the ids of its documents, its commit root, and where its writes and its marks stand
pub record IsComputed (edit : Edit) (ms : List MarkAt) (ids : List DocId) (root : Path) (writes marked : Places) : Type 0 where
  pub are_ids : ids ≡ written_ids ms
  pub is_root : root ≡ commit_root ms
  pub finds_writes : Finds path_of_write edit.writes edit.writes writes
  pub finds_marks : Finds (λ m. m.path) ms ms marked
