-- Paths with all that is above them.
use Rattle.std.specs.Prelude.{Bool, ◌||◌, ◌==◌, List, length, Contains, ◌↔◌, IsTrue}
use Rattle.std.specs.List.{filter_map, list_any}
use Rattle.std.specs.List.Sorted.{IsStrictlySortedBy}
use Rattle.std.specs.declared.cmp.Ordering.{Ordering}
use Rattle.jr_path.specs.Ids.{id_cmp, node_path}
use Rattle.jr_path.specs.Names.{is_under}
use Rattle.jr_path.specs.declared.path.Path.{Path}
use Rattle.jr_path.specs.declared.path.DocId.{DocId}
use Rattle.jr_path.specs.declared.path.DocId.TheVariants as id

-- p is the root, or one of the paths or above one
abbrev pub is_upward : List Path → Path → Bool
is_upward paths p = length p == 0 || list_any (λ q. is_under q p) paths

-- descending store order of the documents
abbrev pub backward_cmp : Path → Path → Ordering
backward_cmp p q = id_cmp (id.Node q) (id.Node p)

-- the paths with all that is above them, each once, in descending store order of their documents
pub record AreUpward (paths up : List Path) : Type 0 where
  pub which : (p : Path) → Contains up p ↔ IsTrue (is_upward paths p)
  pub ordered : IsStrictlySortedBy backward_cmp up

-- of ids, the paths of those that are of nodes' documents
abbrev pub node_paths : List DocId → List Path
node_paths ids = filter_map node_path ids
