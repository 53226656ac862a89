-- Sets of ids, as code gathers them.
use Rattle.std.specs.Prelude.{◌≡◌, Bool, List, is_some, ◌⊎◌, IsTrue}
use Rattle.std.specs.Map.{lookup}
use Rattle.std.specs.BTreeMap.{is_at}
use Rattle.jr_path.specs.Ids.{id_cmp}
use Rattle.jr_path.specs.Names.{is_under}
use Rattle.jr_path.specs.declared.path.Path.{Path}
use Rattle.jr_path.specs.declared.path.DocId.{DocId}
use Rattle.jr_path.specs.declared.path.DocId.TheVariants as id
use Rattle.oak_sync.specs.Upward.{is_upward}

-- a set of ids, in store order
abbrev pub IdSet : Type 0
IdSet = List (DocId × Unit {0})

-- the document id is in the set
abbrev pub has_id : IdSet → DocId → Bool
has_id ids x = is_some (lookup (is_at (id_cmp x)) ids)

-- the ids of the documents of a path and of all that is above it are added, and no others
pub record Adds (path : Path) (before after : IdSet) : Type 0 where
  pub kept : (x : DocId) → IsTrue (has_id before x) → IsTrue (has_id after x)
  pub put : (p : Path) → IsTrue (is_under path p) → IsTrue (has_id after (id.Node p))
  pub only : (x : DocId) → IsTrue (has_id after x) → IsTrue (has_id before x) ⊎ ((p : Path) × (x ≡ id.Node p) × IsTrue (is_under path p))

-- the ids of the documents of the paths and of all that is above them
pub record HasUpward (paths : List Path) (ids : IdSet) : Type 0 where
  pub there : (p : Path) → IsTrue (is_upward paths p) → IsTrue (has_id ids (id.Node p))
  pub only : (x : DocId) → IsTrue (has_id ids x) → (p : Path) × (x ≡ id.Node p) × IsTrue (is_upward paths p)
