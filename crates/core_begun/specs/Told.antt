-- What a journal that begins with a start keeps, that documents can be read.
use Rattle.std.specs.Prelude.{◌≡◌, ℕ, Option, Some, List, IsTrue, IsFalse}
use Rattle.jr_rev.specs.declared.revision.Revision.{Revision}
use Rattle.jr_rev.specs.declared.vector.RevVec.{RevVec}
use Rattle.jr_rev.specs.Revisions.{is_before}
use Rattle.jr_rev.specs.Vectors.{sees}
use Rattle.jr_tree.specs.declared.edit.Write.{Write}
use Rattle.jr_tree.specs.Edits.{IsProper}
use Rattle.jr_tree.specs.Trees.{Nodes}
use Rattle.oak_doc.specs.Updates.{of_revision}
use Rattle.oak_machine.specs.declared.event.Draw.{Draw}
use Rattle.oak_machine.specs.declared.event.Start.{Start}
use Rattle.oak_machine.specs.History.{Begin, Past, begin_at, begin_tree}
use Rattle.oak_machine.specs.Commits.{committed_edits, draw_of, is_in_base, is_in_flight}
use Rattle.core_read.specs.Commits.{Apart, Sight}
use Rattle.core_read.specs.Told.{Covers}
use Rattle.core_keep.specs.From.{falling_from, tree_from}

-- the start of a history of so many cluster nodes: what it begins with, or what there is before any
-- commit
abbrev pub start_in : ℕ → Begin → Start
start_in clusters begin = record { tree = begin_tree begin; at = begin_at clusters begin }

-- the edit of a revision that was committed since the start
abbrev pub edit_since : Past → Revision → Option (List Write)
edit_since past r = of_revision (committed_edits past) r

-- an edit is proper on the tree of its base, which sees only earlier revisions, and with a
-- committed one all that its base sees
pub record IsReadyOn (b : Nodes) (past : Past) (r : Revision) (ws : List Write) : Type 0 where
  pub proper : IsProper (tree_from b (is_in_base past r) (falling_from past)) ws
  pub rises : (o : Revision) → IsTrue (is_in_base past r o) → IsTrue (is_before o r)
  pub closed : (o : Revision) (us : List Write) → edit_since past o ≡ Some us
      → IsTrue (is_in_base past r o) → (q : Revision) → IsTrue (is_in_base past o q)
      → IsTrue (is_in_base past r q)

-- and it is apart from each earlier committed edit that its base doesn't see
pub record IsSoundOn (b : Nodes) (past : Past) (r : Revision) (ws : List Write) : Type 0 where
  pub ready : IsReadyOn b past r ws
  pub apart : (o : Revision) (us : List Write) → edit_since past o ≡ Some us
      → IsTrue (is_before o r) → IsFalse (is_in_base past r o) → Apart ws us

-- a draw: its edit is ready, its marks cover it, it is later than all of the start, and its base
-- sees all of the start and nothing that is in flight
pub record IsGoodSince (start : Start) (past : Past) (r : Revision) (d : Draw) : Type 0 where
  pub ready : IsReadyOn start.tree past r d.edit.writes
  pub covers : Covers d.marks d.edit.writes
  pub begins : (o : Revision) → IsTrue (sees start.at o) → IsTrue (is_in_base past r o)
  pub settled : (o : Revision) → IsTrue (is_in_flight past o) → IsFalse (is_in_base past r o)
  pub after : (o : Revision) → IsTrue (sees start.at o) → IsTrue (is_before o r)

-- the committed edits are sound, the draws are good, and the edit of a committed revision is that
-- of its draw
pub record IsToldSince (start : Start) (past : Past) : Type 0 where
  pub sound : (r : Revision) (ws : List Write) → edit_since past r ≡ Some ws
      → IsSoundOn start.tree past r ws
  pub draws : (r : Revision) (d : Draw) → draw_of past r ≡ Some d → IsGoodSince start past r d
  pub edits : (r : Revision) (ws : List Write) → edit_since past r ≡ Some ws → (d : Draw)
      × (draw_of past r ≡ Some d) × (d.edit.writes ≡ ws)

-- with a committed revision a sight has all that its base sees
abbrev pub IsClosedSince : Past → Sight → Type 0
IsClosedSince past s =
    (o : Revision) (us : List Write) → edit_since past o ≡ Some us → IsTrue (s o) → (q : Revision)
    → IsTrue (is_in_base past o q) → IsTrue (s q)

-- a vector in use: settled, closed, and it sees all of the start
pub record IsInUseSince (start : Start) (past : Past) (v : RevVec) : Type 0 where
  pub settled : (o : Revision) → IsTrue (is_in_flight past o) → IsFalse (sees v o)
  pub closed : IsClosedSince past (sees v)
  pub begun : (o : Revision) → IsTrue (sees start.at o) → IsTrue (sees v o)
