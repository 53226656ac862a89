-- Documents that keep what a journal tells that begins with a start, however far collections went.
use Rattle.std.specs.Prelude.{◌≡◌, ◌||◌, ◌<◌, None, Some, List, [], IsTrue, IsFalse}
use Rattle.std.specs.List.{filter}
use Rattle.std.specs.Option.{option_and_then}
use Rattle.jr_path.specs.declared.name.Name.{Name}
use Rattle.jr_path.specs.declared.path.Path.{Path}
use Rattle.jr_path.specs.declared.path.DocId.TheVariants as id
use Rattle.jr_rev.specs.declared.revision.Revision.{Revision}
use Rattle.jr_rev.specs.declared.vector.RevVec.{RevVec}
use Rattle.jr_rev.specs.Revisions.{is_before}
use Rattle.jr_rev.specs.Vectors.{sees}
use Rattle.jr_tree.specs.declared.edit.Write.{Write}
use Rattle.oak_clash.specs.Clashes.{commit_root}
use Rattle.jr_tree.specs.Trees.{born_at, property_at}
use Rattle.oak_doc.specs.declared.document.Document.{Document}
use Rattle.oak_doc.specs.declared.document.PrevEntry.{PrevEntry}
use Rattle.oak_doc.specs.Updates.{of_revision}
use Rattle.oak_read.specs.Meaning.{Documents, latest}
use Rattle.oak_machine.specs.declared.event.Draw.{Draw}
use Rattle.oak_machine.specs.declared.event.Start.{Start}
use Rattle.oak_machine.specs.History.{Past}
use Rattle.oak_machine.specs.Commits.{draw_of, is_in_base, is_in_flight}
use Rattle.core_read.specs.Commits.{Sight}
use Rattle.core_read.specs.Committing.{IsPartly}
use Rattle.core_read.specs.Holds.{has_revision, root_entry}
use Rattle.core_read.specs.Told.{IsIn}
use Rattle.core_read.specs.World.{Progress}
use Rattle.core_keep.specs.From.{course_from, IsFirst}
use Rattle.core_keep.specs.Journal.{is_bounded, is_swept, Separate}
use Rattle.core_keep.specs.Keeps.{Keeps, IsPrevious}
use Rattle.core_keep.specs.Standing.{all_at, gone_in, shows_node, shows_value, values_in}
use Rattle.core_begun.specs.Told.{edit_since, IsClosedSince, IsInUseSince, IsToldSince}

-- the start, or some bound so far, sees r
abbrev pub bounded_since : Start → Past → Sight
bounded_since start past r = sees start.at r || is_bounded past r

-- the start, or the sweep vector of some bound so far, sees r
abbrev pub swept_since : Start → Past → Sight
swept_since start past r = sees start.at r || is_swept past r

-- of two committed edits that write one item, the later one's base sees the earlier one
abbrev pub AreSeparateSince : Past → Type 0
AreSeparateSince past =
    (r : Revision) (ws : List Write) → edit_since past r ≡ Some ws
    → (o : Revision) (us : List Write) → edit_since past o ≡ Some us → IsTrue (is_before o r)
    → IsFalse (is_in_base past r o) → Separate ws us

-- a sight is settled and closed
pub record IsUsedSince (past : Past) (s : Sight) : Type 0 where
  pub settled : (o : Revision) → IsTrue (is_in_flight past o) → IsFalse (s o)
  pub closed : IsClosedSince past s

-- the documents keep what the journal tells since its start
pub record IsKeptSince (start : Start) (ds : Documents) (past : Past)
    (done : Progress) : Type 0 where
  -- the start has a tree
  pub first : IsFirst start.tree
  -- what the documents show is its tree and the committed edits
  pub keeps : Keeps ds (course_from start past)
  -- the journal can be read: each edit is proper and apart from those that it doesn't see
  pub told : IsToldSince start past
  -- each edit sees the earlier ones that write one of its items
  pub separate : AreSeparateSince past
  -- what bounds so far see is settled and closed
  pub bounded : IsUsedSince past (bounded_since start past)
  -- and they sweep nothing that is in flight
  pub swept : (o : Revision) → IsTrue (is_in_flight past o) → IsFalse (swept_since start past o)
  -- a draw in flight that isn't committed is written just where its progress says
  pub partly : (r : Revision) (d : Draw) → draw_of past r ≡ Some d → IsTrue (is_in_flight past r)
      → edit_since past r ≡ None → IsPartly ds r d.edit.writes (commit_root d.marks) (done r)

-- a pair of vectors is held
pub record IsHeldSince (start : Start) (past : Past) (v t : RevVec) : Type 0 where
  -- the base is in use
  pub base : IsInUseSince start past v
  -- the sweep vector sees nothing in flight that isn't committed
  pub quiet : (r : Revision) → IsTrue (sees t r) → edit_since past r ≡ None
      → IsFalse (is_in_flight past r)
  -- both see the start and all that bounds so far see
  pub above : (r : Revision) → IsTrue (bounded_since start past r) → IsTrue (sees v r)
  pub swept : (r : Revision) → IsTrue (swept_since start past r) → IsTrue (sees t r)

-- documents at the beginning
pub record ShowsStart (start : Start) (ds : Documents) : Type 0 where
  -- the documents show the tree of the start
  pub first : IsFirst start.tree
  pub node : (p : Path)
      → option_and_then shows_node
      (latest (filter (λ e. sees start.at e.0) (gone_in (all_at ds p))))
      ≡ born_at start.tree p
  pub prop : (p : Path) (n : Name)
      → option_and_then shows_value
      (latest (filter (λ e. sees start.at e.0) (values_in n (all_at ds p))))
      ≡ property_at start.tree p n
  -- each entry, status and commit root in them is of what the start sees
  pub of_node : (p : Path) (r : Revision) → IsFalse (sees start.at r)
      → of_revision (gone_in (all_at ds p)) r ≡ None
  pub of_prop : (p : Path) (n : Name) (r : Revision) → IsFalse (sees start.at r)
      → of_revision (values_in n (all_at ds p)) r ≡ None
  pub unsaid : (p : Path) (r : Revision) → IsFalse (sees start.at r)
      → IsFalse (has_revision (ds (id.Node p)) r)
  pub no_root : (p : Path) (r : Revision) → IsFalse (sees start.at r)
      → root_entry (ds (id.Node p)) r ≡ None
  pub named : (p : Path) (d : Document) → ds (id.Node p) ≡ Some d → d.id ≡ id.Node p
  -- behind each listed previous document that is there the document has later values
  pub previous : (p : Path) (d : Document) → ds (id.Node p) ≡ Some d → (e : PrevEntry)
      → IsIn e d.prev → (x : Document) → ds (id.Prev e.number p) ≡ Some x
      → IsPrevious (course_from start []) p d e.number x
  -- each listed number is below the document's, so no split will write it again
  pub numbers : (p : Path) (d : Document) → ds (id.Node p) ≡ Some d → (e : PrevEntry)
      → IsIn e d.prev → e.number < d.mod_count
