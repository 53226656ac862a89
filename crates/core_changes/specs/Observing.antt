-- What holds of a reader of changes between its steps, while commits, splits and collections go on.
use Rattle.std.specs.Prelude.{◌≡◌, ℕ, Bool, true, List, [], ◌∷◌, Option, None, Some, is_some, IsTrue, IsFalse}
use Rattle.std.specs.FinMap.{is_sorted}
use Rattle.std.specs.Ordering.{is_le, is_lt}
use Rattle.jr_path.specs.Ids.{id_cmp}
use Rattle.jr_path.specs.declared.name.Name.{Name}
use Rattle.jr_path.specs.declared.path.Path.{Path}
use Rattle.jr_path.specs.declared.path.DocId.{DocId}
use Rattle.jr_path.specs.declared.path.DocId.TheVariants as id
use Rattle.jr_rev.specs.declared.revision.Revision.{Revision}
use Rattle.jr_rev.specs.declared.vector.RevVec.{RevVec}
use Rattle.jr_rev.specs.declared.vector.Pin.{Pin}
use Rattle.jr_rev.specs.Vectors.{sees}
use Rattle.jr_tree.specs.declared.edit.Write.{Write}
use Rattle.jr_tree.specs.Items.{put_of, written}
use Rattle.oak_changes.specs.declared.changes.ChangesReader.{ChangesReader}
use Rattle.oak_changes.specs.declared.changes.Step.{Step}
use Rattle.oak_changes.specs.declared.changes.Step.TheVariants as step
use Rattle.oak_changes.specs.declared.said.Said.{Said}
use Rattle.oak_doc.specs.declared.document.Document.{Document}
use Rattle.oak_doc.specs.declared.document.PrevEntry.{PrevEntry}
use Rattle.oak_doc.specs.Updates.{of_revision, values_of_property}
use Rattle.oak_machine.specs.Changed.{changes_between}
use Rattle.oak_machine.specs.Commits.{is_in_base}
use Rattle.oak_machine.specs.History.{Past}
use Rattle.oak_read.specs.Meaning.{Documents, commit_root_of, documents_in}
use Rattle.oak_read.specs.Wanted.{Ids, Known}
use Rattle.core_read.specs.Holds.{has_revision}
use Rattle.core_read.specs.Told.{IsIn}
use Rattle.core_begun.specs.Told.{edit_since, IsToldSince}
use Rattle.core_keep.specs.Formers.{Former, Formers, IsShownIn}
use Rattle.core_keep.specs.From.{course_from}
use Rattle.core_keep.specs.Readers.{gone_by, Reads}
use Rattle.core_keep.specs.Standing.{gone_in, gone_of, values_in}
use Rattle.core_watch.specs.Reading.{AreToRead, is_asked, is_left, ReadsOn}
use Rattle.core_watch.specs.Standing.{HasEntry, is_known_or_left}
use Rattle.core_changes.specs.Between.{IsBetween, IsChange, is_new}
use Rattle.oak_machine.specs.declared.event.Start.{Start}

-- what a reader goes by at a node tells the changes there: at each vector between the two it reads
-- the tree; of each new commit it has just what its edit writes; and an entry of a property in its
-- copy is a write
pub record TellsChanges (start : Start) (ds : Documents) (past : Past) (from to t : RevVec)
    (p : Path)
    (copy : Document) (asked : ℕ → Bool) (look : ℕ → Option Document) : Type 0 where
  pub reads : (v : RevVec) → IsBetween past from to v
      → Reads ds (course_from start past) (sees v) (sees t) p copy asked look
  pub node : (r : Revision) (ws : List Write) → edit_since past r ≡ Some ws
      → IsTrue (is_new from to r)
      → of_revision (gone_in (gone_by copy look)) r ≡ written (gone_of p) ws
  pub prop : (n : Name) (r : Revision) (ws : List Write) → edit_since past r ≡ Some ws
      → IsTrue (is_new from to r)
      → of_revision (values_in n (gone_by copy look)) r ≡ written (put_of p n) ws
  pub genuine : (n : Name) (q : Revision) (us : List Write) → edit_since past q ≡ Some us
      → IsTrue (sees to q) → IsTrue (is_some (of_revision (values_of_property copy.props n) q))
      → IsTrue (is_some (written (put_of p n) us))

-- what is known stands in store order, and each node's document that is known says all that the
-- document says of what `to` sees and t doesn't
pub record AreSaying (ds : Documents) (to t : RevVec) (known : Known) : Type 0 where
  pub rising : IsTrue (is_sorted id_cmp known)
  pub said : (p : Path) (d : Document) → documents_in known (id.Node p) ≡ Some d → (q : Revision)
      → IsTrue (sees to q) → IsFalse (sees t q) → IsTrue (has_revision (ds (id.Node p)) q)
      → IsTrue (has_revision (Some d) q)

-- the node's document is known; of the previous documents that it lists just those are left that
-- weren't asked for; of the others what was found is known; and each former document is shown at
-- each vector between the two
pub record IsAskingChanges (start : Start) (ds : Documents) (past : Past) (formers : Formers)
    (from to t : RevVec)
    (known : Known) (left : Ids) (p : Path) : Type 0 where
  pub document : Document
  pub there : documents_in known (id.Node p) ≡ Some document
  pub look : ℕ → Option Document
  pub tells : TellsChanges start ds past from to t p document (is_asked left p) look
  pub found : (e : PrevEntry) → IsIn e document.prev → IsTrue (is_asked left p e.number)
      → documents_in known (id.Prev e.number p) ≡ look e.number
  pub waiting : AreToRead known left
  pub previous : (x : DocId) → IsTrue (is_left left x)
      → (e : PrevEntry) × IsIn e document.prev × (x ≡ id.Prev e.number p)
  pub listed : (e : PrevEntry) → IsIn e document.prev
      → (f : Former) × (formers p e.number ≡ Some f)
      × ((v : RevVec) → IsBetween past from to v → IsShownIn (sees v) f (gone_by document look))

-- all of these were asked for; and of the entries that `to` sees and t doesn't each commit root is
-- known or left
pub record AreChangeRootsAsked (start : Start) (ds : Documents) (past : Past) (from to t : RevVec)
    (known : Known) (left : Ids)
    (p : Path) : Type 0 where
  pub document : Document
  pub there : documents_in known (id.Node p) ≡ Some document
  pub look : ℕ → Option Document
  pub tells : TellsChanges start ds past from to t p document (λ k. true) look
  pub found : (e : PrevEntry) → IsIn e document.prev
      → documents_in known (id.Prev e.number p) ≡ look e.number
  pub roots : (x : Document) → IsIn x (gone_by document look) → (q : Revision) → IsTrue (sees to q)
      → IsFalse (sees t q) → HasEntry true x q
      → IsTrue (is_known_or_left known left (commit_root_of x q))
  pub waiting : AreToRead known left
  pub nodes : (x : DocId) → IsTrue (is_left left x) → (q : Path) × (x ≡ id.Node q)

-- the changes so far are just those at the nodes of these paths
pub record AreSaid (start : Start) (past : Past) (from to : RevVec) (passed : Path
    → Bool) (said : List Said)
    : Type 0 where
  pub each : (s : Said) → IsIn s said → IsChange start past from to s
      × IsTrue (passed s.change.item.path)
  pub all : (s : Said) → IsChange start past from to s → IsTrue (passed s.change.item.path)
      → IsIn s said

-- the node's document stands before that of the node at a path, or is it
abbrev pub is_before_node : Path → Path → Bool
is_before_node at p = is_lt (id_cmp (id.Node p) (id.Node at))

-- in store order the document of a path's node is that of another's or one before it
abbrev pub is_up_to_node : Path → Path → Bool
is_up_to_node at p = is_le (id_cmp (id.Node p) (id.Node at))

module _ (start : Start) (ds : Documents) (past : Past) (formers : Formers) (from to t : RevVec)
    (at : Path)
    (known : Known) (said : List Said) where
  -- what is so at a step
  abbrev pub Stands : Step → Type 0
  Stands step.First = said ≡ []
  Stands step.Next = AreSaid start past from to (is_up_to_node at) said
  Stands (step.Previous left) =
      IsAskingChanges start ds past formers from to t known ((left.first, tt) ∷ left.rest) at
      × AreSaying ds to t known × AreSaid start past from to (is_before_node at) said
  Stands (step.Roots left) =
      AreChangeRootsAsked start ds past from to t known ((left.first, tt) ∷ left.rest) at
      × AreSaying ds to t known
      × AreSaid start past from to (is_before_node at) said
  Stands (step.Done o) = o ≡ changes_between (Some start) past from to

-- a reader of changes stands where its step says
abbrev pub IsObserving : Start → Documents → Past → Formers → ChangesReader → Type 0
IsObserving start ds past formers r =
    Stands start ds past formers r.from r.pin.base r.pin.sweep r.at r.known r.said r.step

-- between two moments, at the first of which committed edits are those of their draws, nothing
-- changed that `to` sees: its commits, their bases, and what each reader at a vector between the
-- two reads
pub record ObservesOn (start : Start) (from : RevVec) (pin : Pin) (ds now : Documents)
    (past later : Past)
    : Type 0 where
  pub told : IsToldSince start past
  pub edits : (r : Revision) → IsTrue (sees pin.base r) → edit_since later r ≡ edit_since past r
  pub bases : (r : Revision) (ws : List Write) → edit_since past r ≡ Some ws → (q : Revision)
      → is_in_base later r q ≡ is_in_base past r q
  pub reads : (v : RevVec) → IsBetween past from pin.base v
      → ReadsOn start (record { base = v; sweep = pin.sweep }) ds now past later
