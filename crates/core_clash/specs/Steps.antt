-- Every interleaving: the steps of a core, what can be reached by them, and that each commit and
-- refusal may follow.
use Rattle.std.specs.Prelude.{◌≡◌, ℕ, Bool, true, false, List, [], ◌∷◌, None, is_some}
use Rattle.jr_path.specs.declared.path.Path.{Path}
use Rattle.jr_rev.specs.declared.revision.Revision.{Revision}
use Rattle.oak_clash.specs.declared.mark.Mark.{Mark}
use Rattle.jr_rev.specs.declared.vector.Pin.{Pin}
use Rattle.jr_rev.specs.declared.vector.RevVec.{RevVec}
use Rattle.oak_doc.specs.declared.document.Document.{Document}
use Rattle.oak_doc.specs.declared.document.PrevEntry.{PrevEntry}
use Rattle.oak_doc.specs.declared.update.UpdateOp.{UpdateOp}
use Rattle.oak_read.specs.Meaning.{Documents}
use Rattle.oak_machine.specs.declared.event.Draw.{Draw}
use Rattle.oak_machine.specs.declared.event.Event.{Event}
use Rattle.oak_machine.specs.declared.event.Event.TheVariants as event
use Rattle.oak_machine.specs.History.{Past}
use Rattle.oak_machine.specs.Commits.{is_in_flight}
use Rattle.oak_machine.specs.Runs.{MayCommit, MayRefuse}
use Rattle.oak_commit.specs.Clashing.{Met, marked, noted, collision}
use Rattle.core_read.specs.Holds.{root_entry}
use Rattle.core_clash.specs.Views.{AreOrdered, In}
use Rattle.core_clash.specs.Collecting.{SeesBounded, MayBoundCore, MayPruneCore, MayRemoveCore, MaySplitCore, after_prune, after_remove, core_split}
use Rattle.core_read.specs.Commits.{Sight}
use Rattle.std.specs.List.{list_any}
use Rattle.core_clash.specs.Sound.{has_moved}
use Rattle.core_clash.specs.Core.{Core, Docs, Moved, IsGoing, MayDrawAnew, MayWrite, MayMark, MayLast, MayUndo, MayFinish, IsDead, MayDrop, core_cleared, after_drop, core_drawn, core_written, core_after_mark, core_last, core_wanting, core_undone, core_finished, after_event, is_quiet}

-- one step of one committer, or what comes between: bounds, what collections drop, what splits
-- move, what a recovery undoes and ends, and events of something else, a stop and the end of a
-- recovery among them
pub data Step : Core → Core → Type 0 where
  draw : {s : Core} (d : Draw) (left : List Path) → MayDrawAnew s d left → SeesBounded s.past d.base
      → Step s (core_drawn s d left)
  write : {s : Core} (d : Draw) (p : Path) (rest : List Path) → MayWrite s d p rest
      → Step s (core_written s d p rest)
  mark : {s : Core} (d : Draw) (f : Met) (rest : List Met) → MayMark s d f rest
      → Step s (core_after_mark s d f rest)
  last : {s : Core} (d : Draw) → MayLast s d → Step s (core_last s d)
  want : {s : Core} (d : Draw) → IsGoing s d → Step s (core_wanting s d)
  undo : {s : Core} (d : Draw) (p : Path) (rest : List Path) → MayUndo s d p rest
      → Step s (core_undone s d p rest)
  finish : {s : Core} (d : Draw) → MayFinish s d → Step s (core_finished s d)
  bound : {s : Core} (m t : RevVec) → MayBoundCore s.past m t
      → Step s (after_event s (event.Bound m t))
  prune :
      {s : Core} (e : Event) (m t : RevVec) (p : Path) (old : Document) (op : UpdateOp)
      (keep : Document → Bool) → is_quiet e ≡ true → MayPruneCore s m t p old op keep
      → Step s (after_prune s e p old op keep)
  remove : {s : Core} (e : Event) (m t : RevVec) (p : Path) (old : Document) → is_quiet e ≡ true
      → MayRemoveCore s m t p old → Step s (after_remove s e p)
  split :
      {s : Core} (e : Event) (read : Documents) (pin : Pin) (p : Path) (old : Document)
      (entry : PrevEntry) (first : ℕ) → is_quiet e ≡ true → MaySplitCore s read pin p old
      → Step s (core_split s e read pin p old entry first)
  clear : {s : Core} (e : Event) (d : Draw) (p : Path) → is_quiet e ≡ true → IsDead s.past d
      → Step s (core_cleared s e d p)
  dropped : {s : Core} (d : Draw) → MayDrop s d → Step s (after_drop s d)
  other : {s : Core} (e : Event) → is_quiet e ≡ true → Step s (after_event s e)

-- documents in order, with marks, statuses and commit roots of what there was from the beginning
-- alone, and no collision; and
-- previous documents with such marks
pub record IsCoreStart (old : Sight) (docs : Docs) (moved : Moved) : Type 0 where
  pub ordered : (p : Path) → AreOrdered p (docs p)
  pub marks : (p : Path) (r : Revision) (m : Mark) → marked (docs p) r m ≡ true → old r ≡ true
  pub notes : (p : Path) (r : Revision) → noted (docs p) r ≡ true → old r ≡ true
  pub roots : (p : Path) (r : Revision) → is_some (root_entry (docs p) r) ≡ true → old r ≡ true
  pub collisions : (p : Path) (r : Revision) → collision (docs p) r ≡ None
  pub listed : (p : Path) (r : Revision) (m : Mark) → list_any (has_moved r m) (moved p) ≡ true
      → old r ≡ true

-- nothing has happened
abbrev pub at_start : Sight → ℕ → Docs → Moved → Core
at_start old number docs moved =
    record {
      number = number;
      docs = docs;
      moved = moved;
      old = old;
      past = [];
      writers = λ r.
          record { paths = []; left = []; written = []; due = []; undoing = false; wants = false };
    }

-- what can be reached by steps, in every interleaving
pub data Reached : Core → Type 0 where
  begun : (old : Sight) (number : ℕ) (docs : Docs) (moved : Moved) → IsCoreStart old docs moved
      → Reached (at_start old number docs moved)
  more : {s t : Core} → Reached s → Step s t → Reached t

-- a commit, a refusal or an end may follow
abbrev pub MayEnd : Past → Event → Type 0
MayEnd past (event.Commit r) = MayCommit past r
MayEnd past (event.Refuse r item o) = MayRefuse past r item o
MayEnd past (event.End r) = is_in_flight past r ≡ true
MayEnd past _ = Unit {0}

-- each commit, refusal and end may follow the events before it
abbrev pub EndsWell : Past → Type 0
EndsWell [] = Unit {0}
EndsWell (e ∷ past) = MayEnd past e × EndsWell past

-- the committer of r has written nothing in the document of p that isn't undone there
abbrev pub IsUndoneAt : Core → Revision → Path → Type 0
IsUndoneAt s r p = In p (s.writers r).written → ⊥
