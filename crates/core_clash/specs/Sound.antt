-- What holds of a core after every step.
use Rattle.std.specs.Prelude.{◌≡◌, Bool, true, false, ◌||◌, ◌⊎◌, List, [], ◌++◌, Option, Some, is_some}
use Rattle.std.specs.List.{list_any}
use Rattle.std.specs.Option.{option_map}
use Rattle.jr_path.specs.declared.path.Path.{Path}
use Rattle.jr_path.specs.declared.path.Item.{Item}
use Rattle.jr_path.specs.declared.path.DocId.TheVariants as id
use Rattle.jr_rev.specs.declared.revision.Revision.{Revision}
use Rattle.oak_clash.specs.declared.mark.Mark.{Mark}
use Rattle.oak_clash.specs.declared.mark.Mark.TheVariants.{Prop}
use Rattle.oak_clash.specs.Clashes.{clash, Meets}
use Rattle.oak_doc.specs.declared.document.Document.{Document}
use Rattle.oak_doc.specs.Updates.{values_of_property}
use Rattle.oak_read.specs.Meaning.{commit_root_of}
use Rattle.oak_machine.specs.declared.event.Draw.{Draw}
use Rattle.oak_machine.specs.History.{Past}
use Rattle.oak_machine.specs.Commits.{draw_of, marks_of, is_drawn, is_committed, is_refused, is_ended, is_in_flight, is_in_base, refusal_of}
use Rattle.oak_machine.specs.Runs.{was_live_beside}
use Rattle.oak_machine.specs.Sessions.{is_stopped}
use Rattle.oak_commit.specs.Clashing.{Met, has, marked, noted, collision, Writer}
use Rattle.core_read.specs.Holds.{root_entry}
use Rattle.core_keep.specs.Journal.{is_bounded, is_swept}
use Rattle.core_clash.specs.Views.{In, Once, mark_at, NamesItems, AreOrdered}
use Rattle.core_clash.specs.Core.{Core, root_of, IsDone}

-- r meets another, o, in its item, outside its base, and o was committed or in flight beside it
pub record Cause (past : Past) (r : Revision) (item : Item) (o : Revision) : Type 0 where
  pub another : r ≡ o → ⊥
  pub other : is_drawn past o ≡ true
  pub met : Meets (marks_of past r) (marks_of past o) item
  pub outside : is_in_base past r o ≡ false
  pub live : was_live_beside past r o ≡ true

-- a mark to make: it causes one's own refusal, and it will cause the other's
pub record IsMarkDue (past : Past) (r : Revision) (f : Met) : Type 0 where
  pub cause : Cause past r f.mine f.other
  pub theirs : Meets (marks_of past f.other) (marks_of past r) f.theirs

-- a previous document has the entry that a mark of r leaves: it has entries of properties alone
abbrev pub has_moved : Revision → Mark → Document → Bool
has_moved r (Prop n) x = has (values_of_property x.props n) r
has_moved r _ x = false

-- a document, or a previous one that it lists, has the entry that a mark of r leaves
abbrev pub marked_in : Option Document → List Document → Revision → Mark → Bool
marked_in doc xs r m = marked doc r m || list_any (has_moved r m) xs

-- what bounds of collections so far see has ended, each base in flight sees it, and what their
-- sweep vectors see they see
pub record AreBelow (past : Past) : Type 0 where
  pub settled : (o : Revision) → is_in_flight past o ≡ true → is_bounded past o ≡ false
  pub below : (r o : Revision) → is_in_flight past r ≡ true → is_bounded past o ≡ true
      → is_in_base past r o ≡ true
  pub swept : (o : Revision) → is_swept past o ≡ true → is_bounded past o ≡ true

-- a mark in the document of p was there from the beginning, or its committer wrote it there and
-- hasn't undone it
abbrev pub IsOf : Core → Path → Revision → Mark → Type 0
IsOf s p r m =
    (s.old r ≡ true) ⊎ (In p (s.writers r).written × In (mark_at p m) (marks_of s.past r))

-- the base of r sees o, or r is to mark o, or somebody has marked o
abbrev pub Noticed : Core → Revision → Revision → Type 0
Noticed s r o =
    (is_in_base s.past r o ≡ true) ⊎ ((f : Met) × In f (s.writers r).due × (f.other ≡ o))
    ⊎ (is_some (collision (s.docs (root_of s.past o)) o) ≡ true)

-- r was there from the beginning, or was drawn, wrote the document of p and hasn't undone it
abbrev pub IsWriterOf : Core → Path → Revision → Type 0
IsWriterOf s p r = (s.old r ≡ true) ⊎ (In p (s.writers r).written × (is_drawn s.past r ≡ true))

-- a document is there, and tells the commit root of r
abbrev pub IsRooted : Option Document → Revision → Path → Type 0
IsRooted doc r root = option_map (λ d. commit_root_of d r) doc ≡ Some (id.Node root)

-- r wrote the document of p, doesn't undo, and has this mark there
pub record MarkStands (s : Core) (r : Revision) (p : Path) (m : Mark) : Type 0 where
  pub written : In p (s.writers r).written
  pub going : (s.writers r).undoing ≡ false
  pub mark : In (mark_at p m) (marks_of s.past r)

-- a committed revision has written all, has marked all, and doesn't undo
pub record IsWhole (w : Writer) : Type 0 where
  pub left : w.left ≡ []
  pub due : w.due ≡ []
  pub going : w.undoing ≡ false

-- what is undone, what is written and what is left are the documents in their order; nothing is
-- undone before a refusal
pub record AreDocumentsListed (w : Writer) : Type 0 where
  pub gone : List Path
  pub all : gone ++ (w.written ++ w.left) ≡ w.paths
  pub none : w.undoing ≡ false → gone ≡ []

-- what undoes was refused, or wants memory, or its cluster node was stopped
abbrev pub TurnedToUndo : Past → Revision → Writer → Type 0
TurnedToUndo past r w =
    (is_refused past r ≡ true) ⊎ ((w.wants ≡ true) ⊎ (is_stopped past r.cluster ≡ true))

-- what holds at each moment of the documents, the committers and the past
pub record Sound (s : Core) : Type 0 where
  -- each document has the id of its node, and its properties in order
  pub ordered : (p : Path) → AreOrdered p (s.docs p)
  -- the marks of items of each draw are those of its edit
  pub edits : (r : Revision) (d : Draw) → draw_of s.past r ≡ Some d
      → NamesItems d.marks d.edit.writes
  -- what is committed, refused or ended was drawn
  pub committed_drawn : (r : Revision) → is_committed s.past r ≡ true → is_drawn s.past r ≡ true
  pub refused_drawn : (r : Revision) → is_refused s.past r ≡ true → is_drawn s.past r ≡ true
  pub ended_drawn : (r : Revision) → is_ended s.past r ≡ true → is_drawn s.past r ≡ true
  -- no base sees what is in flight, and each sees all that there was from the beginning, which
  -- nothing drawn is
  pub settled : (r o : Revision) → is_in_flight s.past o ≡ true → is_in_base s.past r o ≡ false
  pub start : (r : Revision) → is_drawn s.past r ≡ true → (o : Revision) → s.old o ≡ true
      → is_in_base s.past r o ≡ true
  pub new : (r : Revision) → is_drawn s.past r ≡ true → s.old r ≡ false
  -- bounds are below what is in flight
  pub bounds : AreBelow s.past
  -- each document that a committer wrote and hasn't undone has its marks, or a previous one that it
  -- lists has them, until a bound sees them; and no other marks are there
  pub entries : (r : Revision) (p : Path) (m : Mark) → is_bounded s.past r ≡ false
      → In p (s.writers r).written → In (mark_at p m) (marks_of s.past r)
      → marked_in (s.docs p) (s.moved p) r m ≡ true
  pub origin : (r : Revision) (p : Path) (m : Mark) → marked_in (s.docs p) (s.moved p) r m ≡ true
      → IsOf s p r m
  -- what moved to previous documents is committed
  pub moved : (r : Revision) (p : Path) (m : Mark) → list_any (has_moved r m) (s.moved p) ≡ true
      → (s.old r ≡ true) ⊎ (is_committed s.past r ≡ true)
  -- each document with a mark tells its commit root, until a bound has swept it, and no other
  -- document has a note of it
  pub rooted : (r : Revision) (p : Path) (m : Mark) → is_swept s.past r ≡ false → s.old r ≡ false
      → marked_in (s.docs p) (s.moved p) r m ≡ true → IsRooted (s.docs p) r (root_of s.past r)
  pub unrooted : (r : Revision) (p : Path) → is_some (root_entry (s.docs p) r) ≡ true
      → IsWriterOf s p r
  -- each committer of a node that isn't stopped has written exactly the first documents of its
  -- list, or has undone exactly the first of those that it wrote
  pub listed : (r : Revision) → is_stopped s.past r.cluster ≡ false
      → AreDocumentsListed (s.writers r)
  -- each document is written once, and each marked one is written or still to be
  pub once : (r : Revision) → Once ((s.writers r).written ++ (s.writers r).left)
  pub covered : (r : Revision) (p : Path) (m : Mark) → In (mark_at p m) (marks_of s.past r)
      → (s.writers r).undoing ≡ false → In p (s.writers r).written ⊎ In p (s.writers r).left
  -- what is refused undoes; what has ended is committed, or undone whole
  pub refused : (r : Revision) → is_refused s.past r ≡ true → (s.writers r).undoing ≡ true
  pub ended : (r : Revision) → is_ended s.past r ≡ true → IsDone s r
  -- what undoes was refused, or wants memory, or is undone by a recovery; what a refusal names is
  -- its cause
  pub stopped : (r : Revision) → (s.writers r).undoing ≡ true → TurnedToUndo s.past r (s.writers r)
  pub refusal : (r : Revision) (item : Item) (o : Revision) → refusal_of s.past r ≡ Some (item, o)
      → Cause s.past r item o
  -- each mark to make and each collision has its cause
  pub due : (r : Revision) (f : Met) → In f (s.writers r).due → IsMarkDue s.past r f
  pub caused : (p : Path) (r o : Revision) (item : Item) → collision (s.docs p) r ≡ Some (o, item)
      → Cause s.past r item o
  -- what is committed is noted on its commit root, until a bound has swept it, and nothing else is;
  -- it is whole, and nobody marked it
  pub status : (r : Revision) → is_swept s.past r ≡ false → is_committed s.past r ≡ true
      → noted (s.docs (root_of s.past r)) r ≡ true
  pub only_committed : (p : Path) (r : Revision) → noted (s.docs p) r ≡ true → (s.old r ≡ true)
      ⊎ (is_committed s.past r ≡ true)
  pub whole : (r : Revision) → is_committed s.past r ≡ true → IsWhole (s.writers r)
  pub unmarked : (r : Revision) → is_committed s.past r ≡ true
      → is_some (collision (s.docs (root_of s.past r)) r) ≡ false
  -- of two committers whose marks clash in a document that both wrote, one noticed the other
  pub noticed : (r o : Revision) (p : Path) (m n : Mark) → (r ≡ o → ⊥) → MarkStands s r p m
      → MarkStands s o p n → clash m n ≡ true → Noticed s r o ⊎ Noticed s o r
