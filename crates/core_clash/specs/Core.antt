-- The core: documents, the past and the committers, and each kind of step of a commit.
use Rattle.std.specs.Prelude.{◌≡◌, ℕ, ◌+◌, Bool, true, false, cond, not, is_some, ◌⊎◌, List, [], ◌∷◌, ◌++◌, Option, Some, Result, Ok, Err}
use Rattle.std.specs.Ordering.{eq_by_cmp}
use Rattle.jr_path.specs.Names.{path_cmp}
use Rattle.jr_path.specs.declared.path.Path.{Path}
use Rattle.jr_rev.specs.declared.revision.Revision.{Revision}
use Rattle.jr_rev.specs.Revisions.{is_same}
use Rattle.oak_clash.specs.declared.mark.Mark.{Mark}
use Rattle.oak_clash.specs.Clashes.{commit_root}
use Rattle.oak_doc.specs.declared.document.Document.{Document}
use Rattle.oak_doc.specs.declared.update.OpFault.{OpFault}
use Rattle.oak_doc.specs.declared.update.OpFault.TheVariants as fault
use Rattle.oak_doc.specs.declared.update.Kept.TheVariants as kept
use Rattle.oak_doc.specs.Updates.{updated}
use Rattle.oak_commit.specs.Looking.{whole}
use Rattle.oak_commit.specs.Writing.{write_op, last_op}
use Rattle.oak_commit.specs.Clashing.{Met, found, mark_op, marked, undo_op, Writer}
use Rattle.core_read.specs.Holds.{root_entry}
use Rattle.jr_rev.specs.Vectors.{sees}
use Rattle.core_read.specs.Commits.{Sight}
use Rattle.std.specs.List.{filter}
use Rattle.oak_machine.specs.declared.event.Draw.{Draw}
use Rattle.oak_machine.specs.declared.event.Event.{Event}
use Rattle.oak_machine.specs.declared.event.Event.TheVariants as event
use Rattle.oak_machine.specs.declared.event.StepKind.TheVariants as kind
use Rattle.oak_machine.specs.History.{Past}
use Rattle.oak_machine.specs.Sessions.{is_stopped}
use Rattle.oak_machine.specs.Commits.{draw_of, marks_of, is_committed, is_ended}
use Rattle.core_heads.specs.Sound.{Begins}
use Rattle.core_clash.specs.Views.{In, Once, mark_at, NamesItems}

-- the documents of the nodes, by path
abbrev pub Docs : Type 0
Docs = Path → Option Document

-- of each node the previous documents that its document lists
abbrev pub Moved : Type 0
Moved = Path → List Document

-- the number of the last update, the documents, the previous documents that they list, what there
-- was from the beginning,
-- the events so far, and the committer of each drawn revision
pub record Core : Type 0 where
  pub number : ℕ
  pub docs : Docs
  pub moved : Moved
  pub old : Sight
  pub past : Past
  pub writers : Revision → Writer

-- two paths are one
abbrev pub is_path : Path → Path → Bool
is_path = eq_by_cmp path_cmp

-- the documents with this one at a path
abbrev pub with_document : Docs → Path → Document → Docs
with_document docs p d q = cond (is_path q p) (Some d) (docs q)

-- the documents after an update of one of them
abbrev pub docs_after : Docs → Path → Result Document OpFault → Docs
docs_after docs p (Ok d) = with_document docs p d
docs_after docs p (Err fault) = docs

-- the committers with this one for a revision
abbrev pub with_writer : (Revision → Writer) → Revision → Writer → Revision → Writer
with_writer writers r w q = cond (is_same q r) w (writers q)

-- the commit root of a revision, by the marks of its draw
abbrev pub root_of : Past → Revision → Path
root_of past r = commit_root (marks_of past r)

-- in flight, not committed and not undoing, and of a cluster node that wasn't stopped
pub record IsGoing (s : Core) (d : Draw) : Type 0 where
  pub running : is_stopped s.past d.revision.cluster ≡ false
  pub draw : draw_of s.past d.revision ≡ Some d
  pub unended : is_ended s.past d.revision ≡ false
  pub uncommitted : is_committed s.past d.revision ≡ false
  pub going : (s.writers d.revision).undoing ≡ false

-- a new revision that no base sees, at a base that sees all that there was from the beginning,
-- which is other, and nothing
-- in flight; a list of all its marked documents, each once; and marks of items that are those of
-- the edit
pub record MayDrawAnew (s : Core) (d : Draw) (left : List Path) : Type 0 where
  pub begins : Begins s.past d
  pub sees_old : (o : Revision) → s.old o ≡ true → sees d.base o ≡ true
  pub new : s.old d.revision ≡ false
  pub covers : (p : Path) (m : Mark) → In (mark_at p m) d.marks → In p left
  pub once : Once left
  pub entries : NamesItems d.marks d.edit.writes

-- a revision is drawn, and its committer has all its documents still to write
abbrev pub core_drawn : Core → Draw → List Path → Core
core_drawn s d left = record s {
  past = event.Draw d ∷ s.past;
  writers =
      with_writer s.writers d.revision (record {
        paths = left;
        left = left;
        written = [];
        due =
            [];
        undoing = false;
        wants = false;
      });
}

-- no mark to make, and p is the next document
pub record MayWrite (s : Core) (d : Draw) (p : Path) (rest : List Path) : Type 0 where
  pub going : IsGoing s d
  pub unmet : (s.writers d.revision).due ≡ []
  pub next : (s.writers d.revision).left ≡ p ∷ rest

-- the next document is written, and what is met in it is to be marked
abbrev pub core_written : Core → Draw → Path → List Path → Core
core_written s d p rest = record {
  number = s.number + 1;
  docs =
      docs_after s.docs p (updated (s.docs p) (write_op d.revision d.edit.writes d.marks p)
      (s.number + 1));
  moved = s.moved;
  old = s.old;
  past = event.Went d.session kind.Write ∷ s.past;
  writers =
      with_writer s.writers d.revision (record (s.writers d.revision) {
        left = rest;
        written =
            (s.writers d.revision).written ++ p ∷ [];
        due = found d.base d.revision p d.marks (whole
            p (s.docs p) (s.moved p));
      });
}

-- f is the next mark to make
pub record MayMark (s : Core) (d : Draw) (f : Met) (rest : List Met) : Type 0 where
  pub going : IsGoing s d
  pub next : (s.writers d.revision).due ≡ f ∷ rest

-- the committer turns to undoing
abbrev pub undoing_from : Core → Draw → Writer
undoing_from s d = record (s.writers d.revision) { due = []; undoing = true }

-- the event of a refusal comes, and the committer turns to undoing
abbrev pub refusing : Core → Draw → Event → Core
refusing s d e = record s {
  past = e ∷ s.past;
  writers = with_writer s.writers d.revision (undoing_from s d);
}

-- a mark on another's commit root is made, or the revision is refused since the other is committed
abbrev pub core_marked : Core → Draw → Met → List Met → Result Document OpFault → Core
core_marked s d f rest (Ok doc) = record {
  number = s.number + 1;
  docs = with_document s.docs (root_of s.past f.other) doc;
  moved = s.moved;
  old = s.old;
  past = event.Went d.session kind.Mark ∷ s.past;
  writers = with_writer s.writers d.revision (record (s.writers d.revision) { due = rest });
}
core_marked s d f rest (Err fault) = refusing s d (event.Refuse d.revision f.mine f.other)

-- the mark is made, or the draw is refused with its own item and the other
abbrev pub core_after_mark : Core → Draw → Met → List Met → Core
core_after_mark s d f rest =
    core_marked s d f rest (updated (s.docs (root_of s.past f.other))
    (mark_op (root_of s.past f.other) f.other d.revision f.theirs) (s.number + 1))

-- no mark to make and no document to write
pub record MayLast (s : Core) (d : Draw) : Type 0 where
  pub going : IsGoing s d
  pub unmet : (s.writers d.revision).due ≡ []
  pub none_left : (s.writers d.revision).left ≡ []

-- the last write is made, which commits, or the revision is refused since a collision is kept
abbrev pub core_lasted : Core → Draw → Result Document OpFault → Core
core_lasted s d (Ok doc) = record {
  number = s.number + 1;
  docs = with_document s.docs (root_of s.past d.revision) doc;
  moved = s.moved;
  old = s.old;
  past = event.Commit d.revision ∷ s.past;
  writers = s.writers;
}
core_lasted s d (Err (fault.Unmet c (kept.Entry o item))) =
    refusing s d (event.Refuse d.revision item o)
core_lasted s d (Err _) = s

-- the commit point, or the draw is refused with what is kept as its collision
abbrev pub core_last : Core → Draw → Core
core_last s d =
    core_lasted s d (updated (s.docs (root_of s.past d.revision))
    (last_op d.revision (marks_of s.past d.revision)) (s.number + 1))

-- want of memory: the committer turns to undoing, with no event
abbrev pub core_wanting : Core → Draw → Core
core_wanting s d =
    record s {
      writers = with_writer s.writers d.revision (record (undoing_from s d) {
        wants =
            true;
      });
    }

-- undoing, and p is the first document that it wrote and hasn't undone
pub record MayUndo (s : Core) (d : Draw) (p : Path) (rest : List Path) : Type 0 where
  pub draw : draw_of s.past d.revision ≡ Some d
  pub unended : is_ended s.past d.revision ≡ false
  pub undoing : (s.writers d.revision).undoing ≡ true
  pub next : (s.writers d.revision).written ≡ p ∷ rest

-- a document that was written is undone
abbrev pub core_undone : Core → Draw → Path → List Path → Core
core_undone s d p rest = record {
  number = s.number + 1;
  docs = docs_after s.docs p (updated (s.docs p) (undo_op d.revision p) (s.number + 1));
  moved = s.moved;
  old = s.old;
  past = event.Went d.session kind.Undo ∷ s.past;
  writers = with_writer s.writers d.revision (record (s.writers d.revision) { written = rest });
}

-- committed, or undone whole
abbrev pub IsDone : Core → Revision → Type 0
IsDone s r =
    (is_committed s.past r ≡ true) ⊎ (((s.writers r).undoing ≡ true) × ((s.writers r).written ≡ []))

-- a committer may end its revision, which is committed or undone whole
pub record MayFinish (s : Core) (d : Draw) : Type 0 where
  pub draw : draw_of s.past d.revision ≡ Some d
  pub unended : is_ended s.past d.revision ≡ false
  pub done : IsDone s d.revision

-- a revision ends
abbrev pub core_finished : Core → Draw → Core
core_finished s d = record s { past = event.End d.revision ∷ s.past }

-- ---- a recovery of a stopped cluster node

-- a draw of a stopped cluster node that isn't committed
pub record IsDead (past : Past) (d : Draw) : Type 0 where
  pub stopped : is_stopped past d.revision.cluster ≡ true
  pub draw : draw_of past d.revision ≡ Some d
  pub uncommitted : is_committed past d.revision ≡ false

-- the paths without this one
abbrev pub without_path : Path → List Path → List Path
without_path p ps = filter (λ q. not (is_path q p)) ps

-- the committer of a revision that a recovery has undone in the document of p
abbrev pub cleared : Writer → Path → Writer
cleared w p = record w { written = without_path p w.written; due = []; undoing = true }

-- a recovery undoes it in the document of p
abbrev pub core_cleared : Core → Event → Draw → Path → Core
core_cleared s e d p = record {
  number = s.number + 1;
  docs = docs_after s.docs p (updated (s.docs p) (undo_op d.revision p) (s.number + 1));
  moved = s.moved;
  old = s.old;
  past = e ∷ s.past;
  writers = with_writer s.writers d.revision (cleared (s.writers d.revision) p);
}

-- no document has anything of it but collisions
pub record IsCleared (docs : Docs) (r : Revision) : Type 0 where
  pub marks : (p : Path) (m : Mark) → marked (docs p) r m ≡ false
  pub roots : (p : Path) → is_some (root_entry (docs p) r) ≡ false

-- a recovery ends it: it was in flight, and no document has anything of it
pub record MayDrop (s : Core) (d : Draw) : Type 0 where
  pub dead : IsDead s.past d
  pub unended : is_ended s.past d.revision ≡ false
  pub cleared : IsCleared s.docs d.revision

-- a recovery ends a revision of which no document has anything
abbrev pub after_drop : Core → Draw → Core
after_drop s d = record s {
  past = event.End d.revision ∷ s.past;
  writers =
      with_writer s.writers d.revision (record (s.writers d.revision) {
        written = [];
        due = [];
        undoing = true;
      });
}

-- an event that no committer's step but these appends, and no bound
abbrev pub is_quiet : Event → Bool
is_quiet (event.Draw d) = false
is_quiet (event.Commit r) = false
is_quiet (event.Refuse r item o) = false
is_quiet (event.End r) = false
is_quiet (event.Bound m t) = false
is_quiet _ = true

-- an event comes that changes no document and no committer
abbrev pub after_event : Core → Event → Core
after_event s e = record s { past = e ∷ s.past }
