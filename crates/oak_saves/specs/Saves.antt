-- The steps of a commit, from its draw to its end: on the documents, on the memory of its cluster
-- node, and on the events.
use Rattle.std.specs.Prelude.{◌≡◌, ◌⊎◌, ◌≤◌, ◌+◌, ◌*◌, ℕ, cond, drop, false, List, [], ◌∷◌, ◌++◌, length, Option, Some, None, Ok, Err}
use Rattle.jr_path.specs.declared.path.DocId.TheVariants as id
use Rattle.jr_path.specs.declared.path.Path.{Path}
use Rattle.jr_path.specs.declared.path.Item.{Item}
use Rattle.jr_rev.specs.declared.revision.Revision.{Revision}
use Rattle.jr_rev.specs.Revisions.{is_before}
use Rattle.oak_commit.specs.Clashing.{Met, Writer, mark_op}
use Rattle.oak_commit.specs.Committing.{Committing, due_of, fed, first_path, wanting}
use Rattle.oak_commit.specs.Stages.{stage_of}
use Rattle.oak_commit.specs.Writing.{last_op, write_op}
use Rattle.oak_commit.specs.declared.outcome.CommitEnd.{CommitEnd}
use Rattle.oak_commit.specs.declared.outcome.CommitEnd.TheVariants as end
use Rattle.oak_commit.specs.declared.stage.Stage.{Stage}
use Rattle.oak_commit.specs.declared.stage.Stage.TheVariants as stage
use Rattle.oak_doc.specs.declared.document.Document.{Document}
use Rattle.oak_doc.specs.declared.asks.Ask.TheVariants as ask
use Rattle.oak_doc.specs.declared.asks.Reply.TheVariants as reply
use Rattle.oak_doc.specs.declared.update.Cond.{Cond}
use Rattle.oak_doc.specs.declared.update.Kept.{Kept}
use Rattle.oak_doc.specs.declared.update.Kept.TheVariants as kept
use Rattle.oak_doc.specs.declared.update.OpFault.{OpFault}
use Rattle.oak_doc.specs.declared.update.OpFault.TheVariants as fault
use Rattle.oak_doc.specs.declared.update.UpdateOp.{UpdateOp}
use Rattle.oak_machine.specs.declared.event.Event.{Event}
use Rattle.oak_machine.specs.declared.event.Event.TheVariants as event
use Rattle.oak_machine.specs.declared.event.StepKind.{StepKind}
use Rattle.oak_machine.specs.declared.event.StepKind.TheVariants as kind
use Rattle.oak_node.specs.Heads.{IsInFlight, finished}
use Rattle.oak_node.specs.Memory.{NodeState, own_entry}
use Rattle.oak_read.specs.Reading.{answer}
use Rattle.oak_store.specs.Tables.{Table, after_undo, found, next_number, with_document}
pub use Rattle.oak_acts.specs.Acts.{result_of}

-- the documents, the memory of a cluster node, and the events
pub record Parts : Type 0 where
  pub table : Table
  pub memory : NodeState
  pub list : List Event

-- the parts that a step may change: the table, its node's memory and the list of events
abbrev pub parts : Table → NodeState → List Event → Parts
parts t m es = record { table = t; memory = m; list = es }

-- ---- documents

-- the update is made
pub record IsUpdateMade (old new : Table) (op : UpdateOp) : Type 0 where
  pub document : Document
  pub result : result_of old op ≡ Ok document
  pub table : new ≡ with_document old op.id document (next_number old)

-- ---- the memory

-- the end of r, and the head of cluster node k, where that moved
abbrev pub end_events : ℕ → NodeState → Revision → List Event
end_events k m r =
    event.End r
    ∷ cond (is_before (own_entry m) (own_entry (finished m r)))
    (event.Head k (finished m r).head ∷ []) []

-- ---- a commit

-- the mark that was due is made, with `rest` to make still
abbrev pub mark_made : Committing → List Met → Committing
mark_made c rest = record c { writer = record c.writer { due = rest }; roots = drop 1 c.roots }

-- the last write is made
abbrev pub committed : Committing → Committing
committed c = record c { outcome = Some (end.Committed c.revision) }

-- the update that is due: a mark, a document, or the last write
abbrev pub op_due : Committing → UpdateOp
op_due c = by c.writer.due c.writer.left
  where
    by : List Met → List Path → UpdateOp
    by (f ∷ fs) ps = mark_op (first_path c.roots) f.other c.revision f.theirs
    by [] (p ∷ ps) = write_op c.revision c.edit.writes c.marks p
    by [] [] = last_op c.revision c.marks

-- an update is due
abbrev pub IsUpdateDue : Committing → Type 0
IsUpdateDue c = due_of c ≡ ask.Update (op_due c)

-- what an operation of a commit may change: the documents, the events and the committer
pub record Saving : Type 0 where
  pub table : Table
  pub list : List Event
  pub committer : Committing

-- these documents and events, and a committer that stands so
abbrev pub saving : Table → List Event → Committing → Saving
saving t es c = record { table = t; list = es; committer = c }

-- the event of a refusal by the mark that is due
abbrev pub mark_refusal : Committing → Event → Type 0
mark_refusal c e = by c.writer.due
  where
    by : List Met → Type 0
    by (f ∷ fs) = e ≡ event.Refuse c.revision f.mine f.other
    by [] = ⊥

-- what a committer keeps once the update that is due is made
abbrev pub fed_made : Table → Committing → Committing
fed_made t c = fed c (reply.Updated (found t (op_due c).id))

-- the mark is made
pub record IsMarkMade (s : ℕ) (old new : Saving) : Type 0 where
  pub made : IsUpdateMade old.table new.table (op_due old.committer)
  pub list : new.list ≡ old.list ++ event.Went s kind.Mark ∷ []
  pub committer : new.committer ≡ fed_made old.table old.committer

-- a mark is refused, since its condition is unmet; the table stays, and the refusal is told
pub record IsMarkRefused (old new : Saving) : Type 0 where
  pub cause : Cond
  pub thing : Kept
  pub result : result_of old.table (op_due old.committer) ≡ Err (fault.Unmet cause thing)
  pub table : new.table ≡ old.table
  pub refusal : Event
  pub told : mark_refusal old.committer refusal
  pub list : new.list ≡ old.list ++ refusal ∷ []
  pub committer : new.committer ≡ fed old.committer (reply.Unmet cause thing)

-- a mark is made or refused
abbrev pub IsMarked : ℕ → Saving → Saving → Type 0
IsMarked s old new = IsMarkMade s old new ⊎ IsMarkRefused old new

-- the document is written; where memory is refused for what is found in it, the committer turns to
-- undoing
pub record IsWritten (s : ℕ) (old new : Saving) : Type 0 where
  pub made : IsUpdateMade old.table new.table (op_due old.committer)
  pub list : new.list ≡ old.list ++ event.Went s kind.Write ∷ []
  pub committer : (new.committer ≡ fed_made old.table old.committer)
      ⊎ (new.committer ≡ wanting (fed_made old.table old.committer))

-- what a committer keeps once the previous document for which it asks is found, or is gone
abbrev pub fed_previous : Table → Committing → Committing
fed_previous t c = fed c (answer t.documents (due_of c))

-- a previous document is looked at, which leaves the documents and the events; where memory is
-- refused for what is found in it, the committer turns to undoing
pub record IsLooked (old new : Saving) : Type 0 where
  pub table : new.table ≡ old.table
  pub list : new.list ≡ old.list
  pub committer : (new.committer ≡ fed_previous old.table old.committer)
      ⊎ (new.committer ≡ wanting (fed_previous old.table old.committer))

-- a last write fails for want of memory, or for the collision that is noted on the commit root
abbrev pub IsLastFault : OpFault → Type 0
IsLastFault fault.Memory = Unit {0}
IsLastFault (fault.Unmet cause (kept.Entry other item)) = Unit {0}
IsLastFault _ = ⊥

-- the last write commits
pub record IsLastMade (old new : Saving) : Type 0 where
  pub made : IsUpdateMade old.table new.table (op_due old.committer)
  pub list : new.list ≡ old.list ++ event.Commit old.committer.revision ∷ []
  pub committer : new.committer ≡ fed_made old.table old.committer

-- the last write is refused by a collision that another kept; the table stays
pub record IsLastRefused (old new : Saving) : Type 0 where
  pub cause : Cond
  pub other : Revision
  pub item : Item
  pub result : result_of old.table (op_due old.committer)
      ≡ Err (fault.Unmet cause (kept.Entry other item))
  pub table : new.table ≡ old.table
  pub list : new.list ≡ old.list ++ event.Refuse old.committer.revision item other ∷ []
  pub committer : new.committer ≡ fed old.committer (reply.Unmet cause (kept.Entry other item))

-- a commit is refused by a fault of its last write, which tells a collision
pub record IsRefusedBy (f : OpFault) (es fs : List Event) (c d : Committing) : Type 0 where
  pub cause : Cond
  pub other : Revision
  pub item : Item
  pub is : f ≡ fault.Unmet cause (kept.Entry other item)
  pub list : fs ≡ es ++ event.Refuse c.revision item other ∷ []
  pub committer : d ≡ fed c (reply.Unmet cause (kept.Entry other item))

-- the last write is made or refused
abbrev pub IsLast : Saving → Saving → Type 0
IsLast old new = IsLastMade old new ⊎ IsLastRefused old new

-- the first document that is written and not undone is undone
pub record IsDocumentUndone (s : ℕ) (old new : Saving) : Type 0 where
  pub path : Path
  pub rest : List Path
  pub first : old.committer.writer.written ≡ path ∷ rest
  pub table : new.table ≡ after_undo old.table (id.Node path) old.committer.revision
  pub list : new.list ≡ old.list ++ event.Went s kind.Undo ∷ []
  pub committer : new.committer ≡ fed old.committer reply.Undone

-- the parts after the end of r, of cluster node k
abbrev pub parts_ended : ℕ → Parts → Revision → Parts
parts_ended k p r = parts p.table (finished p.memory r) (p.list ++ end_events k p.memory r)

-- the operation of this kind that is due is made, or answered
abbrev pub UpdatesDocument : ℕ → Saving → Saving → StepKind → Type 0
UpdatesDocument s old new kind.Mark = (stage_of old.committer ≡ stage.Mark) × IsMarked s old new
UpdatesDocument s old new kind.Write = (stage_of old.committer ≡ stage.Write) × IsWritten s old new
UpdatesDocument s old new kind.Read = (stage_of old.committer ≡ stage.Look) × IsLooked old new
UpdatesDocument s old new kind.Last = (stage_of old.committer ≡ stage.Last) × IsLast old new
UpdatesDocument s old new kind.Undo =
    (stage_of old.committer ≡ stage.Undo) × IsDocumentUndone s old new
UpdatesDocument s old new _ = ⊥

-- an operation on a document is due
abbrev pub IsUpdating : Stage → Type 0
IsUpdating stage.Mark = Unit {0}
IsUpdating stage.Write = Unit {0}
IsUpdating stage.Look = Unit {0}
IsUpdating stage.Last = Unit {0}
IsUpdating stage.Undo = Unit {0}
IsUpdating _ = ⊥

-- nothing is due but the end
pub record IsOver (c : Committing) : Type 0 where
  pub finish : stage_of c ≡ stage.Finish
  pub unended : c.ended ≡ false

-- ---- places

-- for how many events of a commit places are kept: for each write and its undoing, for the last
-- write or a refusal, for the end with the head, and for the move of the base
abbrev pub needed_for : Writer → Option CommitEnd → ℕ
needed_for w None = 2 * length w.left + length w.written + 4
needed_for w (Some (end.Committed r)) = 3
needed_for w (Some (end.Clash item o)) = length w.written + 2
needed_for w (Some end.Memory) = length w.written + 2

-- for how many events of a commit, as it stands, places are kept
abbrev pub needed_by : Committing → ℕ
needed_by c = needed_for c.writer c.outcome

-- ---- what a step takes

-- the revision is in flight by the memory, it hasn't ended, and places are kept
pub record CanCommit (m : NodeState) (places : ℕ) (c : Committing) : Type 0 where
  pub flying : IsInFlight m c.revision
  pub unended : c.ended ≡ false
  pub kept : needed_by c ≤ places
