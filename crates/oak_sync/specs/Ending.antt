-- What background writes and reads come to.
use Rattle.std.specs.Prelude.{◌≡◌, ℕ, zero, suc, ◌+◌, Bool, true, false, cond, List, [], length, fold, All, Option, None, Some, Result, Ok, Err, slice_get, IsTrue}
use Rattle.std.specs.Option.{option_map_or}
use Rattle.std.specs.Ordering.{eq_by_cmp}
use Rattle.std.specs.declared.alloc.Global.{Global}
use Rattle.jr_path.specs.Ids.{id_cmp}
use Rattle.jr_path.specs.declared.path.Path.{Path}
use Rattle.jr_path.specs.declared.path.DocId.{DocId}
use Rattle.jr_path.specs.declared.path.DocId.TheVariants as id
use Rattle.jr_rev.specs.declared.revision.Revision.{Revision}
use Rattle.oak_doc.specs.declared.document.Document.{Document}
use Rattle.oak_doc.specs.declared.asks.Ask.{Ask}
use Rattle.oak_doc.specs.declared.asks.Ask.TheVariants as ask
use Rattle.oak_doc.specs.declared.asks.MemoryAsk.TheVariants as memory
use Rattle.oak_doc.specs.declared.asks.Reply.{Reply}
use Rattle.oak_doc.specs.declared.asks.Reply.TheVariants as reply
use Rattle.oak_doc.specs.declared.update.OpFault.{OpFault}
use Rattle.jr_rev.specs.Vectors.{raised}
use Rattle.oak_doc.specs.Updates.{updated}
use Rattle.oak_node.specs.declared.pending.Pending.{Pending}
use Rattle.oak_sync.specs.Upward.{is_upward}
use Rattle.oak_sync.specs.Publishing as publishing
use Rattle.oak_sync.specs.Learning as learning
use Rattle.oak_sync.specs.declared.back_write.BackWrite.{BackWrite}
use Rattle.oak_sync.specs.declared.back_read.BackRead.{BackRead}

-- ---- what a background write asks for

-- an update is made, or there was no document
abbrev pub is_made_or_gone : Reply → Bool
is_made_or_gone (reply.Updated before) = true
is_made_or_gone reply.Absent = true
is_made_or_gone _ = false

-- after so many replies the document of the next path is due, or nothing where there is none
abbrev pub AsksUpward : Type 0
AsksUpward = (a : Global) (pending : Pending) (b : BackWrite) → publishing.HasWrittenNothing a pending b → (replies : List Reply) → All (λ r. IsTrue (is_made_or_gone r)) replies
    → publishing.due (fold publishing.fed b replies) ≡ option_map_or (λ p. ask.Update (publishing.back_op p pending.upto)) (slice_get b.paths (length replies)) ask.Done

-- ---- what it makes of documents that nobody else changes

-- the documents, by their ids
abbrev pub DocumentsById : Type 0
DocumentsById = DocId → Option Document

-- the documents, the number drawn last, and what the background write keeps
pub record Alone : Type 0 where
  pub documents : DocumentsById
  pub number : ℕ
  pub writer : BackWrite

-- with the document of an id
abbrev pub with_document : DocumentsById → DocId → Document → DocumentsById
with_document ds x d y = cond (eq_by_cmp id_cmp y x) (Some d) (ds y)

-- an update came to this with the next number: it is made, or there is no document
abbrev pub after_result : Alone → DocId → Result Document OpFault → Alone
after_result s x (Ok d) = record { documents = with_document s.documents x d; number = s.number + 1; writer = publishing.fed s.writer (reply.Updated (s.documents x)) }
after_result s x (Err fault) = record s { writer = publishing.fed s.writer reply.Absent }

-- what is due is done
abbrev pub after_due : Alone → Ask → Alone
after_due s (ask.Update op) = after_result s op.id (updated (s.documents op.id) op (s.number + 1))
after_due s _ = s

-- what so many asks come to, each done as it falls due
abbrev pub after_steps : ℕ → Alone → Alone
after_steps zero s = s
after_steps (suc n) s = after_steps n (after_due s (publishing.due s.writer))

-- the document with a raised entry of `_lastRev`, and some number
abbrev pub with_last_rev : Revision → ℕ → Document → Document
with_last_rev upto number d = record d { last_rev = raised d.last_rev upto; mod_count = number }

-- the documents of these nodes that are there are raised; all else is as it was
pub record AreTold (these : Path → Bool) (upto : Revision) (before after : DocumentsById) : Type 0 where
  pub raised : (p : Path) (d : Document) → IsTrue (these p) → before (id.Node p) ≡ Some d → (number : ℕ) × (after (id.Node p) ≡ Some (with_last_rev upto number d))
  pub gone : (p : Path) → IsTrue (these p) → before (id.Node p) ≡ None → after (id.Node p) ≡ None
  pub others : (x : DocId) → ((p : Path) → IsTrue (these p) → x ≡ id.Node p → ⊥) → after x ≡ before x

-- A background write, where nobody else changes documents, ends after an ask for each of its paths,
-- and has told its revision to the documents of the pending paths and of all above them.
abbrev pub Publishes : Type 0
Publishes = (a : Global) (pending : Pending) (b : BackWrite) → publishing.HasWrittenNothing a pending b → (ds : DocumentsById) (number : ℕ)
    → let end = after_steps (length b.paths) (record { documents = ds; number = number; writer = b }) in
    (publishing.due end.writer ≡ ask.Done) × (end.writer.upto ≡ pending.upto) × AreTold (is_upward pending.paths) pending.upto ds end.documents

-- ---- background reads

-- what documents at rest, and a memory, answer
abbrev pub back_answer : DocumentsById → Ask → Reply
back_answer ds (ask.Find x) = reply.Found (ds x)
back_answer ds (ask.Memory m) = reply.Learnt
back_answer ds _ = reply.Found None

-- a background read after so many replies of documents at rest
abbrev pub back_read_after : DocumentsById → ℕ → BackRead → BackRead
back_read_after ds zero b = b
back_read_after ds (suc n) b = back_read_after ds n (learning.fed b (back_answer ds (learning.due b)))

-- a background read asks for the root's document, once, then that the memory learns its two vectors,
-- and has those at its end
pub record LearnsOf (ds : DocumentsById) (root : Document) (b : BackRead) : Type 0 where
  pub first : learning.due b ≡ ask.Find (id.Node [])
  pub second : learning.due (back_read_after ds 1 b) ≡ ask.Memory (memory.Learn root.last_rev root.sweep_rev)
  pub done : learning.due (back_read_after ds 2 b) ≡ ask.Done
  pub last : (back_read_after ds 2 b).last ≡ root.last_rev
  pub sweep : (back_read_after ds 2 b).sweep ≡ root.sweep_rev

-- where the root has a document, a background read of documents at rest learns its two vectors
abbrev pub Learns : Type 0
Learns = (a : Global) (ds : DocumentsById) (root : Document) → ds (id.Node []) ≡ Some root
    → LearnsOf ds root (learning.begun a)
