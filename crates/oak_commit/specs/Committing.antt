-- A committer: what it asks for, and what it keeps after a reply (Oak, DocumentNodeStore: commit).
use Rattle.std.specs.Prelude.{Bool, true, false, cond, List, [], ◌∷◌, ◌++◌, map, drop, Option, None, Some, slice_get}
use Rattle.std.specs.Option.{option_map}
use Rattle.jr_path.specs.Ids.{names_of}
use Rattle.jr_path.specs.declared.path.Path.{Path}
use Rattle.jr_path.specs.declared.path.Item.{Item}
use Rattle.jr_path.specs.declared.path.DocId.{DocId}
use Rattle.jr_path.specs.declared.path.DocId.TheVariants as id
use Rattle.jr_rev.specs.declared.revision.Revision.{Revision}
use Rattle.jr_rev.specs.declared.vector.RevVec.{RevVec}
use Rattle.jr_tree.specs.declared.edit.Edit.{Edit}
use Rattle.oak_clash.specs.declared.mark.MarkAt.{MarkAt}
use Rattle.oak_doc.specs.declared.document.Document.{Document}
use Rattle.oak_doc.specs.declared.asks.Ask.{Ask}
use Rattle.oak_doc.specs.declared.asks.Ask.TheVariants as ask
use Rattle.oak_doc.specs.declared.asks.MemoryAsk.TheVariants as memory
use Rattle.oak_doc.specs.declared.asks.Reply.{Reply}
use Rattle.oak_doc.specs.declared.asks.Reply.TheVariants as reply
use Rattle.oak_doc.specs.declared.update.Kept.{Kept}
use Rattle.oak_doc.specs.declared.update.Kept.TheVariants as kept
use Rattle.oak_read.specs.Wanted.{listed}
use Rattle.oak_commit.specs.Writing.{last_op, write_op, written_ids}
use Rattle.oak_commit.specs.Clashing.{Met, Writer, found, mark_op}
use Rattle.oak_commit.specs.Looking.{with_found}
use Rattle.oak_commit.specs.Meeting.{root_in}
use Rattle.oak_commit.specs.declared.look.Look.{Look}
use Rattle.oak_commit.specs.declared.outcome.CommitEnd.{CommitEnd}
use Rattle.oak_commit.specs.declared.outcome.CommitEnd.TheVariants as end

-- a committer
pub record Committing : Type 0 where
  -- the revision that it commits, and its base
  pub revision : Revision
  pub base : RevVec
  -- what it is to write
  pub edit : Edit
  pub marks : List MarkAt
  -- where it stands with that
  pub writer : Writer
  -- the commit roots on which the marks to make go, in their order
  pub roots : List Path
  -- the look at the document that was written last, while a previous one is asked for
  pub looking : Option Look
  -- how it ends, once that is settled
  pub outcome : Option CommitEnd
  -- whether the memory has ended it
  pub ended : Bool

-- the paths of the marked nodes, in store order of their documents
abbrev pub written_paths : List MarkAt → List Path
written_paths ms = map names_of (written_ids ms)

-- a committer that has drawn its revision
abbrev pub begun : Revision → RevVec → Edit → List MarkAt → Committing
begun r base edit ms = record {
  revision = r;
  base = base;
  edit = edit;
  marks = ms;
  writer = record { paths = written_paths ms; left = written_paths ms; written = []; due = []; undoing = false; wants = false };
  roots = [];
  looking = None;
  outcome = None;
  ended = false;
}

-- ---- what it asks for

-- the first of some paths
abbrev pub first_path : List Path → Path
first_path [] = []
first_path (p ∷ ps) = p

module _ (c : Committing) where
  -- behind all updates: the end in the node's memory, and then nothing
  abbrev pub end_due : Ask
  end_due = cond c.ended ask.Done (ask.Memory (memory.Finish c.revision))

  -- the next document, or behind all of them the commit point
  abbrev pub write_due : List Path → Ask
  write_due (p ∷ ps) = ask.Update (write_op c.revision c.edit.writes c.marks p)
  write_due [] = ask.Update (last_op c.revision c.marks)

  -- first the marks of what was found
  abbrev pub mark_due : List Met → Ask
  mark_due (f ∷ fs) = ask.Update (mark_op (first_path c.roots) f.other c.revision f.theirs)
  mark_due [] = write_due c.writer.left

  -- first the previous documents of the one that was written
  abbrev pub look_due : Option Look → Ask
  look_due (Some k) = ask.Find k.first
  look_due None = mark_due c.writer.due

  -- the first document that is written and not undone
  abbrev pub undo_due : List Path → Ask
  undo_due (p ∷ ps) = ask.Undo c.revision
  undo_due [] = end_due

  -- what is due, by how it ends
  abbrev pub due_by : Option CommitEnd → Ask
  due_by None = look_due c.looking
  due_by (Some (end.Committed r)) = end_due
  due_by (Some (end.Clash item o)) = undo_due c.writer.written
  due_by (Some end.Memory) = undo_due c.writer.written

-- what is due
abbrev pub due_of : Committing → Ask
due_of c = due_by c c.outcome

-- the ask is for an undoing in a document
abbrev pub asks_undo : Ask → Bool
asks_undo (ask.Undo r) = true
asks_undo _ = false

-- the id of the first document that is written and not undone
abbrev pub undo_id : Committing → Option DocId
undo_id c = option_map id.Node (slice_get c.writer.written 0)

-- ---- what it keeps

-- it turns to undoing, and nothing more is due
abbrev pub stopped : Writer → Writer
stopped w = record w { due = []; undoing = true }

-- refused, with its own item and the other
abbrev pub refused : Committing → Item → Revision → Committing
refused c item o = record c { writer = stopped c.writer; roots = []; outcome = Some (end.Clash item o) }

-- it undoes for want of memory
abbrev pub wanting : Committing → Committing
wanting c = record c { writer = record (stopped c.writer) { wants = true }; roots = []; looking = None; outcome = Some end.Memory }

-- memory is refused before the commit point: it undoes, if it doesn't yet
abbrev pub without_memory : Committing → Committing
without_memory c = by c.outcome
  where
    by : Option CommitEnd → Committing
    by None = wanting c
    by (Some e) = c

-- past the commit point
abbrev pub is_past : Option CommitEnd → Bool
is_past None = false
is_past (Some (end.Committed r)) = true
is_past (Some (end.Clash item o)) = false
is_past (Some end.Memory) = false

-- the commit roots of what was found in a document, each as the document notes it
abbrev pub roots_in : Option Document → List Met → List Path
roots_in None fs = []
roots_in (Some d) fs = map (λ f. root_in d f.other) fs

-- what is met in the document of the node at p is to be marked
abbrev pub meeting : Committing → Path → Option Document → Committing
meeting c p doc = record c {
  writer = record c.writer { due = found c.base c.revision p c.marks doc };
  roots = roots_in doc (found c.base c.revision p c.marks doc);
  looking = None;
}

-- the document of the node at p, with what moved put back so far, is looked at once more: the next previous document is asked for, or behind all of them what is met is to be marked
abbrev pub looking_on : Committing → Path → Document → List DocId → Committing
looking_on c p d [] = meeting c p (Some d)
looking_on c p d (i ∷ is) = record c { looking = Some (record { document = d; first = i; rest = is }) }

module _ (c : Committing) where
  -- the document of the node at p is written
  abbrev pub wrote : Path → List Path → Committing
  wrote p ps = record c { writer = record c.writer { left = ps; written = c.writer.written ++ p ∷ [] } }

  -- it is written, and what is met in it, as it was before, is to be marked: no previous document is looked at
  abbrev pub written_alone : Path → List Path → Option Document → Committing
  written_alone p ps before = meeting (wrote p ps) p before

  -- it is written, and what is met in it, as it was before, is to be marked, once the previous documents that it listed are looked at
  abbrev pub written : Path → List Path → Option Document → Committing
  written p ps None = written_alone p ps None
  written p ps (Some d) = looking_on (wrote p ps) p d (listed p d)

  -- the next document is written, or the last write is made, which commits
  abbrev pub written_by : List Path → Option Document → Committing
  written_by (p ∷ ps) before = written p ps before
  written_by [] before = record c { outcome = Some (end.Committed c.revision) }

  -- the update that was due is made: a mark, or one of these
  abbrev pub advanced_by : List Met → Option Document → Committing
  advanced_by (f ∷ fs) before = record c { writer = record c.writer { due = fs }; roots = drop 1 c.roots }
  advanced_by [] before = written_by c.writer.left before

  -- the update that was due is made, on the document as it was before
  abbrev pub advanced : Option Document → Committing
  advanced before = advanced_by c.writer.due before

  -- the condition of the update that was due is false: of a mark, since the other is committed; or of the last write, since a collision is kept
  abbrev pub blocked : Kept → Committing
  blocked k = by_due c.writer.due
    where
      by_kept : Kept → Committing
      by_kept (kept.Entry o item) = refused c item o
      by_kept (kept.Number n) = c
      by_kept kept.Nothing = c

      by_left : List Path → Committing
      by_left (p ∷ ps) = c
      by_left [] = by_kept k

      by_due : List Met → Committing
      by_due (f ∷ fs) = refused c f.mine f.other
      by_due [] = by_left c.writer.left

  -- the update that was due is answered
  abbrev pub fed_update : Reply → Committing
  fed_update (reply.Updated before) = advanced before
  fed_update (reply.Unmet cond k) = blocked k
  fed_update reply.NoMemory = wanting c
  fed_update _ = c

  -- a previous document is found, or it is gone, which is as if it were empty
  abbrev pub fed_look : Look → Reply → Committing
  fed_look k (reply.Found previous) = looking_on c (names_of k.first) (with_found k.document previous) k.rest
  fed_look k _ = c

  -- before the commit point
  abbrev pub going_by : Option Look → Reply → Committing
  going_by None r = fed_update r
  going_by (Some k) r = fed_look k r

  -- before the commit point a reply comes, of a look under way or of an update
  abbrev pub fed_going : Reply → Committing
  fed_going r = going_by c.looking r

  -- all that was to be written or undone is
  abbrev pub fed_end : Reply → Committing
  fed_end reply.Finished = record c { ended = true }
  fed_end _ = c

  -- the first document that is written and not undone is undone
  abbrev pub with_undone : Committing
  with_undone = record c { writer = record c.writer { written = drop 1 c.writer.written } }

  -- it is ended, where nothing is left to undo
  abbrev pub ended_by : List Path → Committing
  ended_by [] = record c { ended = true }
  ended_by (p ∷ ps) = c

  -- while it undoes
  abbrev pub fed_undoing : Reply → Committing
  fed_undoing reply.Undone = with_undone
  fed_undoing reply.Finished = ended_by c.writer.written
  fed_undoing _ = c

  -- a reply comes to a committer, by how it ends: still open, committed, or to be undone
  abbrev pub fed_by : Option CommitEnd → Reply → Committing
  fed_by None r = fed_going r
  fed_by (Some (end.Committed o)) r = fed_end r
  fed_by (Some (end.Clash item o)) r = fed_undoing r
  fed_by (Some end.Memory) r = fed_undoing r

-- what a committer keeps after a reply to what was due
abbrev pub fed : Committing → Reply → Committing
fed c r = fed_by c c.outcome r

-- the reply tells of a document in which the committer looks for others: the one before its write, or a previous one
abbrev pub looks_at : Committing → Reply → Bool
looks_at c r = by c.outcome c.looking c.writer.due c.writer.left r
  where
    by : Option CommitEnd → Option Look → List Met → List Path → Reply → Bool
    by None None [] (p ∷ ps) (reply.Updated before) = true
    by None (Some k) fs ps (reply.Found previous) = true
    by _ _ _ _ _ = false
