-- A background write: what it asks for, and what it keeps after a reply.
use Rattle.std.specs.Prelude.{◌≡◌, ◌+◌, false, cond, ◌==◌, nat_lt, [], ◌∷◌, length, None, slice_get}
use Rattle.std.specs.Option.{option_map_or}
use Rattle.std.specs.declared.alloc.Global.{Global}
use Rattle.jr_path.specs.declared.path.Path.{Path}
use Rattle.jr_path.specs.declared.path.DocId.TheVariants as id
use Rattle.jr_rev.specs.declared.revision.Revision.{Revision}
use Rattle.oak_doc.specs.declared.asks.Ask.{Ask}
use Rattle.oak_doc.specs.declared.asks.Ask.TheVariants as ask
use Rattle.oak_doc.specs.declared.asks.Reply.{Reply}
use Rattle.oak_doc.specs.declared.asks.Reply.TheVariants as reply
use Rattle.oak_doc.specs.declared.update.UpdateOp.{UpdateOp}
use Rattle.oak_doc.specs.declared.update.Change.TheVariants as change
use Rattle.oak_node.specs.declared.pending.Pending.{Pending}
use Rattle.oak_sync.specs.Upward.{AreUpward}
use Rattle.oak_sync.specs.declared.back_write.BackWrite.{BackWrite}
use Rattle.oak_sync.specs.declared.stage.Stage.{Stage}
use Rattle.oak_sync.specs.declared.stage.Stage.TheVariants as stage

-- a background write that has written nothing, of the pending paths with all that is above them
pub record HasWrittenNothing (alloc : Global) (pending : Pending) (b : BackWrite) : Type 0 where
  pub paths : AreUpward pending.paths b.paths
  pub state : b ≡ record { alloc = alloc; upto = pending.upto; paths = b.paths; written = 0 }

-- the write of the document of the node at p: it raises the entry of `_lastRev`, and makes no document
abbrev pub back_op : Path → Revision → UpdateOp
back_op p upto = record { id = id.Node p; create = false; cond = None; changes = change.LastRev upto ∷ [] }

-- what is due: the write of the next document, as long as there is one
abbrev pub due : BackWrite → Ask
due b = option_map_or (λ p. ask.Update (back_op p b.upto)) (slice_get b.paths b.written) ask.Done

-- the write of the root's document publishes
abbrev pub write_stage : Path → Stage
write_stage p = cond (length p == 0) stage.Publish stage.Write

-- which kind of operation is due
abbrev pub stage_of : BackWrite → Stage
stage_of b = option_map_or write_stage (slice_get b.paths b.written) stage.Done

-- one more document is done
abbrev pub went_on : BackWrite → BackWrite
went_on b = record b { written = cond (nat_lt b.written (length b.paths)) (b.written + 1) b.written }

-- what it keeps after a reply: the document is written, or there is none
abbrev pub fed : BackWrite → Reply → BackWrite
fed b (reply.Updated before) = went_on b
fed b reply.Absent = went_on b
fed b _ = b
