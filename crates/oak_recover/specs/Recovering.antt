-- A recovery: what it asks for, and what it keeps after a reply.
use Rattle.std.specs.Prelude.{◌≡◌, ℕ, ◌+◌, ◌^◌, ◌-◌, min, Bool, true, false, cond, ◌==◌, nat_lt, List, [], ◌∷◌, ◌++◌, length, Option, None, Some, slice_get, option_to_list, IsTrue}
use Rattle.std.specs.Option.{option_and_then, option_map, option_map_or, unwrap_or}
use Rattle.std.specs.declared.alloc.Global.{Global}
use Rattle.jr_path.specs.Ids.{node_path}
use Rattle.jr_path.specs.declared.path.Path.{Path}
use Rattle.jr_path.specs.declared.path.DocId.{DocId}
use Rattle.jr_path.specs.declared.path.DocId.TheVariants as id
use Rattle.jr_rev.specs.declared.revision.Revision.{Revision}
use Rattle.jr_rev.specs.declared.vector.RevVec.{RevVec}
use Rattle.jr_rev.specs.Revisions.{is_before}
use Rattle.jr_rev.specs.Vectors.{entry, start_of}
use Rattle.oak_doc.specs.declared.document.Document.{Document}
use Rattle.oak_doc.specs.declared.asks.Ask.{Ask}
use Rattle.oak_doc.specs.declared.asks.Ask.TheVariants as ask
use Rattle.oak_doc.specs.declared.asks.MemoryAsk.TheVariants as memory
use Rattle.oak_doc.specs.declared.asks.Recovered.{Recovered}
use Rattle.oak_doc.specs.declared.asks.Reply.{Reply}
use Rattle.oak_doc.specs.declared.asks.Reply.TheVariants as reply
use Rattle.oak_doc.specs.declared.update.UpdateOp.{UpdateOp}
use Rattle.oak_doc.specs.declared.update.Change.TheVariants as change
use Rattle.oak_checkpoint.specs.Settings.{drop_readers_op}
use Rattle.oak_sync.specs.Publishing.{back_op}
use Rattle.oak_sync.specs.Upward.{AreUpward}
use Rattle.oak_recover.specs.Reading.{Doubts, root_answered, unread_document, read_of, with_later, without_doubt}
use Rattle.oak_recover.specs.declared.recovery.Recovery.{Recovery}
use Rattle.oak_recover.specs.declared.recovery.Step.{Step}
use Rattle.oak_recover.specs.declared.recovery.Step.TheVariants as step
use Rattle.oak_recover.specs.declared.stage.Stage.{Stage}
use Rattle.oak_recover.specs.declared.stage.Stage.TheVariants as stage

-- a recovery of cluster node k, whose sessions these are, by a session whose pin has this sweep vector
abbrev pub begun : Global → ℕ → List ℕ → RevVec → Recovery
begun a k sessions t = record {
  alloc = a;
  sessions = sessions;
  sweep = t;
  after = record { cluster = k; last = start_of k };
  upto = start_of k;
  undone = 0;
  reading = unread_document;
  noted = [];
  paths = [];
  written = 0;
  step = step.Root;
}

-- how far the stopped node has published, by the root's document; its start where that has no entry of it
abbrev pub published_in : ℕ → Option Document → Revision
published_in k root = unwrap_or (option_and_then (λ d. entry d.last_rev k) root) (start_of k)

-- the root is told: what is published is swept
abbrev pub publish_op : Revision → UpdateOp
publish_op r = record { id = id.Node []; create = false; cond = None; changes = change.LastRev r ∷ change.SweepRev r ∷ [] }

-- the document of a node is told what is published, and the root that it is swept too
abbrev pub told_op : Path → Revision → UpdateOp
told_op p r = cond (length p == 0) (publish_op r) (back_op p r)

-- what is due
abbrev pub due : Recovery → Ask
due s = by s.step
  where
    by : Step → Ask
    by step.Root = ask.Find (id.Node [])
    by step.First = ask.NextAfter None
    by step.Next = ask.NextAfter (Some s.reading.at)
    by step.Status = ask.Find s.reading.asked
    by (step.Undo r) = ask.Undo r
    by step.Memory = ask.Memory (memory.Recover s.after.cluster)
    by step.Back = option_map_or (λ p. ask.Update (told_op p s.upto)) (slice_get s.paths s.written) ask.Done
    by step.Settings = ask.Update (drop_readers_op s.sessions)
    by step.Done = ask.Done

-- the document in which a dead revision is to be undone
abbrev pub dead_id : Recovery → DocId
dead_id s = s.reading.at

-- the update of a document below the root, or of the root
abbrev pub back_stage : Option Path → Stage
back_stage (Some p) = cond (length p == 0) stage.Publish stage.Write
back_stage None = stage.Done

-- the stage in which a recovery stands
abbrev pub stage_of : Recovery → Stage
stage_of s = by s.step
  where
    by : Step → Stage
    by step.Root = stage.Document
    by step.First = stage.Document
    by step.Next = stage.Document
    by step.Status = stage.Read
    by (step.Undo r) = stage.Undo
    by step.Memory = stage.Memory
    by step.Back = back_stage (slice_get s.paths s.written)
    by step.Settings = stage.Settings
    by step.Done = stage.Done

-- ---- what it keeps

-- the root is read: whatever is behind what it has published is looked at
abbrev pub fed_root : Recovery → Option Document → Recovery
fed_root s found = let l = published_in s.after.cluster found in record s { after = record s.after { last = l }; upto = l; step = step.First }

-- the document that was read last is passed: it is noted, where it has a committed revision
abbrev pub passed_with : Recovery → Option Revision → Recovery
passed_with s None = s
passed_with s (Some r) = record s { upto = unwrap_or (with_later (Some s.upto) r) r; noted = s.noted ++ option_to_list (node_path s.reading.at) }

-- the document that was read last is passed, with the latest committed revision that it has
abbrev pub passed : Recovery → Recovery
passed s = passed_with s s.reading.committed

-- next a dead revision is undone, and behind the last of them the next document is read
abbrev pub undoing : Recovery → Recovery
undoing s = by s.reading.doubts
  where
    by : Doubts → Recovery
    by [] = record s { step = step.Next }
    by (e ∷ es) = record s { step = step.Undo e.0 }

-- next the first of the commit roots that are left is asked; behind them, what is in doubt is dead
abbrev pub on_next_status : Recovery → Recovery
on_next_status s = by s.reading.left
  where
    by : List (DocId × Unit {0}) → Recovery
    by [] = undoing s
    by (x ∷ xs) = record s { reading = record s.reading { asked = x.0; left = xs }; step = step.Status }

-- the document is that of a node
abbrev pub node_document : Option Document → Option Document
node_document found = option_and_then (λ d. option_map (λ p. d) (node_path d.id)) found

-- the next document, or none
abbrev pub fed_next : Recovery → Option Document → Recovery
fed_next s None = record (passed s) { step = step.Memory }
fed_next s (Some d) = on_next_status (record (passed s) { reading = read_of s.sweep s.after.cluster s.after.last d })

-- the commit root that was asked, or none
abbrev pub fed_status : Recovery → Option Document → Recovery
fed_status s found = on_next_status (record s { reading = root_answered s.reading s.reading.asked found })

-- one undo more
abbrev pub one_more : ℕ → ℕ
one_more n = min (n + 1) (2 ^ 64 - 1)

-- the dead revision is undone
abbrev pub fed_undone : Recovery → Revision → Recovery
fed_undone s r = undoing (record s { undone = one_more s.undone; reading = without_doubt s.reading r })

-- what the root, which was so before, says of cluster node k once it was told u: u, or what it said before where that is later
abbrev pub upto_told : ℕ → Revision → Option Document → Revision
upto_told k u before = option_map_or (λ r. cond (is_before u r) r u) (option_and_then (λ d. entry d.last_rev k) before) u

-- what is published, once the next document, which was so before, is told: the root alone says it
abbrev pub upto_after : Recovery → Option Document → Revision
upto_after s before = option_map_or (λ p. cond (length p == 0) (upto_told s.after.cluster s.upto before) s.upto) (slice_get s.paths s.written) s.upto

-- the update of a document, which was so before, is made, or there is none; behind the last one come the settings
abbrev pub document_told : Recovery → Option Document → Recovery
document_told s before = record s { upto = upto_after s before; written = s.written + 1; step = cond (nat_lt (s.written + 1) (length s.paths)) step.Back step.Settings }

-- the update that was due is made, of a document or of the settings, or there was none
abbrev pub fed_update : Recovery → Option Document → Recovery
fed_update s before = by s.step
  where
    by : Step → Recovery
    by step.Back = cond (nat_lt s.written (length s.paths)) (document_told s before) s
    by step.Settings = record s { step = step.Done }
    by _ = s

-- the document that was due is found, or there is none
abbrev pub fed_found : Recovery → Option Document → Recovery
fed_found s found = by s.step
  where
    by : Step → Recovery
    by step.Root = fed_root s found
    by step.First = fed_next s (node_document found)
    by step.Next = fed_next s (node_document found)
    by step.Status = fed_status s found
    by _ = s

-- what it keeps after a reply; once the memory is recovered, these are the paths of what is to be told
abbrev pub fed : List Path → Recovery → Reply → Recovery
fed up s (reply.Found found) = fed_found s found
fed up s reply.Undone = by s.step
  where
    by : Step → Recovery
    by (step.Undo r) = fed_undone s r
    by _ = s
fed up s reply.Recovered = by s.step
  where
    by : Step → Recovery
    by step.Memory = record s { paths = up; written = 0; step = step.Back }
    by _ = s
fed up s (reply.Updated before) = fed_update s before
fed up s reply.Absent = fed_update s None
fed up s _ = s

-- the memory is recovered
abbrev pub is_memory_recovered : Recovery → Reply → Bool
is_memory_recovered s reply.Recovered = by s.step
  where
    by : Step → Bool
    by step.Memory = true
    by _ = false
is_memory_recovered s _ = false

-- t is what s keeps after a reply: what is to be told are the noted documents and all that is above them
pub record Feeds (s : Recovery) (r : Reply) (t : Recovery) : Type 0 where
  pub fed : t ≡ fed t.paths s r
  pub upward : IsTrue (is_memory_recovered s r) → AreUpward s.noted t.paths

-- how it ended
abbrev pub recovery_end : Recovery → Recovered
recovery_end s = record { upto = s.upto; undone = s.undone }
