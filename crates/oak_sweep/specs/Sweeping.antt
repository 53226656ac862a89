-- A sweep: what it asks for, and what it keeps after a reply.
use Rattle.std.specs.Prelude.{ℕ, false, [], ◌∷◌, Option, None, Some}
use Rattle.std.specs.Option.{option_and_then, option_map_or, unwrap_or}
use Rattle.std.specs.declared.alloc.Global.{Global}
use Rattle.jr_path.specs.Ids.{node_path}
use Rattle.jr_path.specs.declared.path.Path.{Path}
use Rattle.jr_path.specs.declared.path.DocId.{DocId}
use Rattle.jr_path.specs.declared.path.DocId.TheVariants as id
use Rattle.jr_rev.specs.declared.revision.Revision.{Revision}
use Rattle.jr_rev.specs.Vectors.{entry, no_entries, start_of, raised}
use Rattle.oak_doc.specs.declared.document.Document.{Document}
use Rattle.oak_doc.specs.declared.asks.Ask.{Ask}
use Rattle.oak_doc.specs.declared.asks.Ask.TheVariants as ask
use Rattle.oak_doc.specs.declared.asks.MemoryAsk.TheVariants as memory
use Rattle.oak_doc.specs.declared.asks.Reply.{Reply}
use Rattle.oak_doc.specs.declared.asks.Reply.TheVariants as reply
use Rattle.oak_doc.specs.declared.update.UpdateOp.{UpdateOp}
use Rattle.oak_doc.specs.declared.update.Change.TheVariants as change
use Rattle.oak_sweep.specs.declared.sweeper.Sweeper.{Sweeper}
use Rattle.oak_sweep.specs.declared.sweeper.Step.{Step}
use Rattle.oak_sweep.specs.declared.sweeper.Step.TheVariants as step
use Rattle.oak_sweep.specs.declared.stage.Stage.{Stage}
use Rattle.oak_sweep.specs.declared.stage.Stage.TheVariants as stage

-- a sweep of a cluster node that has read nothing
abbrev pub begun : Global → ℕ → Sweeper
begun a cluster = record { alloc = a; cluster = cluster; target = start_of cluster; step = step.Root }

-- how far the cluster node has published, by the root's document; its start where that has no entry of it
abbrev pub target_in : ℕ → Option Document → Revision
target_in cluster root = unwrap_or (option_and_then (λ d. entry d.last_rev cluster) root) (start_of cluster)

-- the path of the node whose document was found
abbrev pub node_found : Option Document → Option Path
node_found found = option_and_then (λ d. node_path d.id) found

-- the update of the root's document: it raises the entry of `_sweepRev`, and makes no document
abbrev pub sweep_op : Revision → UpdateOp
sweep_op target = record { id = id.Node []; create = false; cond = None; changes = change.SweepRev target ∷ [] }

-- what is due: the root's document, one document behind another, the update of the root, and that the memory learns the own entry of the sweep vector, alone
abbrev pub due : Sweeper → Ask
due s = by s.step
  where
    by : Step → Ask
    by step.Root = ask.Find (id.Node [])
    by step.First = ask.NextAfter None
    by (step.Behind p) = ask.NextAfter (Some (id.Node p))
    by step.Publish = ask.Update (sweep_op s.target)
    by step.Learn = ask.Memory (memory.Learn no_entries (raised no_entries s.target))
    by step.Done = ask.Done

-- the stage of a sweep, by the step that it has due
abbrev pub stage_of : Sweeper → Stage
stage_of s = by s.step
  where
    by : Step → Stage
    by step.Root = stage.Root
    by step.First = stage.Document
    by (step.Behind p) = stage.Document
    by step.Publish = stage.Publish
    by step.Learn = stage.Learn
    by step.Done = stage.Done

-- a node's document is passed; behind the last one the root is told
abbrev pub node_passed : Sweeper → Option Path → Sweeper
node_passed s node = record s { step = option_map_or step.Behind node step.Publish }

-- the update of the root's document is made, or there is none
abbrev pub told : Sweeper → Sweeper
told s = by s.step
  where
    by : Step → Sweeper
    by step.Publish = record s { step = step.Learn }
    by _ = s

-- what it keeps after a reply
abbrev pub fed : Sweeper → Reply → Sweeper
fed s (reply.Found found) = by s.step
  where
    by : Step → Sweeper
    by step.Root = record s { target = target_in s.cluster found; step = step.First }
    by step.First = node_passed s (node_found found)
    by (step.Behind p) = node_passed s (node_found found)
    by _ = s
fed s (reply.Updated before) = told s
fed s reply.Absent = told s
fed s reply.Learnt = by s.step
  where
    by : Step → Sweeper
    by step.Learn = record s { step = step.Done }
    by _ = s
fed s _ = s
