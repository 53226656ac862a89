-- A background read: what it asks for, and what it keeps after a reply.
use Rattle.std.specs.Prelude.{[], Option, None, Some}
use Rattle.std.specs.declared.alloc.Global.{Global}
use Rattle.jr_path.specs.declared.path.DocId.TheVariants as id
use Rattle.jr_rev.specs.Vectors.{no_entries}
use Rattle.oak_doc.specs.declared.document.Document.{Document}
use Rattle.oak_doc.specs.declared.asks.Ask.{Ask}
use Rattle.oak_doc.specs.declared.asks.Ask.TheVariants as ask
use Rattle.oak_doc.specs.declared.asks.MemoryAsk.TheVariants as memory
use Rattle.oak_doc.specs.declared.asks.Reply.{Reply}
use Rattle.oak_doc.specs.declared.asks.Reply.TheVariants as reply
use Rattle.oak_sync.specs.declared.back_read.BackRead.{BackRead}
use Rattle.oak_sync.specs.declared.back_read.Step.{Step}
use Rattle.oak_sync.specs.declared.back_read.Step.TheVariants as step
use Rattle.oak_sync.specs.declared.stage.Stage.{Stage}
use Rattle.oak_sync.specs.declared.stage.Stage.TheVariants as stage

-- a background read that has read nothing
abbrev pub begun : Global → BackRead
begun a = record { alloc = a; step = step.Root; last = no_entries; sweep = no_entries }

-- what is due: the root's document, then that the memory learns both vectors
abbrev pub due : BackRead → Ask
due b = by b.step
  where
    by : Step → Ask
    by step.Root = ask.Find (id.Node [])
    by step.Learn = ask.Memory (memory.Learn b.last b.sweep)
    by step.Done = ask.Done

-- the stage in which a background read stands
abbrev pub stage_of : BackRead → Stage
stage_of b = by b.step
  where
    by : Step → Stage
    by step.Root = stage.Read
    by step.Learn = stage.Learn
    by step.Done = stage.Done

-- both vectors of the root's document are read; where there is none, nothing is published
abbrev pub with_root : BackRead → Option Document → BackRead
with_root b None = record b { step = step.Learn }
with_root b (Some root) = record b { step = step.Learn; last = root.last_rev; sweep = root.sweep_rev }

-- what it keeps after a reply
abbrev pub fed : BackRead → Reply → BackRead
fed b r = by b.step r
  where
    by : Step → Reply → BackRead
    by step.Root (reply.Found root) = with_root b root
    by step.Learn reply.Learnt = record b { step = step.Done }
    by _ _ = b
