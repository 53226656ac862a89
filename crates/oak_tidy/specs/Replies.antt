-- What documents and memories answer to what tidies documents, and what is left of them then.
use Rattle.std.specs.Prelude.{cond, List, Option, None, Some}
use Rattle.std.specs.Map.{values_of}
use Rattle.oak_doc.specs.declared.asks.Ask.{Ask}
use Rattle.oak_doc.specs.declared.asks.Ask.TheVariants as ask
use Rattle.oak_doc.specs.declared.asks.MemoryAsk.{MemoryAsk}
use Rattle.oak_doc.specs.declared.asks.MemoryAsk.TheVariants as memory
use Rattle.oak_doc.specs.declared.asks.Reply.{Reply}
use Rattle.oak_doc.specs.declared.asks.Reply.TheVariants as reply
use Rattle.oak_gc.specs.Bounding.{node_reply}
use Rattle.oak_gc.specs.Bounds.{Told}
use Rattle.oak_machine.specs.declared.event.Event.{Event}
use Rattle.oak_node.specs.Memory.{NodeState}
use Rattle.oak_node.specs.Pins.{pin_now}
use Rattle.oak_store.specs.Tables.{Table, after_removal, removal_of}
use Rattle.core_world.specs.States.{memory_at}
use Rattle.oak_acts.specs.Acts.{after_ask, answered_by}

-- the documents, the memories of the cluster nodes 1, 2 and so on, and the events
pub record AllParts : Type 0 where
  pub table : Table
  pub memories : List NodeState
  pub list : List Event

-- all that a step of tidying may change
abbrev pub all_parts : Table → List NodeState → List Event → AllParts
all_parts t ms es = record { table = t; memories = ms; list = es }

-- what a cluster node tells a collection: its head with its sweep vector, and its pins; one that is
-- recovered tells nothing
abbrev pub node_tells : NodeState → Option Told
node_tells m = cond m.recovered None (Some (record { head = pin_now m; pins = values_of m.pins }))

-- what the memories answer, which are asked for their pins alone
abbrev pub told_by_memories : List NodeState → MemoryAsk → Reply
told_by_memories ms (memory.Pins k) = node_reply (node_tells (memory_at ms k))
told_by_memories ms _ = reply.Learnt

-- what documents and memories answer to an ask
abbrev pub told_to : AllParts → Ask → Reply
told_to p (ask.RemoveIf i n) = reply.Removed (removal_of p.table i n)
told_to p (ask.Memory m) = told_by_memories p.memories m
told_to p a = answered_by p.table a

-- the documents once an ask is answered: an update changes one, and a removal takes one away
abbrev pub table_after : Table → Ask → Table
table_after t (ask.RemoveIf i n) = after_removal t i (removal_of t i n)
table_after t a = after_ask t a
