-- What is asked of documents, and answered; and where a session reads by its node's memory.
use Rattle.std.specs.Prelude.{ℕ, All, Option, Result, Ok, Err}
use Rattle.std.specs.Option.{option_map_or}
use Rattle.jr_path.specs.Grammar.{IsName}
use Rattle.jr_path.specs.declared.path.DocId.{DocId}
use Rattle.jr_rev.specs.declared.vector.RevVec.{RevVec}
use Rattle.oak_doc.specs.declared.asks.Ask.{Ask}
use Rattle.oak_doc.specs.declared.asks.Ask.TheVariants as ask
use Rattle.oak_doc.specs.declared.asks.Reply.{Reply}
use Rattle.oak_doc.specs.declared.asks.Reply.TheVariants as reply
use Rattle.oak_doc.specs.declared.document.Document.{Document}
use Rattle.oak_doc.specs.declared.update.OpFault.{OpFault}
use Rattle.oak_doc.specs.declared.update.OpFault.TheVariants as fault
use Rattle.oak_doc.specs.declared.update.UpdateOp.{UpdateOp}
use Rattle.oak_doc.specs.Updates.{updated}
use Rattle.oak_node.specs.Memory.{NodeState}
use Rattle.oak_node.specs.Pins.{pin_of}
use Rattle.oak_read.specs.Meaning.{path_of}
use Rattle.oak_read.specs.Reading.{answer}
use Rattle.oak_store.specs.Tables.{Table, found, next_number}
use Rattle.core_world.specs.Steps.{after_update}

-- ---- documents

-- the names of the id's path are names
abbrev pub AreIdNames : DocId → Type 0
AreIdNames x = All IsName (path_of x)

-- what an update makes of its document, under the next number
abbrev pub result_of : Table → UpdateOp → Result Document OpFault
result_of t op = updated (found t op.id) op (next_number t)

-- ---- what automata ask of them

-- the answer to an update of a document that was so before, by what the update comes to
abbrev pub replied : Option Document → Result Document OpFault → Reply
replied before (Ok d) = reply.Updated before
replied before (Err (fault.Unmet cause thing)) = reply.Unmet cause thing
replied before (Err fault.Absent) = reply.Absent
replied before (Err fault.Memory) = reply.NoMemory

-- what the documents answer to an update
abbrev pub reply_of : Table → UpdateOp → Reply
reply_of t op = replied (found t op.id) (result_of t op)

-- what the documents answer to an ask
abbrev pub answered_by : Table → Ask → Reply
answered_by t (ask.Update op) = reply_of t op
answered_by t a = answer t.documents a

-- the documents once an ask is answered: only an update changes them
abbrev pub after_ask : Table → Ask → Table
after_ask t (ask.Update op) = after_update t op
after_ask t a = t

-- ---- the memory

-- the base of session s: that of its pin
abbrev pub pinned_base : NodeState → ℕ → RevVec
pinned_base m s = option_map_or (λ pin. pin.base) (pin_of m s) m.head
