-- What is kept of something that tidies while it alone steps.
use Rattle.std.proofs.Common.{◌≢◌, ◌++◌, ℕ, List, []}
use Rattle.oak_doc.specs.declared.asks.Ask.TheVariants as ask
use Rattle.oak_machine.specs.declared.event.Event.{Event}
use Rattle.oak_machine.specs.History.{Past}
use Rattle.oak_node.specs.Memory.{NodeState}
use Rattle.oak_port.specs.declared.task.TaskEnd.{TaskEnd}
use Rattle.oak_store.specs.Tables.{Table}
use Rattle.oak_tidy.specs.declared.tidying.Tidying.{Tidying}
use Rattle.oak_tidy.specs.Replies.{all_parts, table_after}
use Rattle.oak_tidy.specs.Tidyings.{TidiesTo, tidied_on, tidy_events, tidying_ask}

-- what it is after a step over these memories and documents
abbrev pub next_of : List NodeState → Table → Tidying → Tidying
next_of ms t x = tidied_on (all_parts t ms []) x

-- the events after a step of session s
abbrev pub events_with : ℕ → List NodeState → Table → Tidying → Past → Past
events_with s ms t x es = tidy_events s x (next_of ms t x) ++ es

-- what is said of it, of the documents and of the events so far is kept by each step; and once nothing more is due, something is said of what is told, of the documents and of the events
pub record IsKeptAlone (s : ℕ) (ms : List NodeState) (Is : Tidying → Table → Past → Type 0) (Ended : Event → Table → Past → Type 0) : Type 0 where
  pub goes : (x : Tidying) (t : Table) (es : Past) → Is x t es → tidying_ask (next_of ms t x) ≢ ask.Done
      → Is (next_of ms t x) (table_after t (tidying_ask x)) (events_with s ms t x es)
  pub ends : (x : Tidying) (t : Table) (es : Past) → Is x t es → (e : TaskEnd) (told : Event) → TidiesTo s (next_of ms t x) e told
      → Ended told (table_after t (tidying_ask x)) (events_with s ms t x es)
