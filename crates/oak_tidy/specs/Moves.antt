-- The steps of what tidies documents as steps of a world.
use Rattle.std.specs.Prelude.{◌≡◌, ℕ, true, false, [], ◌∷◌, ◌++◌, Some, Ok, Err, IsTrue}
use Rattle.std.specs.declared.alloc.Global.{Global}
use Rattle.jr_path.specs.declared.path.DocId.{DocId}
use Rattle.jr_path.specs.declared.path.DocId.TheVariants as id
use Rattle.jr_path.specs.declared.path.Path.{Path}
use Rattle.jr_rev.specs.declared.vector.Pin.{Pin}
use Rattle.jr_rev.specs.declared.vector.RevVec.{RevVec}
use Rattle.oak_doc.specs.declared.asks.Ask.{Ask}
use Rattle.oak_doc.specs.declared.asks.Ask.TheVariants as ask
use Rattle.oak_doc.specs.declared.asks.MemoryAsk.TheVariants as memory
use Rattle.oak_doc.specs.declared.asks.RemoveOut.TheVariants as removal
use Rattle.oak_doc.specs.declared.asks.Reply.TheVariants as reply
use Rattle.oak_doc.specs.declared.document.Document.{Document}
use Rattle.oak_doc.specs.declared.document.PrevEntry.{PrevEntry}
use Rattle.oak_doc.specs.declared.update.OpFault.{OpFault}
use Rattle.oak_doc.specs.declared.update.UpdateOp.{UpdateOp}
use Rattle.oak_machine.specs.declared.event.Event.TheVariants as event
use Rattle.oak_machine.specs.declared.event.StepKind.{StepKind}
use Rattle.oak_machine.specs.declared.event.StepKind.TheVariants as kind
use Rattle.oak_machine.specs.History.{History, Past}
use Rattle.oak_machine.specs.Steps.{is_appended_by}
use Rattle.oak_gc.specs.Collecting as collecting
use Rattle.oak_gc.specs.Asking.{AsksForGarbage}
use Rattle.oak_gc.specs.Bounds.{root_pair}
use Rattle.oak_gc.specs.declared.collector.Collector.{Collector}
use Rattle.oak_gc.specs.declared.reading.Step.TheVariants as collect_step
use Rattle.oak_prev.specs.Splits.{main_write}
use Rattle.oak_prev.specs.Splitting as splitting
use Rattle.oak_read.specs.Meaning.{Documents, documents_in}
use Rattle.oak_store.specs.Tables.{removal_of}
use Rattle.core_world.specs.Bounding.{fed_node, fed_settings}
use Rattle.core_world.specs.Collecting.{after_change, after_copied, after_pruned, after_removed, after_split, without}
use Rattle.core_world.specs.Held.{after_bound, is_node_in}
use Rattle.core_world.specs.States.{State, memory_at, nodes_in}
use Rattle.core_world.specs.Steps.{after_went}
use Rattle.oak_acts.specs.Acts.{result_of}
use Rattle.oak_tidy.specs.declared.tidying.Tidying.{Tidying}
use Rattle.oak_tidy.specs.declared.tidying.Tidying.TheVariants as tidying
use Rattle.oak_tidy.specs.Replies.{table_after, told_by_memories}
use Rattle.oak_tidy.specs.Tidyings.{CanTidy, AsksToLook, kind_tidied, tidy_events}

-- the world once this is asked and done for session s, with these events, the newest first
abbrev pub after_asking : State → ℕ → Ask → Past → State
after_asking w s a es = record w { past = es ++ w.past; table = table_after w.table a }

-- ---- what changes nothing but the events

-- a reading step looks for a document
abbrev pub ReadsStay : Type 0
ReadsStay = (w : State) (s : ℕ) (a : Ask) → AsksToLook a → after_asking w s a [] ≡ w

-- a counted step looks for one, or a cluster node tells what it holds
abbrev pub LooksGo : Type 0
LooksGo = (w : State) (s : ℕ) (a : Ask) (y : StepKind) → AsksToLook a
    → after_asking w s a (event.Went s y ∷ []) ≡ after_went w s y

-- a cluster node tells what it holds, which changes nothing but the events
abbrev pub NodesTell : Type 0
NodesTell = (w : State) (s k : ℕ) (y : StepKind)
    → after_asking w s (ask.Memory (memory.Pins k)) (event.Went s y ∷ []) ≡ after_went w s y

-- an update is refused, or a document isn't removed
abbrev pub RefusalsGo : Type 0
RefusalsGo = (w : State) (s : ℕ) (op : UpdateOp) (fault : OpFault) (y : StepKind)
    → result_of w.table op ≡ Err fault
    → after_asking w s (ask.Update op) (event.Went s y ∷ []) ≡ after_went w s y

-- a document that has another number than was read stays
abbrev pub ChangedStay : Type 0
ChangedStay = (w : State) (s : ℕ) (i : DocId) (n found : ℕ) (y : StepKind)
    → removal_of w.table i n ≡ removal.Changed found
    → after_asking w s (ask.RemoveIf i n) (event.Went s y ∷ []) ≡ after_went w s y

-- a document that is gone already leaves the documents as they are
abbrev pub AbsentStay : Type 0
AbsentStay = (w : State) (s : ℕ) (i : DocId) (n : ℕ) (y : StepKind)
    → removal_of w.table i n ≡ removal.Absent
    → after_asking w s (ask.RemoveIf i n) (event.Went s y ∷ []) ≡ after_went w s y

-- ---- a split

-- the previous document is written
abbrev pub SplitsCopy : Type 0
SplitsCopy = (w : State) (s : ℕ) (p : Path) (k : ℕ) (x : Document) (op : UpdateOp)
    → op.id ≡ id.Prev k p → result_of w.table op ≡ Ok x
    → after_asking w s (ask.Update op) (event.Went s kind.Split ∷ []) ≡ after_copied w s p k x

-- what moved is taken from the document, which lists the previous one; what it was is noted too
abbrev pub SplitsList : Type 0
SplitsList = (w : State) (s : ℕ) (read : Documents) (pin : Pin) (p : Path) (old d : Document)
    (e : PrevEntry) → old.id ≡ id.Node p
    → documents_in w.table.documents (id.Node p) ≡ Some old
    → result_of w.table (main_write read pin old e) ≡ Ok d
    → let asked = ask.Update (main_write read pin old e) in
    record (after_asking w s asked (event.Went s kind.Split ∷ [])) {
      formers = (after_split w s read pin p old e).formers;
    } ≡ after_split w s read pin p old e

-- the previous document is removed again
abbrev pub SplitsUndo : Type 0
SplitsUndo = (w : State) (s : ℕ) (i : DocId) (n : ℕ) → removal_of w.table i n ≡ removal.Removed
    → after_asking w s (ask.RemoveIf i n) (event.Went s kind.Split ∷ [])
    ≡ after_change w s kind.Split (without w.table i)

-- ---- a collection

-- the bound is taken
abbrev pub BoundsGo : Type 0
BoundsGo = (w : State) (s : ℕ) (m t : RevVec)
    → after_asking w s (ask.Find id.Settings) (event.Bound m t ∷ []) ≡ after_bound w m t

-- what is asked of a document is what the bound says of it
abbrev pub CollectsGarbage : Type 0
CollectsGarbage = (clusters : ℕ) (x : Collector) → CanTidy clusters (tidying.Collect x)
    → AsksForGarbage x

-- garbage of a document is dropped
abbrev pub GarbageGoes : Type 0
GarbageGoes = (w : State) (s : ℕ) (p : Path) (old d : Document) (op : UpdateOp)
    → op.id ≡ id.Node p → documents_in w.table.documents (id.Node p) ≡ Some old
    → result_of w.table op ≡ Ok d
    → after_asking w s (ask.Update op) (event.Went s kind.Collect ∷ []) ≡ after_pruned w s p old op

-- a document goes
abbrev pub DocumentsGo : Type 0
DocumentsGo = (w : State) (s : ℕ) (i : DocId) (n : ℕ)
    → removal_of w.table i n ≡ removal.Removed
    → after_asking w s (ask.RemoveIf i n) (event.Went s kind.Collect ∷ []) ≡ after_removed w s i

-- ---- what is read of a world

-- a collection that has read the root begins with what that tells
abbrev pub BoundsBegin : Type 0
BoundsBegin = (w : State) (root : Document) (x : Collector) → x.step ≡ collect_step.Root
    → nodes_in w.table [] ≡ Some root
    → (collecting.fed x (reply.Found (nodes_in w.table []))).bound ≡ root_pair root

-- a cluster node lowers its bound to what it holds, and one that is recovered doesn't
abbrev pub NodesBound : Type 0
NodesBound = (w : State) (k : ℕ) (x : Collector) → x.step ≡ collect_step.Node k
    → IsTrue (is_node_in w.clusters k) → (memory_at w.memories k).recovered ≡ false
    → (collecting.fed x (told_by_memories w.memories (memory.Pins k))).bound
    ≡ fed_node w k x.bound

-- a recovered cluster node leaves the bound as it is
abbrev pub GonePass : Type 0
GonePass = (w : State) (k : ℕ) (x : Collector) → x.step ≡ collect_step.Node k
    → (memory_at w.memories k).recovered ≡ true
    → (collecting.fed x (told_by_memories w.memories (memory.Pins k))).bound ≡ x.bound

-- the settings lower it last
abbrev pub SettingsBound : Type 0
SettingsBound = (w : State) (x : Collector) → x.step ≡ collect_step.Settings
    → (collecting.fed x (reply.Found (documents_in w.table.documents id.Settings))).bound
    ≡ fed_settings w x.bound

-- ---- the events, and the first step

-- a step appends just the events of one step of its kind
abbrev pub AppendsItsEvents : Type 0
AppendsItsEvents = (h : History) (s : ℕ) (x y : Tidying)
    → IsTrue (is_appended_by h s (kind_tidied x) (tidy_events s x y))

-- what begins can make a step
abbrev pub SplitsBegin : Type 0
SplitsBegin = (clusters : ℕ) (a : Global) (pin : Pin) (p : Path)
    → CanTidy clusters (tidying.Split (splitting.begun a pin p))

-- a collection of so many cluster nodes may begin
abbrev pub CollectionsBegin : Type 0
CollectionsBegin = (clusters : ℕ) (a : Global)
    → CanTidy clusters (tidying.Collect (collecting.begun a clusters))
