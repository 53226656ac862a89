-- A step of a split or a collection, as a step of the world.
use Rattle.std.specs.Prelude.{◌≡◌, ◌<◌, ◌++◌, [], ℕ, Option, Some, None, IsTrue, IsFalse}
use Rattle.jr_path.specs.declared.path.DocId.TheVariants as id
use Rattle.jr_path.specs.declared.path.Path.{Path}
use Rattle.jr_rev.specs.declared.vector.Pin.{Pin}
use Rattle.jr_rev.specs.declared.vector.RevVec.{RevVec}
use Rattle.oak_doc.specs.declared.document.Document.{Document}
use Rattle.oak_doc.specs.declared.document.PrevEntry.{PrevEntry}
use Rattle.oak_doc.specs.declared.update.UpdateOp.{UpdateOp}
use Rattle.oak_machine.specs.declared.event.Event.{Event}
use Rattle.oak_machine.specs.declared.event.StepKind.{StepKind}
use Rattle.oak_machine.specs.declared.event.StepKind.TheVariants as kind
use Rattle.oak_machine.specs.Steps.{is_kind}
use Rattle.oak_machine.specs.Laws.{Says, Starts}
use Rattle.oak_machine.specs.Runs.{MayFollow, is_task_end}
use Rattle.oak_port.specs.declared.task.TaskEnd.{TaskEnd}
use Rattle.oak_prev.specs.Splits.{IsInOrder}
use Rattle.oak_read.specs.Meaning.{Documents, documents_in}
use Rattle.oak_store.specs.Tables.{next_number}
use Rattle.oak_tidy.specs.declared.tidying.Tidying.{Tidying}
use Rattle.oak_tidy.specs.Replies.{all_parts, table_after}
use Rattle.oak_tidy.specs.Tidyings.{TidiesTo, tidied_on, tidy_events, tidying_ask}
use Rattle.core_keep.specs.Formers.{Former, Formers, FormersGrow, IsCopyOf}
use Rattle.core_tidy.specs.Beside.{LetsTidy}
use Rattle.core_tidy.specs.Splitting.{IsBehind}
use Rattle.core_tidy.specs.Tidying.{AreTidying, KeepsCopy, reader_of}
use Rattle.core_world.specs.Collecting.{MayPrune, MayRemove, MayRemovePrevious, MaySplit}
use Rattle.core_world.specs.Collecting.{after_copied, after_pruned, after_removed, after_split}
use Rattle.core_world.specs.Collecting.{after_taken_back}
use Rattle.core_world.specs.Held.{MayTakeBound, after_bound}
use Rattle.core_world.specs.Kept.{IsKept}
use Rattle.core_world.specs.Numbers.{last_number}
use Rattle.core_world.specs.States.{State, history_in, with_session}
use Rattle.core_world.specs.Steps.{after_went, with_reader}

-- what tidies is this after a step in a world
abbrev pub tidied_in : State → Tidying → Tidying
tidied_in w x = tidied_on (all_parts w.table w.memories []) x

-- the world after a step of session s, but for what is told of former documents: what is asked is
-- done and answered, with its event
abbrev pub after_tidied : State → ℕ → Tidying → State
after_tidied w s x = record w {
  past = tidy_events s x (tidied_in w x) ++ w.past;
  table = table_after w.table (tidying_ask x);
  reading = with_session w.reading s (reader_of (tidied_in w x));
}

-- the world with these former documents told of
abbrev pub told_of : State → Formers → State
told_of w formers = record w { formers = formers }

-- how a step of a split or a collection changes a world, and what lets it: not at all; by its event
-- alone; by a previous document that is written, listed or taken back; by a bound that is taken; or
-- by garbage that goes, a document, or a previous document that isn't listed
pub data Makes (w : State) (s : ℕ) (u : State) : Type 0 where
  Still : u ≡ w → Makes w s u
  Went : (k : StepKind) → u ≡ after_went w s k → IsFalse (is_kind k kind.End)
      → IsFalse (is_kind k kind.Pin) → Makes w s u
  Copied : (p : Path) (k : ℕ) (x : Document) → u ≡ after_copied w s p k x
      → documents_in w.table.documents (id.Prev k p) ≡ None
      → ((f : Former) → w.formers p k ≡ Some f → IsCopyOf p k f x)
      → x.mod_count ≡ next_number w.table → IsInOrder x → Makes w s u
  Listed : (read : Documents) (pin : Pin) (p : Path) (old : Document) (e : PrevEntry)
      → u ≡ after_split w s read pin p old e → MaySplit w read pin p old e
      → old.mod_count < last_number → Makes w s u
  TakenBack : (p : Path) (k : ℕ) → u ≡ after_taken_back w s (id.Prev k p)
      → MayRemovePrevious w p k → IsBehind w.table p k → Makes w s u
  Bound : (m t : RevVec) → u ≡ after_bound w m t → MayTakeBound w m t → Makes w s u
  Pruned : (m t : RevVec) (p : Path) (old : Document) (op : UpdateOp)
      → u ≡ after_pruned w s p old op → MayPrune w m t p old op → Makes w s u
  Removed : (m t : RevVec) (p : Path) (old : Document) → u ≡ after_removed w s (id.Node p)
      → MayRemove w m t p old → Makes w s u
  Unlisted : (p : Path) (k : ℕ) → u ≡ after_removed w s (id.Prev k p)
      → MayRemovePrevious w p k → IsBehind w.table p k → Makes w s u

-- the copy that such a step lists
abbrev pub lists_copy : {w u : State} {s : ℕ} → Makes w s u → Path → ℕ → Type 0
lists_copy (Listed read pin p old e is may early) q k = (p ≡ q) × (e.number ≡ k)
lists_copy _ q k = ⊥

-- a step of session s that does x, in a world where so much is told of former documents then: what
-- it makes, once the session reads no more as one that hasn't begun; that the world is kept, with
-- all that tidies in it, and that others go on; and where nothing more is due, how it ended may be
-- told
pub record IsTidyStep (starts : Starts) (says : Says) (w : State) (does : ℕ → Option Tidying)
    (s : ℕ) (x : Tidying) : Type 0 where
  pub formers : Formers
  pub grow : FormersGrow w.formers formers
  pub makes : Makes (with_reader w s None) s (told_of (after_tidied w s x) formers)
  pub kept : IsKept starts says (told_of (after_tidied w s x) formers)
  pub lets : LetsTidy w (told_of (after_tidied w s x) formers) (KeepsCopy x)
  pub tidying : AreTidying (told_of (after_tidied w s x) formers)
      (with_session does s (Some (tidied_in w x)))
  pub ends : (e : TaskEnd) (told : Event) → TidiesTo s (tidied_in w x) e told
      → IsTrue (is_task_end s told)
      × MayFollow starts says (history_in (told_of (after_tidied w s x) formers)) told
