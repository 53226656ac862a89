-- A step of a session that tidies nothing lets all that tidies go on.
use mathlib.Core.Bool.{false≢true}
use Rattle.std.proofs.Common.{◌≡◌, ◌⊎◌, inl, inr, ◌≤◌, ℕ, false, Option, Some, None, Result, Ok, Err, ◌++◌, refl, sym, ap, subst, ◌∙◌}
use Rattle.std.specs.Prelude.{◌==◌}
use Rattle.jr_path.specs.declared.path.Path.{Path}
use Rattle.oak_commit.specs.Committing.{Committing}
use Rattle.oak_commit.specs.declared.outcome.CommitEnd.TheVariants as end
use Rattle.oak_doc.specs.Updates.{updated}
use Rattle.oak_doc.specs.declared.document.Document.{Document}
use Rattle.oak_doc.specs.declared.update.OpFault.{OpFault}
use Rattle.oak_doc.specs.declared.update.UpdateOp.{UpdateOp}
use Rattle.oak_machine.specs.History.{History}
use Rattle.oak_machine.specs.Laws.{Says, Starts, StartsProper}
use Rattle.oak_machine.specs.declared.event.StepKind.TheVariants as kind
use Rattle.oak_node.specs.declared.pending.Pending.{Pending}
use Rattle.oak_port.specs.declared.task.StepOut.{StepOut}
use Rattle.oak_port.specs.declared.task.StepOut.TheVariants as answers
use Rattle.oak_port.specs.declared.task.TaskEnd.TheVariants as ends
use Rattle.oak_read.specs.Meaning.{documents_in}
use Rattle.oak_store.specs.Tables.{Table, found, next_number}
use Rattle.oak_sync.specs.declared.back_read.BackRead.{BackRead}
use Rattle.oak_sync.specs.declared.back_write.BackWrite.{BackWrite}
use Rattle.core_keep.specs.Steps.{IsMainAt}
use Rattle.core_tidy.specs.Beside.{IsWorldStep, LetsTidy}
use Rattle.core_tidy.specs.Ordered.{AreAllInOrder, IsTableStep}
use Rattle.core_tidy.specs.Tidying.{AreTidying}
use Rattle.core_tidy.proofs.Making.{IsMade, next_low, nothing, plain_made}
use Rattle.core_tidy.proofs.Ordered.{undo_order, update_order}
use Rattle.core_tidy.proofs.Whole.{others_tidy}
use Rattle.core_world.specs.Kept.{IsKept}
use Rattle.core_world.specs.Numbers.{last_number}
use Rattle.core_world.specs.States.{State, listed_at, node_of, nodes_in, with_session}
use Rattle.core_world.specs.Steps.{after_update, with_result}
use Rattle.oak_step.specs.Parts.{EndsSo}
use Rattle.oak_step.specs.declared.upkeep.Upkeep.{Upkeep}
use Rattle.oak_step.specs.declared.upkeep.Upkeep.TheVariants as upkeep
use Rattle.oak_step.specs.declared.work.Work.{Work}
use Rattle.oak_step.specs.declared.work.Work.TheVariants as work
use Rattle.oak_sweep.specs.Sweeping as sweeping
use Rattle.oak_sweep.specs.declared.sweeper.Sweeper.{Sweeper}
use Rattle.oak_tidy.specs.declared.tidying.Tidying.{Tidying}
use Rattle.oak_world.specs.Acting.{is_tidying}
use Rattle.oak_world.specs.Steps.{BeginsBackWrite, MakesBackRead, MakesBackWrite, MakesCommit, MakesState, MakesSweep, MakesUpkeep}
use Rattle.oak_world.specs.Worlds.{tidying_of}
use Rattle.oak_world.proofs.Changing.{IsChangedMain, SameNodes}
use Rattle.oak_world.proofs.Ordering.{IsKeptByUpdates, makes_keep}
use Rattle.oak_world.proofs.States.{session_same}
use Rattle.oak_world.proofs.StepsOf.{IsPlainStepOf}

-- ---- what the session does then

-- what a session does that tidies nothing is no split and no collection after its step either
module _ (s : ℕ) (w u : State) (x : Work) where
  abbrev IsQuiet : Type 0
  IsQuiet = tidying_of x ≡ None

  quiet : (y : Work) → x ≡ y → tidying_of y ≡ None → IsQuiet
  quiet y is none = ap tidying_of is ∙ none

  ends_quiet : (c : Committing) (o : StepOut) → EndsSo c x o → IsQuiet
  ends_quiet c (answers.Went kind.Finish) h = quiet _ h.1 refl
  ends_quiet c (answers.Ready (ends.Commit e)) h = quiet _ h.2 refl
  ends_quiet c _ h = absurd h

  commit_quiet : (c : Committing) (o : StepOut) → MakesCommit s w c u x o → IsQuiet
  commit_quiet c o (inl m) = quiet _ m.3 refl
  commit_quiet c o (inr (inl m)) = ends_quiet c o m.2
  commit_quiet c o (inr (inr m)) = quiet _ m.3 refl

  write_quiet : (b : BackWrite) (o : StepOut) → MakesBackWrite s w b u x o → IsQuiet
  write_quiet b (answers.Went kind.Back) h = quiet _ h.4 refl
  write_quiet b (answers.Ready (ends.Published r)) h = quiet _ h.3 refl
  write_quiet b answers.Memory h = quiet _ h.1 refl
  write_quiet b _ h = absurd h

  begin_quiet : (n : Pending) (o : StepOut) → BeginsBackWrite s w n u x o → IsQuiet
  begin_quiet n o (inl h) = quiet _ h.2 refl
  begin_quiet n o (inr h) = write_quiet h.1 o h.3

  read_quiet : (b : BackRead) (o : StepOut) → MakesBackRead s w b u x o → IsQuiet
  read_quiet b (answers.Went kind.Back) h = quiet _ h.2 refl
  read_quiet b (answers.Ready (ends.Learnt v)) h = quiet _ h.3 refl
  read_quiet b answers.Memory h = quiet _ h.1 refl
  read_quiet b _ h = absurd h

  sweep_quiet : (y : Sweeper) (o : StepOut) → MakesSweep s w y u x o → IsQuiet
  sweep_quiet y (answers.Went kind.Sweep) h = quiet _ h.1 refl
  sweep_quiet y (answers.Ready (ends.Swept r)) h = quiet _ h.3 refl
  sweep_quiet y answers.Memory h = quiet _ h.1 refl
  sweep_quiet y _ h = absurd h

  upkeep_quiet : (k : Upkeep) (o : StepOut) → MakesUpkeep s w k u x o → IsQuiet
  upkeep_quiet upkeep.Write (answers.Went kind.Back) h = quiet _ h.3 refl
  upkeep_quiet upkeep.Write answers.Memory h = quiet _ h.1 refl
  upkeep_quiet upkeep.Write _ h = absurd h
  upkeep_quiet (upkeep.Noted n) o h = begin_quiet n o h
  upkeep_quiet (upkeep.Publish b) o h = write_quiet b o h
  upkeep_quiet (upkeep.Read b) o h = read_quiet b o h
  upkeep_quiet upkeep.Sweep o h = sweep_quiet (sweeping.begun h.0 (node_of w s)) o h.1
  upkeep_quiet (upkeep.Sweeping y) o h = sweep_quiet y o h
  upkeep_quiet (upkeep.Checkpoint i) (answers.Ready (ends.Set None)) h = quiet _ h.3 refl
  upkeep_quiet (upkeep.Checkpoint i) answers.Memory h = quiet _ h.1 refl
  upkeep_quiet (upkeep.Checkpoint i) _ h = absurd h
  upkeep_quiet (upkeep.Release i) (answers.Ready (ends.Set None)) h = quiet _ h.2 refl
  upkeep_quiet (upkeep.Release i) (answers.Ready ends.NoCheckpoint) h = quiet _ h.2 refl
  upkeep_quiet (upkeep.Release i) answers.Memory h = quiet _ h.1 refl
  upkeep_quiet (upkeep.Release i) _ h = absurd h
  upkeep_quiet (upkeep.Attach i) (answers.Ready (ends.Set (Some pin))) h = quiet _ h.2 refl
  upkeep_quiet (upkeep.Attach i) (answers.Ready ends.NoCheckpoint) h = quiet _ h.2 refl
  upkeep_quiet (upkeep.Attach i) answers.Memory h = quiet _ h.1 refl
  upkeep_quiet (upkeep.Attach i) _ h = absurd h
  upkeep_quiet upkeep.Detach (answers.Went kind.Pin) h = quiet _ h.1 refl
  upkeep_quiet upkeep.Detach answers.Memory h = quiet _ h.1 refl
  upkeep_quiet upkeep.Detach _ h = absurd h
  upkeep_quiet (upkeep.Detaching pin) (answers.Ready (ends.Pinned o)) h = quiet _ h.2 refl
  upkeep_quiet (upkeep.Detaching pin) answers.Memory h = quiet _ h.1 refl
  upkeep_quiet (upkeep.Detaching pin) _ h = absurd h
  upkeep_quiet upkeep.Observe (answers.Ready (ends.Pinned pin)) h = quiet _ h.2 refl
  upkeep_quiet upkeep.Observe answers.Memory h = quiet _ h.1 refl
  upkeep_quiet upkeep.Observe _ h = absurd h

  pub stays_quiet : (v : Work) (o : StepOut) → is_tidying v ≡ false → MakesState s w v u x o → IsQuiet
  stays_quiet work.Login (answers.Ready (ends.Pinned pin)) plain h = quiet _ h.1 refl
  stays_quiet work.Login answers.Memory plain h = quiet _ h.1 refl
  stays_quiet work.Login _ plain h = absurd h
  stays_quiet work.End (answers.Ready ends.Ended) plain h = quiet _ h.1 refl
  stays_quiet work.End answers.Memory plain h = quiet _ h.1 refl
  stays_quiet work.End _ plain h = absurd h
  stays_quiet work.Refresh (answers.Ready (ends.Pinned pin)) plain h = quiet _ h.1 refl
  stays_quiet work.Refresh answers.Memory plain h = quiet _ h.1 refl
  stays_quiet work.Refresh _ plain h = absurd h
  stays_quiet (work.Read r) (answers.Went kind.Read) plain h = quiet _ h.1 refl
  stays_quiet (work.Read r) (answers.Ready e) plain h = quiet _ h.1 refl
  stays_quiet (work.Read r) answers.Memory plain h = quiet _ h.1 refl
  stays_quiet (work.Read r) _ plain h = absurd h
  stays_quiet (work.Changes r) (answers.Went kind.Read) plain h = quiet _ h.1 refl
  stays_quiet (work.Changes r) (answers.Ready (ends.Changes commits)) plain h = quiet _ h.1 refl
  stays_quiet (work.Changes r) answers.Memory plain h = quiet _ h.1 refl
  stays_quiet (work.Changes r) _ plain h = absurd h
  stays_quiet (work.Plan edit marks) (answers.Went kind.Draw) plain h = quiet _ h.1 refl
  stays_quiet (work.Plan edit marks) answers.Memory plain h = quiet _ h.1 refl
  stays_quiet (work.Plan edit marks) _ plain h = absurd h
  stays_quiet (work.Commit c) o plain h = commit_quiet c o h
  stays_quiet (work.Move r) (answers.Wait o) plain h = quiet _ h.1 refl
  stays_quiet (work.Move r) (answers.Ready (ends.Commit (end.Committed o))) plain h = quiet _ h.1 refl
  stays_quiet (work.Move r) _ plain h = absurd h
  stays_quiet (work.Upkeep k) o plain h = upkeep_quiet k o h
  stays_quiet (work.Tidy y) o plain h = absurd (false≢true (sym plain))
  stays_quiet (work.Told e) o plain h = absurd h
  stays_quiet work.Rest o plain h = absurd h

-- ---- numbers and order

-- the number of a table is at most the last one, and the entries of each document are in order
abbrev IsLowInOrder : Table → Type 0
IsLowInOrder t = (t.number ≤ last_number) × AreAllInOrder t

update_low : (t : Table) (op : UpdateOp) → t.number ≤ last_number → (after_update t op).number ≤ last_number
update_low t op low = by (updated (found t op.id) op (next_number t))
  where
    by : (r : Result Document OpFault) → (with_result t op.id r).number ≤ last_number
    by (Ok d) = next_low t
    by (Err e) = low

updates_keep : IsKeptByUpdates IsLowInOrder
updates_keep = record {
  update = λ t op is. (update_low t op is.0, update_order t op is.1);
  undo = λ t p r is. (next_low t, undo_order t p r is.1);
}

-- ---- the step

module _ (starts : Starts) (says : Says) (proper : StartsProper starts) (w u : State) (kept : IsKept starts says w) (does : ℕ → Option Tidying) (tidies : AreTidying w does) (s : ℕ) (v x : Work) (o : StepOut) (plain : is_tidying v ≡ false) (none : does s ≡ None) (step : IsPlainStepOf starts says s w v u x o) (makes : MakesState s w v u x o) where
  low_then : IsLowInOrder u.table
  low_then = makes_keep IsLowInOrder updates_keep s w u (tidies.numbered.low, tidies.order) v x o (λ y is. false≢true (sym plain ∙ ap is_tidying is)) makes

  table : IsTableStep w.table u.table
  table = record { numbers = step.numbers tidies.numbered.low; order = λ all. low_then.1 }

  past_is : u.past ≡ step.own ++ w.past
  past_is = ap (λ (h : History). h.past) step.grown

  clusters : u.clusters ≡ w.clusters
  clusters = ap (λ (h : History). h.clusters) step.grown

  sessions : u.sessions ≡ w.sessions
  sessions = ap (λ (h : History). h.sessions) step.grown

  begin : u.begin ≡ w.begin
  begin = ap (λ (h : History). h.begin) step.grown

  nodes : ((p : Path) → nodes_in u.table p ≡ nodes_in w.table p) ⊎ ((p : Path) × (d : Document) × IsMainAt (documents_in w.table.documents) (documents_in u.table.documents) p d × (d.prev ≡ listed_at w.table p))
  nodes = by step.changes.change.nodes
    where
      by : SameNodes w.table u.table ⊎ IsChangedMain w.table u.table → ((p : Path) → nodes_in u.table p ≡ nodes_in w.table p) ⊎ ((p : Path) × (d : Document) × IsMainAt (documents_in w.table.documents) (documents_in u.table.documents) p d × (d.prev ≡ listed_at w.table p))
      by (inl same) = inl same
      by (inr one) = inr (one.at, one.document, one.main, one.prev)

  made : IsMade starts says w u nothing
  made = plain_made starts says w tidies.numbered tidies.own u step.kept step.own past_is clusters sessions begin step.changes.formers low_then.0 table step.holds step.changes.change.previous nodes

  world_step : IsWorldStep w u
  world_step = record {
    own = step.own;
    grown = past_is;
    clusters = clusters;
    sessions = sessions;
    begin = begin;
    table = table;
    holds = step.holds;
    numbered = made.lets.step.numbered;
    own_numbers = made.lets.step.own_numbers;
  }

  lets : LetsTidy w u nothing
  lets = record { step = world_step; copies = made.lets.copies; previous = made.lets.previous; splits = made.lets.splits }

  module _ (reads : (q : ℕ) → (q == s) ≡ false → u.reading q ≡ w.reading q) where
    still_tidies : AreTidying u does
    unfolding lets world_step
    still_tidies = others_tidy starts says proper w u kept step.kept does tidies nothing lets s none (λ p k h. h) (λ q other. (step.apart q other, reads q other))

    -- all that tidies goes on
    pub plainly_tidies : AreTidying u (with_session does s (tidying_of x))
    plainly_tidies = subst (λ (f : ℕ → Option Tidying). AreTidying u f) (sym (session_same does s (tidying_of x) (none ∙ sym (stays_quiet s w u x v o plain makes)))) still_tidies
