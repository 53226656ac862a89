-- A step that adds no event changes neither documents nor memories.
use Rattle.std.proofs.Common.{◌≡◌, inl, inr, ℕ, suc, ◌+◌, Bool, true, false, cond, [], ◌∷◌, ◌++◌, length, Some, None, refl, sym, ap, ◌∙◌, arith}
use Rattle.std.proofs.lemmas.List.{length-append}
use Rattle.oak_commit.specs.Committing.{Committing}
use Rattle.oak_commit.specs.declared.outcome.CommitEnd.TheVariants as end
use Rattle.oak_gc.specs.declared.collector.Collector.{Collector}
use Rattle.oak_gc.specs.declared.reading.Step.{Step as CollectStep}
use Rattle.oak_gc.specs.declared.reading.Step.TheVariants as collect_step
use Rattle.oak_machine.specs.declared.event.Event.{Event}
use Rattle.oak_machine.specs.declared.event.Event.TheVariants as event
use Rattle.oak_machine.specs.declared.event.StepKind.{StepKind}
use Rattle.oak_machine.specs.declared.event.StepKind.TheVariants as kind
use Rattle.oak_machine.specs.History.{Past}
use Rattle.oak_node.specs.declared.pending.Pending.{Pending}
use Rattle.oak_port.specs.declared.task.StepOut.{StepOut}
use Rattle.oak_port.specs.declared.task.StepOut.TheVariants as answers
use Rattle.oak_port.specs.declared.task.TaskEnd.TheVariants as ends
use Rattle.oak_prev.specs.declared.splitter.Splitter.{Splitter}
use Rattle.oak_prev.specs.declared.splitter.Step.{Step as SplitStep}
use Rattle.oak_prev.specs.declared.splitter.Step.TheVariants as split_step
use Rattle.oak_step.specs.declared.upkeep.Upkeep.{Upkeep}
use Rattle.oak_step.specs.declared.upkeep.Upkeep.TheVariants as upkeep
use Rattle.oak_step.specs.declared.work.Work.{Work}
use Rattle.oak_step.specs.declared.work.Work.TheVariants as work
use Rattle.oak_store.specs.Tables.{Table}
use Rattle.oak_sweep.specs.Sweeping as sweeping
use Rattle.oak_sweep.specs.declared.stage.Stage.{Stage as Swept}
use Rattle.oak_sweep.specs.declared.stage.Stage.TheVariants as swept
use Rattle.oak_sweep.specs.declared.sweeper.Sweeper.{Sweeper}
use Rattle.oak_sync.specs.declared.back_read.BackRead.{BackRead}
use Rattle.oak_sync.specs.declared.back_write.BackWrite.{BackWrite}
use Rattle.oak_tidy.specs.declared.tidying.Tidying.{Tidying}
use Rattle.oak_tidy.specs.declared.tidying.Tidying.TheVariants as tidying
use Rattle.oak_tidy.specs.Replies.{all_parts, table_after}
use Rattle.oak_tidy.specs.Tidyings.{tidied_on, tidy_events, tidying_ask}
use Rattle.core_world.specs.States.{State, memory_of, node_of}
use Rattle.oak_world.specs.Steps.{BeginsBackWrite, MakesBackRead, MakesBackWrite, MakesCommit, MakesState, MakesSweep, MakesTidying, MakesUpdate, MakesUpkeep, PassesTo}

-- ---- events

-- what is longer isn't the same
not_longer : (n : ℕ) → suc n ≡ n → ⊥
not_longer n h = omega (arith, h)

-- none were added
none_added : (es past : Past) → es ++ past ≡ past → es ≡ []
none_added [] past is = refl
none_added (e ∷ es) past is = absurd (by (sym (length-append (e ∷ es) past) ∙ ap length is))
  where
    by : length (e ∷ es) + length past ≡ length past → ⊥
    by h = let one : length (e ∷ es) ≡ suc (length es) = refl in omega (arith, h, one)

-- what tidies changes no document in a step without an event
module _ (s : ℕ) (y : Tidying) (t : Table) where
  split_stays : (x : Splitter) (st : SplitStep) → tidy_events s (tidying.Split (record x { step = st })) y ≡ [] → table_after t (tidying_ask (tidying.Split (record x { step = st }))) ≡ t
  split_stays x split_step.Read h = refl
  split_stays x split_step.Root h = refl
  split_stays x (split_step.Previous e n) h = cc
  split_stays x (split_step.Main e n) h = cc
  split_stays x (split_step.Find k o) h = refl
  split_stays x (split_step.Remove k f o) h = cc
  split_stays x (split_step.Done o) h = refl

  collect_stays : (x : Collector) (st : CollectStep) → tidy_events s (tidying.Collect (record x { step = st })) y ≡ [] → table_after t (tidying_ask (tidying.Collect (record x { step = st }))) ≡ t
  collect_stays x collect_step.Root h = refl
  collect_stays x (collect_step.Node k) h = refl
  collect_stays x collect_step.Settings h = refl
  collect_stays x collect_step.First h = refl
  collect_stays x collect_step.Next h = refl
  collect_stays x (collect_step.Listed n) h = refl
  collect_stays x collect_step.Prune h = cc
  collect_stays x collect_step.Remove h = cc
  collect_stays x (collect_step.RemovePrevious n read) h = cc
  collect_stays x collect_step.Done h = refl

  tidying_stays : (x : Tidying) → tidy_events s x y ≡ [] → table_after t (tidying_ask x) ≡ t
  tidying_stays (tidying.Split x) h = split_stays x x.step h
  tidying_stays (tidying.Collect x) h = collect_stays x x.step h

-- ---- each step

module _ (s : ℕ) (w u : State) (quiet : u.past ≡ w.past) where
  -- documents and memories are as they were
  abbrev pub AreSame : Type 0
  AreSame = (u.table ≡ w.table) × (u.memories ≡ w.memories)

  -- a state of these documents and memories
  still : (t : State) → u ≡ t → t.table ≡ w.table → t.memories ≡ w.memories → AreSame
  still t is documents memories = (ap (λ (x : State). x.table) is ∙ documents, ap (λ (x : State). x.memories) is ∙ memories)

  -- an event more is no such step
  more : (e : Event) → u.past ≡ e ∷ w.past → AreSame
  more e is = absurd (not_longer (length w.past) (ap length (sym is ∙ quiet)))

  adds : (t : State) → u ≡ t → (e : Event) → t.past ≡ e ∷ w.past → AreSame
  adds t is e added = more e (ap (λ (x : State). x.past) is ∙ added)

  update_still : (c d : Committing) (k : StepKind) → MakesUpdate s w c u d k → AreSame
  update_still c d kind.Mark g = elim g.5 [ inl e ↦ more (event.Went s kind.Mark) e.0 | inr e ↦ more (event.Refuse c.revision g.0.mine g.0.other) e.0 ]
  update_still c d kind.Write g = elim g.5 [ inl e ↦ adds _ e.0 (event.Went s kind.Write) refl | inr e ↦ adds _ e.0 (event.Went s kind.Write) refl ]
  update_still c d kind.Read g = elim g.3 [ inl e ↦ still _ e.0 refl refl | inr e ↦ still _ e.0 refl refl ]
  update_still c d kind.Last g = elim g.4 [ inl e ↦ more (event.Commit c.revision) e.0 | inr e ↦ more (event.Refuse c.revision e.0 e.1) e.2 ]
  update_still c d kind.Undo g = adds _ g.4 (event.Went s kind.Undo) refl
  update_still c d _ g = absurd g

  -- the end of a revision is told, and maybe the head that moved
  ends_told : (b : Bool) (e f : Event) → u.past ≡ cond b (f ∷ e ∷ w.past) (e ∷ w.past) → AreSame
  ends_told true e f is = absurd (longer (ap length (sym is ∙ quiet)))
    where
      longer : suc (suc (length w.past)) ≡ length w.past → ⊥
      longer h = omega (arith, h)
  ends_told false e f is = more e is

  commit_still : (c : Committing) (v : Work) (o : StepOut) → MakesCommit s w c u v o → AreSame
  commit_still c v o (inl m) = update_still c m.2 m.0 m.4
  commit_still c v o (inr (inl m)) = ends_told _ (event.End c.revision) _ (ap (λ (x : State). x.past) m.1)
  commit_still c v o (inr (inr m)) = still _ m.2 refl refl

  write_still : (b : BackWrite) (v : Work) (o : StepOut) → MakesBackWrite s w b u v o → AreSame
  write_still b v (answers.Went kind.Back) h = adds _ h.3 (event.Went s kind.Back) refl
  write_still b v (answers.Ready (ends.Published o)) h = adds _ h.2 (event.Out (node_of w s) b.upto) refl
  write_still b v answers.Memory h = still _ h.0 refl refl
  write_still b v _ h = absurd h

  begin_still : (n : Pending) (v : Work) (o : StepOut) → BeginsBackWrite s w n u v o → AreSame
  begin_still n v o (inl h) = still _ h.1 refl refl
  begin_still n v o (inr h) = write_still h.1 v o h.3

  read_still : (b : BackRead) (v : Work) (o : StepOut) → MakesBackRead s w b u v o → AreSame
  read_still b v (answers.Went kind.Back) h = adds _ h.1 (event.Went s kind.Back) refl
  read_still b v (answers.Ready (ends.Learnt x)) h = adds _ h.2 _ refl
  read_still b v answers.Memory h = still _ h.0 refl refl
  read_still b v _ h = absurd h

  passes_still : (x : Sweeper) (y : Swept) → PassesTo s w x y u → AreSame
  passes_still x swept.Root h = adds _ h (event.Went s kind.Sweep) refl
  passes_still x swept.Document h = adds _ h (event.Went s kind.Sweep) refl
  passes_still x swept.Publish h = adds _ h (event.Sweep (node_of w s) x.target) refl
  passes_still x _ h = absurd h

  sweep_still : (x : Sweeper) (v : Work) (o : StepOut) → MakesSweep s w x u v o → AreSame
  sweep_still x v (answers.Went kind.Sweep) h = passes_still x (sweeping.stage_of x) h.0
  sweep_still x v (answers.Ready (ends.Swept r)) h = adds _ h.2 (event.Went s kind.Learn) refl
  sweep_still x v answers.Memory h = still _ h.0 refl refl
  sweep_still x v _ h = absurd h

  upkeep_still : (k : Upkeep) (v : Work) (o : StepOut) → MakesUpkeep s w k u v o → AreSame
  upkeep_still upkeep.Write v (answers.Went kind.Back) h = adds _ h.2 (event.Went s kind.Back) refl
  upkeep_still upkeep.Write v answers.Memory h = still _ h.0 refl refl
  upkeep_still upkeep.Write v _ h = absurd h
  upkeep_still (upkeep.Noted n) v o h = begin_still n v o h
  upkeep_still (upkeep.Publish b) v o h = write_still b v o h
  upkeep_still (upkeep.Read b) v o h = read_still b v o h
  upkeep_still upkeep.Sweep v o h = sweep_still (sweeping.begun h.0 (node_of w s)) v o h.1
  upkeep_still (upkeep.Sweeping x) v o h = sweep_still x v o h
  upkeep_still (upkeep.Checkpoint i) v (answers.Ready (ends.Set None)) h = adds _ h.2 (event.Checkpoint i h.0.base) refl
  upkeep_still (upkeep.Checkpoint i) v answers.Memory h = still _ h.0 refl refl
  upkeep_still (upkeep.Checkpoint i) v _ h = absurd h
  upkeep_still (upkeep.Release i) v (answers.Ready (ends.Set None)) h = adds _ h.1 (event.Release i) refl
  upkeep_still (upkeep.Release i) v (answers.Ready ends.NoCheckpoint) h = adds _ h.1 (event.Went s kind.Settings) refl
  upkeep_still (upkeep.Release i) v answers.Memory h = still _ h.0 refl refl
  upkeep_still (upkeep.Release i) v _ h = absurd h
  upkeep_still (upkeep.Attach i) v (answers.Ready (ends.Set (Some pin))) h = adds _ h.1 (event.Attach s i) refl
  upkeep_still (upkeep.Attach i) v (answers.Ready ends.NoCheckpoint) h = adds _ h.1 (event.Went s kind.Settings) refl
  upkeep_still (upkeep.Attach i) v answers.Memory h = still _ h.0 refl refl
  upkeep_still (upkeep.Attach i) v _ h = absurd h
  upkeep_still upkeep.Detach v (answers.Went kind.Pin) h = adds _ h.0 (event.Refresh s (memory_of w s).head) refl
  upkeep_still upkeep.Detach v answers.Memory h = still _ h.0 refl refl
  upkeep_still upkeep.Detach v _ h = absurd h
  upkeep_still (upkeep.Detaching pin) v (answers.Ready (ends.Pinned o)) h = adds _ h.1 (event.Detach s) refl
  upkeep_still (upkeep.Detaching pin) v answers.Memory h = still _ h.0 refl refl
  upkeep_still (upkeep.Detaching pin) v _ h = absurd h
  upkeep_still upkeep.Observe v (answers.Ready (ends.Pinned pin)) h = adds _ h.1 (event.Went s kind.Pin) refl
  upkeep_still upkeep.Observe v answers.Memory h = still _ h.0 refl refl
  upkeep_still upkeep.Observe v _ h = absurd h

  -- what tidies looks for a document
  looks : (x y : Tidying) → u.table ≡ table_after w.table (tidying_ask x) → u.memories ≡ w.memories → u.past ≡ tidy_events s x y ++ w.past → AreSame
  looks x y documents memories past =
      let none : tidy_events s x y ≡ [] = none_added (tidy_events s x y) w.past (sym past ∙ quiet) in
      (documents ∙ tidying_stays s y w.table x none, memories)

  tidy_still : (x : Tidying) (v : Work) (o : StepOut) → MakesTidying s w x u v o → AreSame
  tidy_still x v answers.Memory h = still _ h.0 refl refl
  tidy_still x v (answers.Went z) h = looks x (tidied_on (all_parts w.table w.memories []) x) (ap (λ (t : State). t.table) h.0) (ap (λ (t : State). t.memories) h.0) (ap (λ (t : State). t.past) h.0)
  tidy_still x v (answers.Ready e) h = looks x (tidied_on (all_parts w.table w.memories []) x) (ap (λ (t : State). t.table) h.0) (ap (λ (t : State). t.memories) h.0) (ap (λ (t : State). t.past) h.0)
  tidy_still x v _ h = absurd h.3

  -- a step of a session, whatever it does
  pub makes_still : (x v : Work) (o : StepOut) → MakesState s w x u v o → AreSame
  makes_still work.Login v (answers.Ready (ends.Pinned pin)) h = adds _ h.0 (event.Login s (memory_of w s).head) refl
  makes_still work.Login v answers.Memory h = still _ h.0 refl refl
  makes_still work.Login v _ h = absurd h
  makes_still work.End v (answers.Ready ends.Ended) h = adds _ h.0 (event.Went s kind.End) refl
  makes_still work.End v answers.Memory h = still _ h.0 refl refl
  makes_still work.End v _ h = absurd h
  makes_still work.Refresh v (answers.Ready (ends.Pinned pin)) h = adds _ h.0 (event.Refresh s (memory_of w s).head) refl
  makes_still work.Refresh v answers.Memory h = still _ h.0 refl refl
  makes_still work.Refresh v _ h = absurd h
  makes_still (work.Read r) v (answers.Went kind.Read) h = still _ h.0 refl refl
  makes_still (work.Read r) v (answers.Ready e) h = still _ h.0 refl refl
  makes_still (work.Read r) v answers.Memory h = still _ h.0 refl refl
  makes_still (work.Read r) v _ h = absurd h
  makes_still (work.Changes r) v (answers.Went kind.Read) h = still _ h.0 refl refl
  makes_still (work.Changes r) v (answers.Ready (ends.Changes commits)) h = still _ h.0 refl refl
  makes_still (work.Changes r) v answers.Memory h = still _ h.0 refl refl
  makes_still (work.Changes r) v _ h = absurd h
  makes_still (work.Plan edit marks) v (answers.Went kind.Draw) h = adds _ h.0 _ refl
  makes_still (work.Plan edit marks) v answers.Memory h = still _ h.0 refl refl
  makes_still (work.Plan edit marks) v _ h = absurd h
  makes_still (work.Commit c) v o h = commit_still c v o h
  makes_still (work.Move r) v (answers.Wait o) h = still _ h.0 refl refl
  makes_still (work.Move r) v (answers.Ready (ends.Commit (end.Committed o))) h = adds _ h.0 (event.Refresh s (memory_of w s).head) refl
  makes_still (work.Move r) v _ h = absurd h
  makes_still (work.Upkeep k) v o h = upkeep_still k v o h
  makes_still (work.Tidy x) v o h = tidy_still x v o h
  makes_still (work.Told e) v o h = absurd h
  makes_still work.Rest v o h = absurd h
