-- A step that adds no event leaves the documents and the memories.
use Rattle.std.proofs.Common.{◌≡◌, inl, inr, ℕ, Bool, true, false, cond, Some, None, [], ◌∷◌, refl, sym, ap, ◌∙◌}
use Rattle.oak_commit.specs.Committing.{Committing}
use Rattle.oak_commit.specs.declared.outcome.CommitEnd.TheVariants as outcome
use Rattle.oak_gc.specs.declared.collector.Collector.{Collector}
use Rattle.oak_gc.specs.declared.reading.Step.{Step as CollectStep}
use Rattle.oak_gc.specs.declared.reading.Step.TheVariants as collect_step
use Rattle.oak_machine.specs.declared.event.Event.{Event}
use Rattle.oak_machine.specs.declared.event.StepKind.{StepKind}
use Rattle.oak_machine.specs.declared.event.StepKind.TheVariants as kind
use Rattle.oak_port.specs.declared.task.StepOut.{StepOut}
use Rattle.oak_port.specs.declared.task.StepOut.TheVariants as answers
use Rattle.oak_port.specs.declared.task.TaskEnd.TheVariants as ends
use Rattle.core_tidy.specs.Steps.{after_tidied, tidied_in}
use Rattle.core_world.specs.States.{State, node_of}
use Rattle.oak_node.specs.declared.pending.Pending.{Pending}
use Rattle.oak_prev.specs.declared.splitter.Splitter.{Splitter}
use Rattle.oak_prev.specs.declared.splitter.Step.{Step as SplitStep}
use Rattle.oak_prev.specs.declared.splitter.Step.TheVariants as split_step
use Rattle.oak_store.specs.Tables.{Table}
use Rattle.oak_sweep.specs.Sweeping as sweeping
use Rattle.oak_sweep.specs.declared.stage.Stage.{Stage as Swept}
use Rattle.oak_sweep.specs.declared.stage.Stage.TheVariants as swept
use Rattle.oak_sweep.specs.declared.sweeper.Sweeper.{Sweeper}
use Rattle.oak_sync.specs.declared.back_read.BackRead.{BackRead}
use Rattle.oak_sync.specs.declared.back_write.BackWrite.{BackWrite}
use Rattle.oak_step.specs.declared.work.Work.{Work}
use Rattle.oak_step.specs.declared.work.Work.TheVariants as work
use Rattle.oak_step.specs.declared.upkeep.Upkeep.{Upkeep}
use Rattle.oak_step.specs.declared.upkeep.Upkeep.TheVariants as upkeep
use Rattle.oak_tidy.specs.declared.tidying.Tidying.{Tidying}
use Rattle.oak_tidy.specs.declared.tidying.Tidying.TheVariants as tidying
use Rattle.oak_tidy.specs.Replies.{table_after}
use Rattle.oak_tidy.specs.Tidyings.{tidy_events, tidying_ask}
use Rattle.oak_world.specs.Steps.{BeginsBackWrite, MakesState, MakesBackRead, MakesBackWrite, MakesCommit, MakesSweep, MakesUpdate, MakesUpkeep, PassesTo}
use Rattle.jr_shared.proofs.Lists.{never_longer, never_two_longer, none_more}

-- ---- a split or a collection

-- where no event is added nothing was changed, but looked for
split_looks : (s : ℕ) (x : Splitter) (y : Tidying) (t : Table) → tidy_events s (tidying.Split x) y ≡ [] → table_after t (tidying_ask (tidying.Split x)) ≡ t
split_looks s x y t = by x.step
  where
    by : (st : SplitStep) → tidy_events s (tidying.Split (record x { step = st })) y ≡ [] → table_after t (tidying_ask (tidying.Split (record x { step = st }))) ≡ t
    by split_step.Read none = refl
    by split_step.Root none = refl
    by (split_step.Previous e n) none = absurd (cc)
    by (split_step.Main e n) none = absurd (cc)
    by (split_step.Find k o) none = refl
    by (split_step.Remove k found o) none = absurd (cc)
    by (split_step.Done o) none = refl

collect_looks : (s : ℕ) (x : Collector) (y : Tidying) (t : Table) → tidy_events s (tidying.Collect x) y ≡ [] → table_after t (tidying_ask (tidying.Collect x)) ≡ t
collect_looks s x y t = by x.step
  where
    by : (st : CollectStep) → tidy_events s (tidying.Collect (record x { step = st })) y ≡ [] → table_after t (tidying_ask (tidying.Collect (record x { step = st }))) ≡ t
    by collect_step.Root none = refl
    by (collect_step.Node k) none = refl
    by collect_step.Settings none = refl
    by collect_step.First none = refl
    by collect_step.Next none = refl
    by (collect_step.Listed n) none = refl
    by collect_step.Prune none = absurd (cc)
    by collect_step.Remove none = absurd (cc)
    by (collect_step.RemovePrevious n read) none = absurd (cc)
    by collect_step.Done none = refl

tidying_looks : (s : ℕ) (x y : Tidying) (t : Table) → tidy_events s x y ≡ [] → table_after t (tidying_ask x) ≡ t
tidying_looks s (tidying.Split x) y t none = split_looks s x y t none
tidying_looks s (tidying.Collect x) y t none = collect_looks s x y t none

-- ---- any step

module _ (s : ℕ) (w u : State) (same : u.past ≡ w.past) where
  -- the documents and the memories are as they were
  abbrev IsCalm : Type 0
  IsCalm = (u.table ≡ w.table) × (u.memories ≡ w.memories)

  -- no event is added
  never : {A : Type 0} (e : Event) → u.past ≡ e ∷ w.past → A
  never e h = absurd (never_longer e w.past (sym same ∙ h))

  never_moved : {A : Type 0} (b : Bool) (d e : Event) → u.past ≡ cond b (d ∷ (e ∷ w.past)) (e ∷ w.past) → A
  never_moved true d e h = absurd (never_two_longer d e w.past (sym same ∙ h))
  never_moved false d e h = absurd (never_longer e w.past (sym same ∙ h))

  calm_update : (c : Committing) (d : Committing) (k : StepKind) → MakesUpdate s w c u d k → IsCalm
  calm_update c d kind.Mark m = elim m.5 [ inl k ↦ never _ k.0 | inr k ↦ never _ k.0 ]
  calm_update c d kind.Write m = elim m.5 [ inl k ↦ never _ (ap (λ (x : State). x.past) k.0) | inr k ↦ never _ (ap (λ (x : State). x.past) k.0) ]
  calm_update c d kind.Read m = elim m.3 [
    | inl k ↦ (ap (λ (x : State). x.table) k.0, ap (λ (x : State). x.memories) k.0)
    | inr k ↦ (ap (λ (x : State). x.table) k.0, ap (λ (x : State). x.memories) k.0)
  ]
  calm_update c d kind.Last m = elim m.4 [ inl k ↦ never _ k.0 | inr k ↦ never _ k.2 ]
  calm_update c d kind.Undo m = never _ (ap (λ (x : State). x.past) m.4)
  calm_update c d _ m = absurd m

  calm_commit : (c : Committing) (v : Work) (o : StepOut) → MakesCommit s w c u v o → IsCalm
  calm_commit c v o (inl m) = calm_update c m.2 m.0 m.4
  calm_commit c v o (inr (inl m)) = never_moved _ _ _ (ap (λ (x : State). x.past) m.1)
  calm_commit c v o (inr (inr m)) = (ap (λ (x : State). x.table) m.2, ap (λ (x : State). x.memories) m.2)

  still : u ≡ w → IsCalm
  still is = (ap (λ (x : State). x.table) is, ap (λ (x : State). x.memories) is)

  calm_publish : (b : BackWrite) (v : Work) (o : StepOut) → MakesBackWrite s w b u v o → IsCalm
  calm_publish b v (answers.Went kind.Back) m = never _ (ap (λ (x : State). x.past) m.3)
  calm_publish b v (answers.Ready (ends.Published o)) m = never _ (ap (λ (x : State). x.past) m.2)
  calm_publish b v answers.Memory m = still m.0
  calm_publish b v _ m = absurd m

  calm_begin : (n : Pending) (v : Work) (o : StepOut) → BeginsBackWrite s w n u v o → IsCalm
  calm_begin n v o (inl m) = still m.1
  calm_begin n v o (inr m) = calm_publish m.1 v o m.3

  calm_learn : (b : BackRead) (v : Work) (o : StepOut) → MakesBackRead s w b u v o → IsCalm
  calm_learn b v (answers.Went kind.Back) m = never _ (ap (λ (x : State). x.past) m.1)
  calm_learn b v (answers.Ready (ends.Learnt x)) m = never _ (ap (λ (y : State). y.past) m.2)
  calm_learn b v answers.Memory m = still m.0
  calm_learn b v _ m = absurd m

  calm_pass : (x : Sweeper) (at : Swept) → PassesTo s w x at u → IsCalm
  calm_pass x swept.Root m = never _ (ap (λ (y : State). y.past) m)
  calm_pass x swept.Document m = never _ (ap (λ (y : State). y.past) m)
  calm_pass x swept.Publish m = never _ (ap (λ (y : State). y.past) m)
  calm_pass x swept.Learn m = absurd m
  calm_pass x swept.Done m = absurd m

  calm_sweep : (x : Sweeper) (v : Work) (o : StepOut) → MakesSweep s w x u v o → IsCalm
  calm_sweep x v (answers.Went kind.Sweep) m = calm_pass x (sweeping.stage_of x) m.0
  calm_sweep x v (answers.Ready (ends.Swept r)) m = never _ (ap (λ (y : State). y.past) m.2)
  calm_sweep x v answers.Memory m = still m.0
  calm_sweep x v _ m = absurd m

  calm_upkeep : (k : Upkeep) (v : Work) (o : StepOut) → MakesUpkeep s w k u v o → IsCalm
  calm_upkeep upkeep.Write v (answers.Went kind.Back) m = never _ (ap (λ (x : State). x.past) m.2)
  calm_upkeep upkeep.Write v answers.Memory m = still m.0
  calm_upkeep upkeep.Write v _ m = absurd m
  calm_upkeep (upkeep.Noted n) v o m = calm_begin n v o m
  calm_upkeep (upkeep.Publish b) v o m = calm_publish b v o m
  calm_upkeep (upkeep.Read b) v o m = calm_learn b v o m
  calm_upkeep upkeep.Sweep v o m = calm_sweep (sweeping.begun m.0 (node_of w s)) v o m.1
  calm_upkeep (upkeep.Sweeping x) v o m = calm_sweep x v o m
  calm_upkeep (upkeep.Checkpoint i) v (answers.Ready (ends.Set None)) m = never _ (ap (λ (x : State). x.past) m.2)
  calm_upkeep (upkeep.Checkpoint i) v answers.Memory m = still m.0
  calm_upkeep (upkeep.Checkpoint i) v _ m = absurd m
  calm_upkeep (upkeep.Release i) v (answers.Ready (ends.Set None)) m = never _ (ap (λ (x : State). x.past) m.1)
  calm_upkeep (upkeep.Release i) v (answers.Ready ends.NoCheckpoint) m = never _ (ap (λ (x : State). x.past) m.1)
  calm_upkeep (upkeep.Release i) v answers.Memory m = still m.0
  calm_upkeep (upkeep.Release i) v _ m = absurd m
  calm_upkeep (upkeep.Attach i) v (answers.Ready (ends.Set (Some pin))) m = never _ (ap (λ (x : State). x.past) m.1)
  calm_upkeep (upkeep.Attach i) v (answers.Ready ends.NoCheckpoint) m = never _ (ap (λ (x : State). x.past) m.1)
  calm_upkeep (upkeep.Attach i) v answers.Memory m = still m.0
  calm_upkeep (upkeep.Attach i) v _ m = absurd m
  calm_upkeep upkeep.Detach v (answers.Went kind.Pin) m = never _ (ap (λ (x : State). x.past) m.0)
  calm_upkeep upkeep.Detach v answers.Memory m = still m.0
  calm_upkeep upkeep.Detach v _ m = absurd m
  calm_upkeep (upkeep.Detaching pin) v (answers.Ready (ends.Pinned o)) m = never _ (ap (λ (x : State). x.past) m.1)
  calm_upkeep (upkeep.Detaching pin) v answers.Memory m = still m.0
  calm_upkeep (upkeep.Detaching pin) v _ m = absurd m
  calm_upkeep upkeep.Observe v (answers.Ready (ends.Pinned pin)) m = never _ (ap (λ (x : State). x.past) m.1)
  calm_upkeep upkeep.Observe v answers.Memory m = still m.0
  calm_upkeep upkeep.Observe v _ m = absurd m

  calm_tidying : (x : Tidying) → u ≡ after_tidied w s x → IsCalm
  calm_tidying x is =
      let none : tidy_events s x (tidied_in w x) ≡ [] = none_more (tidy_events s x (tidied_in w x)) w.past (sym same ∙ ap (λ (y : State). y.past) is) in
      (ap (λ (y : State). y.table) is ∙ tidying_looks s x (tidied_in w x) w.table none, ap (λ (y : State). y.memories) is)

  pub calm : (x v : Work) (o : StepOut) → MakesState s w x u v o → IsCalm
  calm work.Login v (answers.Ready (ends.Pinned pin)) m = never _ (ap (λ (x : State). x.past) m.0)
  calm work.Login v answers.Memory m = still m.0
  calm work.Login v _ m = absurd m
  calm work.End v (answers.Ready ends.Ended) m = never _ (ap (λ (x : State). x.past) m.0)
  calm work.End v answers.Memory m = still m.0
  calm work.End v _ m = absurd m
  calm work.Refresh v (answers.Ready (ends.Pinned pin)) m = never _ (ap (λ (x : State). x.past) m.0)
  calm work.Refresh v answers.Memory m = still m.0
  calm work.Refresh v _ m = absurd m
  calm (work.Read r) v (answers.Went kind.Read) m = (ap (λ (x : State). x.table) m.0, ap (λ (x : State). x.memories) m.0)
  calm (work.Read r) v (answers.Ready e) m = (ap (λ (x : State). x.table) m.0, ap (λ (x : State). x.memories) m.0)
  calm (work.Read r) v answers.Memory m = (ap (λ (x : State). x.table) m.0, ap (λ (x : State). x.memories) m.0)
  calm (work.Read r) v _ m = absurd m
  calm (work.Changes r) v (answers.Went kind.Read) m = (ap (λ (x : State). x.table) m.0, ap (λ (x : State). x.memories) m.0)
  calm (work.Changes r) v (answers.Ready (ends.Changes commits)) m = (ap (λ (x : State). x.table) m.0, ap (λ (x : State). x.memories) m.0)
  calm (work.Changes r) v answers.Memory m = (ap (λ (x : State). x.table) m.0, ap (λ (x : State). x.memories) m.0)
  calm (work.Changes r) v _ m = absurd m
  calm (work.Plan edit marks) v (answers.Went kind.Draw) m = never _ (ap (λ (x : State). x.past) m.0)
  calm (work.Plan edit marks) v answers.Memory m = still m.0
  calm (work.Plan edit marks) v _ m = absurd m
  calm (work.Commit c) v o m = calm_commit c v o m
  calm (work.Move r) v (answers.Wait q) m = still m.0
  calm (work.Move r) v (answers.Ready (ends.Commit (outcome.Committed q))) m = never _ (ap (λ (x : State). x.past) m.0)
  calm (work.Move r) v _ m = absurd m
  calm (work.Upkeep k) v o m = calm_upkeep k v o m
  calm (work.Tidy x) v answers.Memory m = (ap (λ (y : State). y.table) m.0, ap (λ (y : State). y.memories) m.0)
  calm (work.Tidy x) v (answers.Went k) m = calm_tidying x m.0
  calm (work.Tidy x) v (answers.Ready e) m = calm_tidying x m.0
  calm (work.Tidy x) v _ m = absurd m.3
  calm (work.Told e) v o m = absurd m
  calm work.Rest v o m = absurd m
