-- A step of a state is one of that state with former documents told of: no step of a session asks for them.
use Rattle.std.proofs.Common.{◌≡◌, inl, inr, ℕ, Some, None, Result, Ok, Err, List, refl, ap, ◌∙◌}
use Rattle.oak_commit.specs.Clashing.{Met, mark_op}
use Rattle.oak_commit.specs.Committing.{Committing}
use Rattle.oak_commit.specs.Writing.{last_op}
use Rattle.oak_commit.specs.declared.outcome.CommitEnd.TheVariants as end
use Rattle.oak_clash.specs.Clashes.{commit_root}
use Rattle.oak_doc.specs.Updates.{updated}
use Rattle.oak_doc.specs.declared.document.Document.{Document}
use Rattle.oak_doc.specs.declared.update.Kept.TheVariants as kept
use Rattle.oak_doc.specs.declared.update.OpFault.{OpFault}
use Rattle.oak_doc.specs.declared.update.OpFault.TheVariants as fault
use Rattle.oak_machine.specs.declared.event.StepKind.{StepKind}
use Rattle.oak_machine.specs.declared.event.StepKind.TheVariants as kind
use Rattle.oak_node.specs.declared.pending.Pending.{Pending}
use Rattle.oak_port.specs.declared.task.StepOut.{StepOut}
use Rattle.oak_port.specs.declared.task.StepOut.TheVariants as answers
use Rattle.oak_port.specs.declared.task.TaskEnd.TheVariants as ends
use Rattle.oak_store.specs.Tables.{next_number}
use Rattle.oak_sync.specs.declared.back_read.BackRead.{BackRead}
use Rattle.oak_sync.specs.declared.back_write.BackWrite.{BackWrite}
use Rattle.core_clash.specs.Core.{root_of}
use Rattle.core_clash.specs.Sessions.{Running}
use Rattle.core_keep.specs.Formers.{Formers}
use Rattle.core_world.specs.States.{State, node_of, nodes_in}
use Rattle.core_world.specs.Steps.{lasted_by, marked_by}
use Rattle.oak_step.specs.declared.upkeep.Upkeep.{Upkeep}
use Rattle.oak_step.specs.declared.upkeep.Upkeep.TheVariants as upkeep
use Rattle.oak_step.specs.declared.work.Work.{Work}
use Rattle.oak_step.specs.declared.work.Work.TheVariants as work
use Rattle.oak_sweep.specs.Sweeping as sweeping
use Rattle.oak_sweep.specs.declared.stage.Stage.{Stage as Swept}
use Rattle.oak_sweep.specs.declared.stage.Stage.TheVariants as swept
use Rattle.oak_sweep.specs.declared.sweeper.Sweeper.{Sweeper}
use Rattle.oak_world.specs.Steps.{BeginsBackWrite, MakesBackRead, MakesBackWrite, MakesCommit, MakesState, MakesSweep, MakesUpdate, MakesUpkeep, PassesTo}
use Rattle.oak_world.specs.Worlds.{running_as, with_formers}

module _ (f : Formers) (s : ℕ) (w u : State) where
  abbrev was : State
  was = with_formers w f

  abbrev now : State
  now = with_formers u f

  -- to the same state
  same : (t : State) → u ≡ t → now ≡ with_formers t f
  same t is = ap (λ (x : State). with_formers x f) is

  -- a mark, and a last write, by their results
  marked : (x : Running) (m : Met) (rest : List Met) (r : Result Document OpFault) → with_formers (marked_by w s x m rest r) f ≡ marked_by was s x m rest r
  marked x m rest (Ok d) = refl
  marked x m rest (Err e) = refl

  lasted : (x : Running) (r : Result Document OpFault) → with_formers (lasted_by w s x r) f ≡ lasted_by was s x r
  lasted x (Ok d) = refl
  lasted x (Err (fault.Unmet c (kept.Entry o item))) = refl
  lasted x (Err (fault.Unmet c (kept.Number n))) = refl
  lasted x (Err (fault.Unmet c kept.Nothing)) = refl
  lasted x (Err fault.Absent) = refl
  lasted x (Err fault.Memory) = refl

  update_told : (c d : Committing) (k : StepKind) → MakesUpdate s w c u d k → MakesUpdate s was c now d k
  update_told c d kind.Mark g = (g.0, g.1, g.2, g.3, same _ g.4 ∙ marked (running_as s c) g.0 g.1 (updated (nodes_in w.table (root_of w.past g.0.other)) (mark_op (root_of w.past g.0.other) g.0.other c.revision g.0.theirs) (next_number w.table)), g.5)
  update_told c d kind.Write g = (g.0, g.1, g.2, g.3, g.4, elim g.5 [ inl e ↦ inl (same _ e.0, e.1) | inr e ↦ inr (same _ e.0, e.1) ])
  update_told c d kind.Read g = (g.0, g.1, g.2, elim g.3 [ inl e ↦ inl (same _ e.0, e.1) | inr e ↦ inr (same _ e.0, e.1) ])
  update_told c d kind.Last g = (g.0, g.1, g.2, same _ g.3 ∙ lasted (running_as s c) (updated (nodes_in w.table (commit_root c.marks)) (last_op c.revision c.marks) (next_number w.table)), g.4)
  update_told c d kind.Undo g = (g.0, g.1, g.2, g.3, same _ g.4, g.5)
  update_told c d _ g = absurd g

  commit_told : (c : Committing) (v : Work) (o : StepOut) → MakesCommit s w c u v o → MakesCommit s was c now v o
  commit_told c v o (inl m) = inl (m.0, m.1, m.2, m.3, update_told c m.2 m.0 m.4)
  commit_told c v o (inr (inl m)) = inr (inl (m.0, same _ m.1, m.2))
  commit_told c v o (inr (inr m)) = inr (inr (m.0, m.1, same _ m.2, m.3))

  write_told : (b : BackWrite) (v : Work) (o : StepOut) → MakesBackWrite s w b u v o → MakesBackWrite s was b now v o
  write_told b v (answers.Went kind.Back) h = (h.0, h.1, h.2, same _ h.3, h.4)
  write_told b v (answers.Ready (ends.Published o)) h = (h.0, h.1, same _ h.2, h.3)
  write_told b v answers.Memory h = (same _ h.0, h.1)
  write_told b v _ h = absurd h

  begin_told : (n : Pending) (v : Work) (o : StepOut) → BeginsBackWrite s w n u v o → BeginsBackWrite s was n now v o
  begin_told n v o (inl h) = inl (h.0, same _ h.1, h.2)
  begin_told n v o (inr h) = inr (h.0, h.1, h.2, write_told h.1 v o h.3)

  read_told : (b : BackRead) (v : Work) (o : StepOut) → MakesBackRead s w b u v o → MakesBackRead s was b now v o
  read_told b v (answers.Went kind.Back) h = (h.0, same _ h.1, h.2)
  read_told b v (answers.Ready (ends.Learnt x)) h = (h.0, h.1, same _ h.2, h.3)
  read_told b v answers.Memory h = (same _ h.0, h.1)
  read_told b v _ h = absurd h

  passes_told : (x : Sweeper) (y : Swept) → PassesTo s w x y u → PassesTo s was x y now
  passes_told x swept.Root h = same _ h
  passes_told x swept.Document h = same _ h
  passes_told x swept.Publish h = same _ h
  passes_told x _ h = absurd h

  sweep_told : (x : Sweeper) (v : Work) (o : StepOut) → MakesSweep s w x u v o → MakesSweep s was x now v o
  sweep_told x v (answers.Went kind.Sweep) h = (passes_told x (sweeping.stage_of x) h.0, h.1)
  sweep_told x v (answers.Ready (ends.Swept r)) h = (h.0, h.1, same _ h.2, h.3)
  sweep_told x v answers.Memory h = (same _ h.0, h.1)
  sweep_told x v _ h = absurd h

  upkeep_told : (k : Upkeep) (v : Work) (o : StepOut) → MakesUpkeep s w k u v o → MakesUpkeep s was k now v o
  upkeep_told upkeep.Write v (answers.Went kind.Back) h = (h.0, h.1, same _ h.2, h.3)
  upkeep_told upkeep.Write v answers.Memory h = (same _ h.0, h.1)
  upkeep_told upkeep.Write v _ h = absurd h
  upkeep_told (upkeep.Noted n) v o h = begin_told n v o h
  upkeep_told (upkeep.Publish b) v o h = write_told b v o h
  upkeep_told (upkeep.Read b) v o h = read_told b v o h
  upkeep_told upkeep.Sweep v o h = (h.0, sweep_told (sweeping.begun h.0 (node_of w s)) v o h.1)
  upkeep_told (upkeep.Sweeping x) v o h = sweep_told x v o h
  upkeep_told (upkeep.Checkpoint i) v (answers.Ready (ends.Set None)) h = (h.0, h.1, same _ h.2, h.3)
  upkeep_told (upkeep.Checkpoint i) v answers.Memory h = (same _ h.0, h.1)
  upkeep_told (upkeep.Checkpoint i) v _ h = absurd h
  upkeep_told (upkeep.Release i) v (answers.Ready (ends.Set None)) h = (h.0, same _ h.1, h.2)
  upkeep_told (upkeep.Release i) v (answers.Ready ends.NoCheckpoint) h = (h.0, same _ h.1, h.2)
  upkeep_told (upkeep.Release i) v answers.Memory h = (same _ h.0, h.1)
  upkeep_told (upkeep.Release i) v _ h = absurd h
  upkeep_told (upkeep.Attach i) v (answers.Ready (ends.Set (Some pin))) h = (h.0, same _ h.1, h.2)
  upkeep_told (upkeep.Attach i) v (answers.Ready ends.NoCheckpoint) h = (h.0, same _ h.1, h.2)
  upkeep_told (upkeep.Attach i) v answers.Memory h = (same _ h.0, h.1)
  upkeep_told (upkeep.Attach i) v _ h = absurd h
  upkeep_told upkeep.Detach v (answers.Went kind.Pin) h = (same _ h.0, h.1)
  upkeep_told upkeep.Detach v answers.Memory h = (same _ h.0, h.1)
  upkeep_told upkeep.Detach v _ h = absurd h
  upkeep_told (upkeep.Detaching pin) v (answers.Ready (ends.Pinned o)) h = (h.0, same _ h.1, h.2)
  upkeep_told (upkeep.Detaching pin) v answers.Memory h = (same _ h.0, h.1)
  upkeep_told (upkeep.Detaching pin) v _ h = absurd h
  upkeep_told upkeep.Observe v (answers.Ready (ends.Pinned pin)) h = (h.0, same _ h.1, h.2)
  upkeep_told upkeep.Observe v answers.Memory h = (same _ h.0, h.1)
  upkeep_told upkeep.Observe v _ h = absurd h

  -- a step
  pub makes_told : (x v : Work) (o : StepOut) → MakesState s w x u v o → MakesState s was x now v o
  makes_told work.Login v (answers.Ready (ends.Pinned pin)) h = (same _ h.0, h.1, h.2)
  makes_told work.Login v answers.Memory h = (same _ h.0, h.1)
  makes_told work.Login v _ h = absurd h
  makes_told work.End v (answers.Ready ends.Ended) h = (same _ h.0, h.1)
  makes_told work.End v answers.Memory h = (same _ h.0, h.1)
  makes_told work.End v _ h = absurd h
  makes_told work.Refresh v (answers.Ready (ends.Pinned pin)) h = (same _ h.0, h.1, h.2)
  makes_told work.Refresh v answers.Memory h = (same _ h.0, h.1)
  makes_told work.Refresh v _ h = absurd h
  makes_told (work.Read r) v (answers.Went kind.Read) h = (same _ h.0, h.1, h.2)
  makes_told (work.Read r) v (answers.Ready e) h = (same _ h.0, h.1, h.2)
  makes_told (work.Read r) v answers.Memory h = (same _ h.0, h.1)
  makes_told (work.Read r) v _ h = absurd h
  makes_told (work.Changes r) v (answers.Went kind.Read) h = (same _ h.0, h.1, h.2)
  makes_told (work.Changes r) v (answers.Ready (ends.Changes commits)) h = (same _ h.0, h.1, h.2)
  makes_told (work.Changes r) v answers.Memory h = (same _ h.0, h.1)
  makes_told (work.Changes r) v _ h = absurd h
  makes_told (work.Plan edit marks) v (answers.Went kind.Draw) h = (same _ h.0, h.1)
  makes_told (work.Plan edit marks) v answers.Memory h = (same _ h.0, h.1)
  makes_told (work.Plan edit marks) v _ h = absurd h
  makes_told (work.Commit c) v o h = commit_told c v o h
  makes_told (work.Move r) v (answers.Wait o) h = (same _ h.0, h.1, h.2)
  makes_told (work.Move r) v (answers.Ready (ends.Commit (end.Committed o))) h = (same _ h.0, h.1, h.2, h.3)
  makes_told (work.Move r) v _ h = absurd h
  makes_told (work.Upkeep k) v o h = upkeep_told k v o h
  makes_told (work.Tidy x) v answers.Memory h = (same _ h.0, h.1)
  makes_told (work.Tidy x) v (answers.Went k) h = (same _ h.0, h.1, h.2, h.3)
  makes_told (work.Tidy x) v (answers.Ready e) h = (same _ h.0, h.1, h.2, h.3)
  makes_told (work.Tidy x) v _ h = absurd h.3
  makes_told (work.Told e) v o h = absurd h
  makes_told work.Rest v o h = absurd h
