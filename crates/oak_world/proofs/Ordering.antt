-- What updates and undoings keep of a table, each step of a session that tidies nothing keeps.
use Rattle.std.proofs.Common.{◌≡◌, ◌≢◌, inl, inr, ℕ, Some, None, [], sym, refl, subst}
use Rattle.jr_path.specs.declared.path.DocId.TheVariants as id
use Rattle.jr_path.specs.declared.path.Path.{Path}
use Rattle.jr_rev.specs.declared.revision.Revision.{Revision}
use Rattle.oak_commit.specs.Clashing.{mark_op}
use Rattle.oak_commit.specs.Committing.{Committing}
use Rattle.oak_commit.specs.Writing.{last_op, write_op}
use Rattle.oak_commit.specs.declared.outcome.CommitEnd.TheVariants as end
use Rattle.oak_doc.specs.declared.update.Change.{Change}
use Rattle.oak_doc.specs.declared.update.Change.TheVariants as change
use Rattle.oak_doc.specs.declared.update.UpdateOp.{UpdateOp}
use Rattle.oak_machine.specs.declared.event.StepKind.{StepKind}
use Rattle.oak_machine.specs.declared.event.StepKind.TheVariants as kind
use Rattle.oak_node.specs.declared.pending.Pending.{Pending}
use Rattle.oak_port.specs.declared.task.StepOut.{StepOut}
use Rattle.oak_port.specs.declared.task.StepOut.TheVariants as answers
use Rattle.oak_port.specs.declared.task.TaskEnd.TheVariants as ends
use Rattle.oak_store.specs.Tables.{Table, after_undo}
use Rattle.oak_sync.specs.Publishing.{back_op}
use Rattle.oak_sync.specs.declared.back_read.BackRead.{BackRead}
use Rattle.oak_sync.specs.declared.back_write.BackWrite.{BackWrite}
use Rattle.core_clash.specs.Core.{root_of}
use Rattle.core_world.specs.States.{State, node_of}
use Rattle.core_world.specs.Steps.{after_update, setting_op}
use Rattle.core_world.proofs.Tabled.{last_table, mark_table}
use Rattle.oak_step.specs.declared.upkeep.Upkeep.{Upkeep}
use Rattle.oak_step.specs.declared.upkeep.Upkeep.TheVariants as upkeep
use Rattle.oak_step.specs.declared.work.Work.{Work}
use Rattle.oak_step.specs.declared.work.Work.TheVariants as work
use Rattle.oak_sweep.specs.Sweeping as sweeping
use Rattle.oak_sweep.specs.declared.stage.Stage.{Stage as Swept}
use Rattle.oak_sweep.specs.declared.stage.Stage.TheVariants as swept
use Rattle.oak_sweep.specs.declared.sweeper.Sweeper.{Sweeper}
use Rattle.oak_tidy.specs.declared.tidying.Tidying.{Tidying}
use Rattle.oak_world.specs.Steps.{BeginsBackWrite, MakesBackRead, MakesBackWrite, MakesCommit, MakesState, MakesSweep, MakesUpdate, MakesUpkeep, PassesTo}
use Rattle.oak_world.specs.Worlds.{running_as}

-- what each update and each undoing of a node's document keeps of a table
pub record IsKeptByUpdates (P : Table → Type 0) : Type 0 where
  pub update : (t : Table) (op : UpdateOp) → P t → P (after_update t op)
  pub undo : (t : Table) (p : Path) (r : Revision) → P t → P (after_undo t (id.Node p) r)

module _ (P : Table → Type 0) (keeps : IsKeptByUpdates P) (s : ℕ) (w u : State) (was : P w.table) where
  -- the documents of a state that is this one
  at : (t : State) → u ≡ t → P t.table → P u.table
  at t is h = subst (λ (x : State). P x.table) (sym is) h

  -- a state of these documents
  still : (t : State) → u ≡ t → t.table ≡ w.table → P u.table
  still t is same = at t is (subst P (sym same) was)

  updates : (t : State) → u ≡ t → (op : UpdateOp) → t.table ≡ after_update w.table op → P u.table
  updates t is op same = at t is (subst P (sym same) (keeps.update w.table op was))

  settings : (t : State) → u ≡ t → (c : Change) → t.table ≡ after_update w.table (setting_op c) → P u.table
  settings t is c same = updates t is (setting_op c) same

  update_keeps : (c d : Committing) (k : StepKind) → MakesUpdate s w c u d k → P u.table
  update_keeps c d kind.Mark g = updates _ g.4 (mark_op (root_of w.past g.0.other) g.0.other c.revision g.0.theirs) (mark_table w s (running_as s c) g.0 g.1)
  update_keeps c d kind.Write g = elim g.5 [
    | inl e ↦ updates _ e.0 (write_op c.revision c.edit.writes c.marks g.0) refl
    | inr e ↦ updates _ e.0 (write_op c.revision c.edit.writes c.marks g.0) refl
  ]
  update_keeps c d kind.Read g = elim g.3 [ inl e ↦ still _ e.0 refl | inr e ↦ still _ e.0 refl ]
  update_keeps c d kind.Last g = updates _ g.3 (last_op c.revision c.marks) (last_table w s (running_as s c))
  update_keeps c d kind.Undo g = at _ g.4 (keeps.undo w.table g.0 c.revision was)
  update_keeps c d _ g = absurd g

  commit_keeps : (c : Committing) (v : Work) (o : StepOut) → MakesCommit s w c u v o → P u.table
  commit_keeps c v o (inl m) = update_keeps c m.2 m.0 m.4
  commit_keeps c v o (inr (inl m)) = still _ m.1 refl
  commit_keeps c v o (inr (inr m)) = still _ m.2 refl

  write_keeps : (b : BackWrite) (v : Work) (o : StepOut) → MakesBackWrite s w b u v o → P u.table
  write_keeps b v (answers.Went kind.Back) h = updates _ h.3 (back_op h.1 b.upto) refl
  write_keeps b v (answers.Ready (ends.Published o)) h = updates _ h.2 (back_op [] b.upto) refl
  write_keeps b v answers.Memory h = still _ h.0 refl
  write_keeps b v _ h = absurd h

  begin_keeps : (n : Pending) (v : Work) (o : StepOut) → BeginsBackWrite s w n u v o → P u.table
  begin_keeps n v o (inl h) = still _ h.1 refl
  begin_keeps n v o (inr h) = write_keeps h.1 v o h.3

  read_keeps : (b : BackRead) (v : Work) (o : StepOut) → MakesBackRead s w b u v o → P u.table
  read_keeps b v (answers.Went kind.Back) h = still _ h.1 refl
  read_keeps b v (answers.Ready (ends.Learnt x)) h = still _ h.2 refl
  read_keeps b v answers.Memory h = still _ h.0 refl
  read_keeps b v _ h = absurd h

  passes_keep : (x : Sweeper) (y : Swept) → PassesTo s w x y u → P u.table
  passes_keep x swept.Root h = still _ h refl
  passes_keep x swept.Document h = still _ h refl
  passes_keep x swept.Publish h = updates _ h (sweeping.sweep_op x.target) refl
  passes_keep x _ h = absurd h

  sweep_keeps : (x : Sweeper) (v : Work) (o : StepOut) → MakesSweep s w x u v o → P u.table
  sweep_keeps x v (answers.Went kind.Sweep) h = passes_keep x (sweeping.stage_of x) h.0
  sweep_keeps x v (answers.Ready (ends.Swept r)) h = still _ h.2 refl
  sweep_keeps x v answers.Memory h = still _ h.0 refl
  sweep_keeps x v _ h = absurd h

  upkeep_keeps : (k : Upkeep) (v : Work) (o : StepOut) → MakesUpkeep s w k u v o → P u.table
  upkeep_keeps upkeep.Write v (answers.Went kind.Back) h = still _ h.2 refl
  upkeep_keeps upkeep.Write v answers.Memory h = still _ h.0 refl
  upkeep_keeps upkeep.Write v _ h = absurd h
  upkeep_keeps (upkeep.Noted n) v o h = begin_keeps n v o h
  upkeep_keeps (upkeep.Publish b) v o h = write_keeps b v o h
  upkeep_keeps (upkeep.Read b) v o h = read_keeps b v o h
  upkeep_keeps upkeep.Sweep v o h = sweep_keeps (sweeping.begun h.0 (node_of w s)) v o h.1
  upkeep_keeps (upkeep.Sweeping x) v o h = sweep_keeps x v o h
  upkeep_keeps (upkeep.Checkpoint i) v (answers.Ready (ends.Set None)) h = settings _ h.2 (change.Checkpoint i h.0) refl
  upkeep_keeps (upkeep.Checkpoint i) v answers.Memory h = still _ h.0 refl
  upkeep_keeps (upkeep.Checkpoint i) v _ h = absurd h
  upkeep_keeps (upkeep.Release i) v (answers.Ready (ends.Set None)) h = settings _ h.1 (change.Release i) refl
  upkeep_keeps (upkeep.Release i) v (answers.Ready ends.NoCheckpoint) h = settings _ h.1 (change.Release i) refl
  upkeep_keeps (upkeep.Release i) v answers.Memory h = still _ h.0 refl
  upkeep_keeps (upkeep.Release i) v _ h = absurd h
  upkeep_keeps (upkeep.Attach i) v (answers.Ready (ends.Set (Some pin))) h = settings _ h.1 (change.Attach s i) refl
  upkeep_keeps (upkeep.Attach i) v (answers.Ready ends.NoCheckpoint) h = settings _ h.1 (change.Attach s i) refl
  upkeep_keeps (upkeep.Attach i) v answers.Memory h = still _ h.0 refl
  upkeep_keeps (upkeep.Attach i) v _ h = absurd h
  upkeep_keeps upkeep.Detach v (answers.Went kind.Pin) h = still _ h.0 refl
  upkeep_keeps upkeep.Detach v answers.Memory h = still _ h.0 refl
  upkeep_keeps upkeep.Detach v _ h = absurd h
  upkeep_keeps (upkeep.Detaching pin) v (answers.Ready (ends.Pinned o)) h = settings _ h.1 (change.Detach s) refl
  upkeep_keeps (upkeep.Detaching pin) v answers.Memory h = still _ h.0 refl
  upkeep_keeps (upkeep.Detaching pin) v _ h = absurd h
  upkeep_keeps upkeep.Observe v (answers.Ready (ends.Pinned pin)) h = still _ h.1 refl
  upkeep_keeps upkeep.Observe v answers.Memory h = still _ h.0 refl
  upkeep_keeps upkeep.Observe v _ h = absurd h

  -- a step of a session that tidies nothing
  pub makes_keep : (x v : Work) (o : StepOut) → ((y : Tidying) → x ≢ work.Tidy y) → MakesState s w x u v o → P u.table
  makes_keep work.Login v (answers.Ready (ends.Pinned pin)) apart h = still _ h.0 refl
  makes_keep work.Login v answers.Memory apart h = still _ h.0 refl
  makes_keep work.Login v _ apart h = absurd h
  makes_keep work.End v (answers.Ready ends.Ended) apart h = still _ h.0 refl
  makes_keep work.End v answers.Memory apart h = still _ h.0 refl
  makes_keep work.End v _ apart h = absurd h
  makes_keep work.Refresh v (answers.Ready (ends.Pinned pin)) apart h = still _ h.0 refl
  makes_keep work.Refresh v answers.Memory apart h = still _ h.0 refl
  makes_keep work.Refresh v _ apart h = absurd h
  makes_keep (work.Read r) v (answers.Went kind.Read) apart h = still _ h.0 refl
  makes_keep (work.Read r) v (answers.Ready e) apart h = still _ h.0 refl
  makes_keep (work.Read r) v answers.Memory apart h = still _ h.0 refl
  makes_keep (work.Read r) v _ apart h = absurd h
  makes_keep (work.Changes r) v (answers.Went kind.Read) apart h = still _ h.0 refl
  makes_keep (work.Changes r) v (answers.Ready (ends.Changes commits)) apart h = still _ h.0 refl
  makes_keep (work.Changes r) v answers.Memory apart h = still _ h.0 refl
  makes_keep (work.Changes r) v _ apart h = absurd h
  makes_keep (work.Plan edit marks) v (answers.Went kind.Draw) apart h = still _ h.0 refl
  makes_keep (work.Plan edit marks) v answers.Memory apart h = still _ h.0 refl
  makes_keep (work.Plan edit marks) v _ apart h = absurd h
  makes_keep (work.Commit c) v o apart h = commit_keeps c v o h
  makes_keep (work.Move r) v (answers.Wait o) apart h = still _ h.0 refl
  makes_keep (work.Move r) v (answers.Ready (ends.Commit (end.Committed o))) apart h = still _ h.0 refl
  makes_keep (work.Move r) v _ apart h = absurd h
  makes_keep (work.Upkeep k) v o apart h = upkeep_keeps k v o h
  makes_keep (work.Tidy y) v o apart h = absurd (apart y refl)
  makes_keep (work.Told e) v o apart h = absurd h
  makes_keep work.Rest v o apart h = absurd h
