-- Background work, a sweep and a change of the settings keep no places of the journal.
use Rattle.std.proofs.Common.{◌≡◌, inl, inr, ap}
use Rattle.std.specs.Prelude.{None, Some}
use Rattle.oak_machine.specs.declared.event.StepKind.TheVariants as kind
use Rattle.oak_node.specs.declared.pending.Pending.{Pending}
use Rattle.oak_port.specs.declared.task.StepOut.{StepOut}
use Rattle.oak_port.specs.declared.task.StepOut.TheVariants as answers
use Rattle.oak_port.specs.declared.task.TaskEnd.TheVariants as ends
use Rattle.oak_sweep.specs.Sweeping.{begun}
use Rattle.oak_sweep.specs.declared.sweeper.Sweeper.{Sweeper}
use Rattle.oak_sync.specs.declared.back_read.BackRead.{BackRead}
use Rattle.oak_sync.specs.declared.back_write.BackWrite.{BackWrite}
use Rattle.oak_step.specs.declared.work.Work.{Work}
use Rattle.oak_step.specs.declared.upkeep.Upkeep.{Upkeep}
use Rattle.oak_step.specs.declared.upkeep.Upkeep.TheVariants as upkeep
use Rattle.oak_step.specs.Parts.{KeepsUp, LearnsOn, PassesOn, PublishesFirst, PublishesOn, Stepping, needed}
use Rattle.oak_saves.specs.Saves.{Parts}

module _ (a : Stepping) (q : Parts) (v : Work) where
  publishes_free : (b : BackWrite) (o : StepOut) → PublishesOn a b q v o → needed v ≡ 0
  publishes_free b (answers.Went kind.Back) h = ap needed h.2
  publishes_free b (answers.Ready (ends.Published o)) h = ap needed h.3
  publishes_free b answers.Memory h = ap needed h.1
  publishes_free b _ h = absurd h

  begins_free : (n : Pending) (o : StepOut) → PublishesFirst a n q v o → needed v ≡ 0
  begins_free n o (inl h) = ap needed h.1.1
  begins_free n o (inr h) = publishes_free h.1 o h.3

  learns_free : (b : BackRead) (o : StepOut) → LearnsOn a b q v o → needed v ≡ 0
  learns_free b (answers.Went kind.Back) h = ap needed h.2
  learns_free b (answers.Ready (ends.Learnt u)) h = ap needed h.3
  learns_free b answers.Memory h = ap needed h.1
  learns_free b _ h = absurd h

  passes_free : (x : Sweeper) (o : StepOut) → PassesOn a x q v o → needed v ≡ 0
  passes_free x (answers.Went kind.Sweep) h = ap needed h.2
  passes_free x (answers.Ready (ends.Swept r)) h = ap needed h.3
  passes_free x answers.Memory h = ap needed h.1
  passes_free x _ h = absurd h

  pub keeps_free : (u : Upkeep) (o : StepOut) → KeepsUp a u q v o → needed v ≡ 0
  keeps_free upkeep.Write (answers.Went kind.Back) h = ap needed h.3
  keeps_free upkeep.Write answers.Memory h = ap needed h.1
  keeps_free upkeep.Write _ h = absurd h
  keeps_free (upkeep.Noted n) o h = begins_free n o h
  keeps_free (upkeep.Publish b) o h = publishes_free b o h
  keeps_free (upkeep.Read b) o h = learns_free b o h
  keeps_free upkeep.Sweep o h = passes_free (begun h.0 a.node) o h.1
  keeps_free (upkeep.Sweeping x) o h = passes_free x o h
  keeps_free (upkeep.Checkpoint i) (answers.Ready (ends.Set None)) h = ap needed h.3
  keeps_free (upkeep.Checkpoint i) answers.Memory h = ap needed h.1
  keeps_free (upkeep.Checkpoint i) _ h = absurd h
  keeps_free (upkeep.Release i) (answers.Ready (ends.Set None)) h = ap needed h.2
  keeps_free (upkeep.Release i) (answers.Ready ends.NoCheckpoint) h = ap needed h.2
  keeps_free (upkeep.Release i) answers.Memory h = ap needed h.1
  keeps_free (upkeep.Release i) _ h = absurd h
  keeps_free (upkeep.Attach i) (answers.Ready (ends.Set (Some pin))) h = ap needed h.2
  keeps_free (upkeep.Attach i) (answers.Ready ends.NoCheckpoint) h = ap needed h.2
  keeps_free (upkeep.Attach i) answers.Memory h = ap needed h.1
  keeps_free (upkeep.Attach i) _ h = absurd h
  keeps_free upkeep.Detach (answers.Went kind.Pin) h = ap needed h.1
  keeps_free upkeep.Detach answers.Memory h = ap needed h.1
  keeps_free upkeep.Detach _ h = absurd h
  keeps_free (upkeep.Detaching pin) (answers.Ready (ends.Pinned o)) h = ap needed h.2
  keeps_free (upkeep.Detaching pin) answers.Memory h = ap needed h.1
  keeps_free (upkeep.Detaching pin) _ h = absurd h
  keeps_free upkeep.Observe (answers.Ready (ends.Pinned pin)) h = ap needed h.2
  keeps_free upkeep.Observe answers.Memory h = ap needed h.1
  keeps_free upkeep.Observe _ h = absurd h
