-- What a step of each of a session's tasks may answer, and what the session makes of the answer.
use Rattle.std.specs.Prelude.{Bool, true, false, ⊤, Option, None, Some}
use Rattle.jr_rev.specs.declared.vector.Pin.{Pin}
use Rattle.oak_machine.specs.declared.event.StepKind.{StepKind}
use Rattle.oak_machine.specs.declared.event.StepKind.TheVariants as kind
use Rattle.oak_commit.specs.declared.outcome.CommitEnd.{CommitEnd}
use Rattle.oak_commit.specs.declared.outcome.CommitEnd.TheVariants as commit
use Rattle.oak_port.specs.declared.task.StepOut.{StepOut}
use Rattle.oak_port.specs.declared.task.StepOut.TheVariants as out
use Rattle.oak_port.specs.declared.task.TaskEnd.TheVariants as end
use Rattle.jcr_steps.specs.declared.errand.Came.{Came}
use Rattle.jcr_steps.specs.declared.errand.Came.TheVariants as came
use Rattle.jcr_steps.specs.declared.errand.Errand.{Errand}
use Rattle.jcr_steps.specs.declared.errand.Errand.TheVariants as errand
use Rattle.jcr_steps.specs.declared.errand.Told.{Told}
use Rattle.jcr_steps.specs.declared.errand.Told.TheVariants as told
use Rattle.jcr_steps.specs.declared.answers.Attached.{Attached}
use Rattle.jcr_steps.specs.declared.answers.Attached.TheVariants as attached
use Rattle.jcr_steps.specs.declared.answers.Changed.{Changed}
use Rattle.jcr_steps.specs.declared.answers.Changed.TheVariants as changed
use Rattle.jcr_steps.specs.declared.answers.Listed.{Listed}
use Rattle.jcr_steps.specs.declared.answers.Listed.TheVariants as listed
use Rattle.jcr_steps.specs.declared.answers.Loaded.{Loaded}
use Rattle.jcr_steps.specs.declared.answers.Loaded.TheVariants as loaded

-- ---- a login, a refresh or the end of a detach

-- a login, a refresh or a detach ends with a pin, or memory is refused
abbrev pub IsPinAnswer : StepOut → Type 0
IsPinAnswer (out.Ready (end.Pinned pin)) = ⊤
IsPinAnswer out.Memory = ⊤
IsPinAnswer _ = ⊥

-- the pin with which a task ended
abbrev pub pinned_by : StepOut → Option Pin
pinned_by (out.Ready (end.Pinned pin)) = Some pin
pinned_by _ = None

-- ---- a leave

-- a leave ends, or memory is refused
abbrev pub IsLeaveAnswer : StepOut → Type 0
IsLeaveAnswer (out.Ready end.Ended) = ⊤
IsLeaveAnswer out.Memory = ⊤
IsLeaveAnswer _ = ⊥

-- the answer ends a leave
abbrev pub ended_by : StepOut → Bool
ended_by (out.Ready end.Ended) = true
ended_by _ = false

-- ---- a step of reading

-- a node is still being read, is there, or is not, or memory is refused
abbrev pub IsLoadAnswer : StepOut → Type 0
IsLoadAnswer (out.Went k) = ⊤
IsLoadAnswer (out.Ready (end.Node found)) = ⊤
IsLoadAnswer out.Memory = ⊤
IsLoadAnswer _ = ⊥

-- what the answer tells of the node that was being read
abbrev pub loaded_by : StepOut → Loaded
loaded_by (out.Went k) = loaded.Going
loaded_by (out.Ready (end.Node found)) = loaded.Found found
loaded_by _ = loaded.Refused

-- the names of children are still being read, or they are these, or memory is refused
abbrev pub IsListAnswer : StepOut → Type 0
IsListAnswer (out.Went k) = ⊤
IsListAnswer (out.Ready (end.Children names)) = ⊤
IsListAnswer out.Memory = ⊤
IsListAnswer _ = ⊥

-- what the answer tells of the names that were being read
abbrev pub listed_by : StepOut → Listed
listed_by (out.Went k) = listed.Going
listed_by (out.Ready (end.Children names)) = listed.Names names
listed_by _ = listed.Refused

-- what changed is still being read, or it is in these commits, or memory is refused
abbrev pub IsChangesAnswer : StepOut → Type 0
IsChangesAnswer (out.Went k) = ⊤
IsChangesAnswer (out.Ready (end.Changes commits)) = ⊤
IsChangesAnswer out.Memory = ⊤
IsChangesAnswer _ = ⊥

-- what the answer tells of what changed
abbrev pub changed_told : StepOut → Changed
changed_told (out.Went k) = changed.Going
changed_told (out.Ready (end.Changes commits)) = changed.Commits commits
changed_told _ = changed.Refused

-- ---- a commit

-- the first step of a commit draws its revision, that of a detach moves the base, or memory is
-- refused
abbrev pub IsFirstAnswer : StepOut → Type 0
IsFirstAnswer (out.Went k) = ⊤
IsFirstAnswer out.Memory = ⊤
IsFirstAnswer _ = ⊥

-- the step was made, and its task goes on
abbrev pub has_went : StepOut → Bool
has_went (out.Went k) = true
has_went _ = false

-- a step of a commit that has drawn goes on, waits, or ends the commit
abbrev pub IsCommitAnswer : StepOut → Type 0
IsCommitAnswer (out.Went k) = ⊤
IsCommitAnswer (out.Wait q) = ⊤
IsCommitAnswer (out.Ready (end.Commit e)) = ⊤
IsCommitAnswer _ = ⊥

-- the kind of the step with which a commit ended
abbrev pub kind_of_end : CommitEnd → StepKind
kind_of_end (commit.Committed r) = kind.Pin
kind_of_end _ = kind.Finish

-- ---- an attach

-- an attach ends with the pin of its checkpoint, or there is none, or memory is refused
abbrev pub IsAttachAnswer : StepOut → Type 0
IsAttachAnswer (out.Ready (end.Set (Some pin))) = ⊤
IsAttachAnswer (out.Ready end.NoCheckpoint) = ⊤
IsAttachAnswer out.Memory = ⊤
IsAttachAnswer _ = ⊥

-- what the answer tells of it
abbrev pub attached_by : StepOut → Attached
attached_by (out.Ready (end.Set (Some pin))) = attached.To pin
attached_by (out.Ready end.NoCheckpoint) = attached.Missed
attached_by _ = attached.Refused

-- ---- a task of the cluster node or of the settings

-- a step of such a task goes on, or ends it so, or memory is refused
abbrev pub IsErrandAnswer : StepOut → Type 0
IsErrandAnswer (out.Went k) = ⊤
IsErrandAnswer (out.Ready (end.Published r)) = ⊤
IsErrandAnswer (out.Ready (end.Learnt v)) = ⊤
IsErrandAnswer (out.Ready (end.Swept r)) = ⊤
IsErrandAnswer (out.Ready (end.Set pin)) = ⊤
IsErrandAnswer (out.Ready end.NoCheckpoint) = ⊤
IsErrandAnswer (out.Ready (end.Pinned pin)) = ⊤
IsErrandAnswer out.Memory = ⊤
IsErrandAnswer _ = ⊥

-- what the answer tells of the task
abbrev pub came_by : StepOut → Came
came_by (out.Went k) = came.Going k
came_by (out.Ready (end.Published r)) = came.Published r
came_by (out.Ready (end.Learnt v)) = came.Learnt v
came_by (out.Ready (end.Swept r)) = came.Swept r
came_by (out.Ready (end.Set pin)) = came.Set
came_by (out.Ready end.NoCheckpoint) = came.Missed
came_by (out.Ready (end.Pinned pin)) = came.Pinned
came_by _ = came.Refused

-- an ending that the task may have of which this is kept
abbrev pub MayEnd : Came → Errand → Type 0
MayEnd (came.Published r) errand.Write = ⊤
MayEnd (came.Learnt v) errand.Read = ⊤
MayEnd (came.Swept r) errand.Sweep = ⊤
MayEnd came.Set (errand.Checkpoint reply) = ⊤
MayEnd came.Set (errand.Release reply) = ⊤
MayEnd came.Missed (errand.Release reply) = ⊤
MayEnd came.Pinned (errand.Observe filter) = ⊤
MayEnd came.Pinned (errand.Events reply) = ⊤
MayEnd _ _ = ⊥

-- what a step of the task may come to that isn't refused memory
abbrev pub MayCome : Came → Errand → Type 0
MayCome (came.Going k) e = ⊤
MayCome x e = MayEnd x e

-- how a task has ended of which this was kept
abbrev pub told_by : Came → Errand → Told
told_by (came.Published r) e = told.Published r
told_by (came.Learnt v) e = told.Learnt v
told_by (came.Swept r) e = told.Swept r
told_by came.Missed (errand.Release reply) = told.Text reply
told_by came.Missed e = told.Done
told_by came.Pinned (errand.Observe filter) = told.Observed filter
told_by came.Pinned (errand.Events reply) = told.Text reply
told_by _ (errand.Checkpoint reply) = told.Text reply
told_by _ e = told.Done

-- the kind of the step with which it ended
abbrev pub kind_told : Came → StepKind
kind_told (came.Published r) = kind.Back
kind_told (came.Learnt v) = kind.Learn
kind_told (came.Swept r) = kind.Learn
kind_told came.Pinned = kind.Pin
kind_told _ = kind.Settings
