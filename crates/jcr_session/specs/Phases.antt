-- Where a session stands behind a step of its commit or of another task, and what its turn was.
use Rattle.oak_commit.specs.declared.outcome.CommitEnd.{CommitEnd}
use Rattle.oak_machine.specs.declared.event.StepKind.TheVariants as kind
use Rattle.oak_port.specs.declared.task.StepOut.{StepOut}
use Rattle.oak_port.specs.declared.task.StepOut.TheVariants as out
use Rattle.oak_port.specs.declared.task.TaskEnd.TheVariants as end
use Rattle.jcr_steps.specs.declared.errand.Came.{Came}
use Rattle.jcr_steps.specs.declared.errand.Came.TheVariants as came
use Rattle.jcr_steps.specs.declared.errand.Errand.{Errand}
use Rattle.jcr_steps.specs.Answered.{kind_of_end, kind_told, told_by}
use Rattle.jcr_run.specs.declared.run.Phase.{Phase}
use Rattle.jcr_run.specs.declared.run.Phase.TheVariants as phase
use Rattle.jcr_run.specs.declared.turn.Turn.{Turn}
use Rattle.jcr_run.specs.declared.turn.Turn.TheVariants as turn

-- the turn of a commit, by what its step answered
abbrev pub turn_by : StepOut → Turn
turn_by (out.Went kind.Read) = turn.Read
turn_by (out.Went k) = turn.Stepped k
turn_by (out.Wait q) = turn.Waiting q
turn_by (out.Ready (end.Commit e)) = turn.Stepped (kind_of_end e)
turn_by _ = turn.Memory

-- where the session stands whose commit has ended so
abbrev pub ended_phase : CommitEnd → Phase → Phase
ended_phase e (phase.Committing pledge) = phase.Committed e pledge
ended_phase e now = now

-- where the session stands in its commit, by what the step answered
abbrev pub phase_by : StepOut → Phase → Phase
phase_by (out.Ready (end.Commit e)) now = ended_phase e now
phase_by _ now = now

-- the turn of a task that wasn't refused memory, by what its step came to
abbrev pub turn_came : Came → Turn
turn_came (came.Going k) = turn.Stepped k
turn_came x = turn.Stepped (kind_told x)

-- where the session stands behind a step of a task that wasn't refused memory, by what that step
-- came to
abbrev pub phase_came : Came → Errand → Phase
phase_came (came.Going k) e = phase.Working e
phase_came x e = phase.Told (told_by x e)
