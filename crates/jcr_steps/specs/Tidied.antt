-- What a step of a split or of a collection may answer, and what the session makes of the answer.
use Rattle.std.specs.Prelude.{⊤}
use Rattle.oak_port.specs.declared.task.StepOut.{StepOut}
use Rattle.oak_port.specs.declared.task.StepOut.TheVariants as out
use Rattle.oak_port.specs.declared.task.TaskEnd.TheVariants as end
use Rattle.jcr_steps.specs.declared.tidying.Tidied.TheVariants as tidied
use Rattle.jcr_steps.specs.declared.tidying.TidyCame.{TidyCame}
use Rattle.jcr_steps.specs.declared.tidying.TidyCame.TheVariants as came

-- a step of a split or of a collection goes on, or ends it so, or memory is refused
abbrev pub IsTidyAnswer : StepOut → Type 0
IsTidyAnswer (out.Went k) = ⊤
IsTidyAnswer (out.Ready (end.Split e)) = ⊤
IsTidyAnswer (out.Ready (end.Collected c)) = ⊤
IsTidyAnswer out.Memory = ⊤
IsTidyAnswer _ = ⊥

-- what the answer tells of it
abbrev pub tidy_told : StepOut → TidyCame
tidy_told (out.Went k) = came.Going k
tidy_told (out.Ready (end.Split e)) = came.Ended (tidied.Split e)
tidy_told (out.Ready (end.Collected c)) = came.Ended (tidied.Collected c)
tidy_told _ = came.Refused
