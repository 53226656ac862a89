use Rattle.std.proofs.Common.{◌+◌, cond}
use Rattle.jr_stage.specs.Nearing.{works_at, steps_at}
use Rattle.jr_stage.proofs.Going.{HasWorkedOn}
use Rattle.jr_stage.proofs.stage.Stage.work_on.Given as goal

-- steps of the task alone were made so far
abbrev pub invariant-task : goal.invariant-task
invariant-task l = HasWorkedOn l.initial.self l.self l.s l.until

-- the steps that are left of it
abbrev pub decreases-task : goal.decreases-task
decreases-task l = cond (works_at l.self l.s) (steps_at l.self l.s + 1) 0
