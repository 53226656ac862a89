use Rattle.std.proofs.Common.{◌∙◌, sym}
use Rattle.jr_stage.specs.Stages.{IsEntryOver}
use Rattle.jr_stage.proofs.Going.{is_short, task_begins, task_come, task_ends, task_sooner, task_steps, task_through, to_as}
use Rattle.jr_stage.proofs.Reaching.{as_many, seats_on}
use Rattle.jr_stage.proofs.stage.Stage.work_on.Goals as goal

pub task-init : goal.task-init
task-init c = task_begins c.args.self.now c.args.s c.args.until c.requires.stage

pub is_under_way-requires-clause-there : goal.is_under_way-requires-clause-there
is_under_way-requires-clause-there c = seats_on c.args.self.now c.task.self c.args.s c.requires.stage c.task.invariant.stage_is c.task.invariant.script c.requires.there

pub is_under_way-requires-clause-seats : goal.is_under_way-requires-clause-seats
is_under_way-requires-clause-seats c = as_many c.task.self c.task.invariant.stage_is

pub turn-requires-clause-stage : goal.turn-requires-clause-stage
turn-requires-clause-stage c = c.task.invariant.stage_is

pub turn-requires-clause-there : goal.turn-requires-clause-there
turn-requires-clause-there c = seats_on c.args.self.now c.task.self c.args.s c.requires.stage c.task.invariant.stage_is c.task.invariant.script c.requires.there

pub turn-requires-clause-short : goal.turn-requires-clause-short
turn-requires-clause-short c = is_short c.task.self c.args.s c.args.until (sym c.is_under_way.ensures ∙ c.task-test.true)

pub returns : goal.returns
returns c = task_through c.args.self.now c.task.self c.args.s c.args.until c.task.invariant (sym c.is_under_way.ensures ∙ c.task-test.false)

pub returns-in-Read : goal.returns-in-Read
returns-in-Read c =
    task_come c.args.self.now c.task.self c.args.s c.args.until c.task.invariant (sym c.is_under_way.ensures ∙ c.task-test.true) c.turn.new.self
    (to_as c.task.self c.turn.new.self c.args.s c.args.until _ _ c.in-Read.is c.in_ok-turn.ensures)

pub returns-in_default : goal.returns-in_default
returns-in_default c =
    task_ends c.args.self.now c.task.self c.args.s c.args.until c.task.invariant (sym c.is_under_way.ensures ∙ c.task-test.true) c.turn.new.self
    (IsEntryOver c.args.self.now c.turn.new.self c.args.s c.args.until) _ c.in_default.not-Stepped c.in_ok-turn.ensures

pub task-preserved : goal.task-preserved
task-preserved c =
    task_steps c.args.self.now c.task.self c.args.s c.args.until c.task.invariant (sym c.is_under_way.ensures ∙ c.task-test.true) c.turn.new.self _
    (to_as c.task.self c.turn.new.self c.args.s c.args.until _ _ c.in-Stepped.is c.in_ok-turn.ensures)

pub task-smaller : goal.task-smaller
task-smaller c =
    task_sooner c.args.self.now c.task.self c.args.s c.args.until c.task.invariant (sym c.is_under_way.ensures ∙ c.task-test.true) c.turn.new.self _
    (to_as c.task.self c.turn.new.self c.args.s c.args.until _ _ c.in-Stepped.is c.in_ok-turn.ensures)
