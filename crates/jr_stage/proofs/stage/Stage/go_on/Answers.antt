use Rattle.std.proofs.Common.{◌∙◌}
use Rattle.jr_stage.specs.Stages.{IsNearerOrCome}
use Rattle.jr_stage.proofs.Going.{ends_at_once, goes_on, to_as}
use Rattle.jr_stage.proofs.Reaching.{seats_on}
use Rattle.jr_stage.proofs.stage.Stage.go_on.Goals as goal

pub work_on-requires-clause-stage : goal.work_on-requires-clause-stage
work_on-requires-clause-stage c = (to_as c.args.self.now c.turn.new.self c.args.s c.args.until _ _ c.in-Stepped.is c.in_ok-turn.ensures).come.stage

pub work_on-requires-clause-there : goal.work_on-requires-clause-there
work_on-requires-clause-there c =
    let short = to_as c.args.self.now c.turn.new.self c.args.s c.args.until _ _ c.in-Stepped.is c.in_ok-turn.ensures in
    seats_on c.args.self.now c.turn.new.self c.args.s c.requires.stage short.come.stage (short.come.script ∙ short.reads.script) c.requires.there

pub returns-in-Stepped : goal.returns-in-Stepped
returns-in-Stepped c =
    goes_on c.args.self.now c.turn.new.self c.work_on.new.self c.args.s c.args.until _
    (to_as c.args.self.now c.turn.new.self c.args.s c.args.until _ _ c.in-Stepped.is c.in_ok-turn.ensures) c.work_on.result c.work_on.ensures

pub returns-in_default : goal.returns-in_default
returns-in_default c =
    ends_at_once (IsNearerOrCome c.args.self.now c.turn.new.self c.args.s c.args.until) c.args.self.now c.turn.new.self c.args.s c.args.until _
    c.in_default.not-Stepped c.in_ok-turn.ensures
