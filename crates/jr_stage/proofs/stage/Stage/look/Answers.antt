use Rattle.std.proofs.Common.{◌≡◌}
use Rattle.jr_stage.specs.Nearing.{ReadsLess, ReadsNearer}
use Rattle.jr_stage.proofs.Reaching.{seats_on}
use Rattle.jr_stage.proofs.Reading.{comes_anyway, look_through, read_as}
use Rattle.jr_stage.proofs.stage.Stage.look.Goals as goal

pub read_on-requires-clause-stage : goal.read_on-requires-clause-stage
read_on-requires-clause-stage c = (read_as (ReadsNearer c.args.self.now c.step.new.self c.args.s) c.args.self.now c.step.new.self c.args.s _ c.in-Read.is c.in_ok-turn.ensures).0.stage

pub read_on-requires-clause-there : goal.read_on-requires-clause-there
read_on-requires-clause-there c =
    let only = (read_as (ReadsNearer c.args.self.now c.step.new.self c.args.s) c.args.self.now c.step.new.self c.args.s _ c.in-Read.is c.in_ok-turn.ensures).0 in
    seats_on c.args.self.now c.step.new.self c.args.s c.requires.stage only.stage only.script c.requires.there

pub returns-in-Read : goal.returns-in-Read
returns-in-Read c =
    let read = read_as (ReadsNearer c.args.self.now c.step.new.self c.args.s) c.args.self.now c.step.new.self c.args.s _ c.in-Read.is c.in_ok-turn.ensures in
    look_through c.args.self.now c.step.new.self c.read_on.new.self c.args.s read.0 read.1 c.read_on.result c.read_on.ensures.apart c.read_on.ensures.reads

pub returns-in_default : goal.returns-in_default
returns-in_default c = comes_anyway _ (ReadsLess c.args.self.now c.step.new.self c.args.s) c.args.self.now c.step.new.self c.args.s _ c.in_default.not-Read c.in_ok-turn.ensures
