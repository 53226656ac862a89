use Rattle.jr_stage.specs.Nearing.{ReadsNearer}
use Rattle.jr_stage.proofs.Closing.{only_closes}
use Rattle.jr_stage.proofs.Reading.{read_as}
use Rattle.jr_stage.proofs.stage.Stage.read_inside.Goals as goal

pub returns-in-Read : goal.returns-in-Read
returns-in-Read c =
    only_closes c.args.self.now c.step.new.self c.args.s
    (read_as (ReadsNearer c.args.self.now c.step.new.self c.args.s) c.args.self.now c.step.new.self c.args.s _ c.in-Read.is c.in_ok-step.ensures).0
