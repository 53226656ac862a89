use Rattle.std.proofs.Common.{◌∙◌, sym}
use Rattle.jr_stage.proofs.Reaching.{works_of_seat}
use Rattle.jr_stage.proofs.stage.Stage.is_working.Goals as goal

pub returns : goal.returns
returns c = c.is_working.ensures ∙ sym (works_of_seat c.args.self.now c.args.s c.index.result.now c.requires c.index.ensures)
