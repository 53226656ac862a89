use Rattle.std.proofs.Common.{◌∙◌, sym}
use Rattle.jr_stage.proofs.Reaching.{place_of_seat}
use Rattle.jr_stage.proofs.stage.Stage.place.Goals as goal

pub returns : goal.returns
returns c = c.place_of.ensures ∙ sym (place_of_seat c.args.self.now c.args.s c.index.result.now c.requires c.index.ensures)
