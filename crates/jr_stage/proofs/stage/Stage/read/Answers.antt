use Rattle.jr_stage.proofs.Taking.{session_there}
use Rattle.jr_stage.proofs.stage.Stage.read.Goals as goal

pub due-requires : goal.due-requires
due-requires c = session_there c.args.self.now c.requires.stage c.args.s c.requires.there
