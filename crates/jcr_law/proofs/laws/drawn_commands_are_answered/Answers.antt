use Rattle.jcr_law.proofs.Answered.{answered_after}
use Rattle.jcr_law.proofs.laws.drawn_commands_are_answered.Goals as goal

pub returns : goal.returns
returns c = answered_after
