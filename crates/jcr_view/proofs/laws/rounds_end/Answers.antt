use Rattle.jcr_view.proofs.RoundsEnd.{few_loads}
use Rattle.jcr_view.proofs.laws.rounds_end.Goals as goal

pub returns : goal.returns
returns c = λ who t k changed command loads agrees over rounds. few_loads who t changed over command k loads agrees rounds
