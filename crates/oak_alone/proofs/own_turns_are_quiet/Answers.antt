use Rattle.oak_alone.proofs.own_turns_are_quiet.Goals as goal
use Rattle.oak_alone.proofs.Quiet.{own_turns_are_quiet}

pub returns : goal.returns
returns g c = own_turns_are_quiet g.row.L.Denot
