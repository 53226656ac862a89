use Rattle.std.proofs.Common.{refl}
use Rattle.jr_args.proofs.Readings.{exits, goes, means}
use Rattle.jr_script.proofs.reading.session_in.Goals as goal

pub returns-in_err-cluster : goal.returns-in_err-cluster
returns-in_err-cluster c = exits _ _ _ _ c.from_residual.ensures.1 c.in_err-cluster.ensures

pub returns-in_err-commands : goal.returns-in_err-commands
returns-in_err-commands c = goes _ _ _ _ c.in_ok-cluster.ensures (exits _ _ _ _ c.from_residual-in_err-commands.ensures.1 c.in_err-commands.ensures)

pub returns : goal.returns
returns c = means _ _ _ _ c.in_ok-cluster.ensures (means _ _ _ _ c.in_ok-commands.ensures refl)
