use Rattle.std.proofs.Common.{refl}
use Rattle.jr_args.proofs.Readings.{exits, means}
use Rattle.jr_args.proofs.commands.on_path.Goals as goal

pub returns-in_err-path : goal.returns-in_err-path
returns-in_err-path c = exits _ _ _ _ c.from_residual.ensures.1 c.in_err-path.ensures

pub returns : goal.returns
returns c = means _ _ _ _ c.in_ok-path.ensures (rw c.command.ensures refl)
