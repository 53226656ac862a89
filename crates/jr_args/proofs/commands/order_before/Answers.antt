use Rattle.std.proofs.Common.{refl}
use Rattle.jr_args.proofs.Readings.{exits, goes, means}
use Rattle.jr_args.proofs.commands.order_before.Goals as goal

pub returns-in_err-path : goal.returns-in_err-path
returns-in_err-path c = exits _ _ _ _ c.from_residual.ensures.1 c.in_err-path.ensures

pub returns-in_err-name : goal.returns-in_err-name
returns-in_err-name c = goes _ _ _ _ c.in_ok-path.ensures (exits _ _ _ _ c.from_residual-in_err-name.ensures.1 c.in_err-name.ensures)

pub returns : goal.returns
returns c = means _ _ _ _ c.in_ok-path.ensures (means _ _ _ _ c.in_ok-name.ensures refl)
