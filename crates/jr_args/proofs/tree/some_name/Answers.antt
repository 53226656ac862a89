use Rattle.std.proofs.Common.{refl}
use Rattle.jr_args.proofs.Readings.{exits, means}
use Rattle.jr_args.proofs.tree.some_name.Goals as goal

pub returns-in_err-name : goal.returns-in_err-name
returns-in_err-name c = exits _ _ _ _ c.from_residual.ensures.1 c.in_err-name.ensures

pub returns : goal.returns
returns c = means _ _ _ _ c.in_ok-name.ensures refl
