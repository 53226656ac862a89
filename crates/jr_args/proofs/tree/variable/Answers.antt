use Rattle.std.proofs.Common.{refl}
use Rattle.jr_args.proofs.Readings.{exits, goes, means}
use Rattle.jr_args.proofs.tree.variable.Goals as goal

pub returns-in_err-name : goal.returns-in_err-name
returns-in_err-name c = exits _ _ _ _ c.from_residual.ensures.1 c.in_err-name.ensures

pub returns-in_err-value : goal.returns-in_err-value
returns-in_err-value c = goes _ _ _ _ c.in_ok-name.ensures (exits _ _ _ _ c.from_residual-in_err-value.ensures.1 c.in_err-value.ensures)

pub returns : goal.returns
returns c = means _ _ _ _ c.in_ok-name.ensures (means _ _ _ _ c.in_ok-value.ensures refl)
