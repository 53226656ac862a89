use Rattle.std.proofs.Common.{refl}
use Rattle.jr_args.proofs.Readings.{exits, goes, means}
use Rattle.jr_args.proofs.commands.label.Goals as goal

pub returns-in_err-path : goal.returns-in_err-path
returns-in_err-path c = exits _ _ _ _ c.from_residual.ensures.1 c.in_err-path.ensures

pub returns-in_err-label : goal.returns-in_err-label
returns-in_err-label c = goes _ _ _ _ c.in_ok-path.ensures (exits _ _ _ _ c.from_residual-in_err-label.ensures.1 c.in_err-label.ensures)

pub returns : goal.returns
returns c = means _ _ _ _ c.in_ok-path.ensures (means _ _ _ _ c.in_ok-label.ensures (rw (c.in_ok-version.ensures, c.text_at.ensures, c.truth_at.ensures) refl))
