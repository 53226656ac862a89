use Rattle.std.proofs.Common.{refl}
use Rattle.jr_args.proofs.Readings.{exits, means}
use Rattle.jr_args.proofs.commands.query.Goals as goal

pub returns-in_err-variables : goal.returns-in_err-variables
returns-in_err-variables c = exits _ _ _ _ c.from_residual.ensures.1 c.in_err-variables.ensures

pub returns : goal.returns
returns c = means _ _ _ _ c.in_ok-variables.ensures (rw (c.in_ok-text.ensures, c.text_at.ensures) refl)
