use Rattle.std.proofs.Common.{sym, ◌∙◌, ap}
use Rattle.serde_json.specs.View.{items_view}
use Rattle.jr_args.specs.Words.{fit_kinds}
use Rattle.jr_args.proofs.Readings.{fails, passes}
use Rattle.jr_args.proofs.commands.fitting.Goals as goal

pub returns-then-fits : goal.returns-then-fits
returns-then-fits c = passes _ 5 _ _ (ap (λ ks. fit_kinds ks (items_view c.args.arguments.now)) (sym c.kinds.ensures) ∙ sym c.fits.ensures ∙ c.if-fits.true) c.call.ensures

pub returns-else-fits : goal.returns-else-fits
returns-else-fits c = fails _ 5 _ _ (ap (λ ks. fit_kinds ks (items_view c.args.arguments.now)) (sym c.kinds.ensures) ∙ sym c.fits.ensures ∙ c.if-fits.false) c.here.ensures
