use Rattle.serde_json.specs.View.{view}
use Rattle.jr_args.proofs.Grammar.{no_value}
use Rattle.jr_args.proofs.values.value.Goals as goal

pub returns-in_err-value : goal.returns-in_err-value
returns-in_err-value c = no_value (view c.args.json.now) _ _ c.from_residual.ensures.1 c.in_err-value.ensures
