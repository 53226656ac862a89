use Rattle.serde_json.specs.View.{view}
use Rattle.jr_defs.specs.Reading.{IsSomeNameJson}
use Rattle.jr_defs.proofs.ByParts.{exits, some_is_name}
use Rattle.jr_defs.proofs.reading.some_name.Goals as goal

pub returns-in_err-name_in : goal.returns-in_err-name_in
returns-in_err-name_in c = exits _ (IsSomeNameJson (view c.args.json.now)) _ _ c.from_residual.ensures.1 c.in_err-name_in.ensures (some_is_name (view c.args.json.now))
