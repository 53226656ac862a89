use Rattle.serde_json.specs.View.{view}
use Rattle.jr_defs.proofs.ByParts.{values_fault}
use Rattle.jr_defs.proofs.reading.some_values.Goals as goal

pub returns : goal.returns
returns c = rw c.no_values.ensures (values_fault (view c.args.json.now) _ c.in-Err.ensures.fault)
