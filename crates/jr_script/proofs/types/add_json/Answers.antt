use Rattle.serde_json.specs.View.{view}
use Rattle.jr_script.proofs.Adding.{bad_type}
use Rattle.jr_script.proofs.types.add_json.Goals as goal

pub returns-in-Err-BadType : goal.returns-in-Err-BadType
returns-in-Err-BadType c = bad_type c.args.registry.now (view c.args.json.now) _ _ _ _ c.in_ok-definition.ensures c.in-Err-BadType.ensures.fault c.in-Err-BadType.field-0-is c.here.ensures
