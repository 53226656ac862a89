use Rattle.jr_json.proofs.Unique.{property_one}
use Rattle.jr_json.proofs.laws.json_is_at_most_one_property.Goals as goal

pub returns : goal.returns
returns c = property_one
