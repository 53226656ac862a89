use Rattle.jr_json.proofs.ReadBack.{property_back}
use Rattle.jr_json.proofs.laws.printed_properties_are_read_back.Goals as goal

pub returns : goal.returns
returns c = property_back
