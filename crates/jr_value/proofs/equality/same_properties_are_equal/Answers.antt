use Rattle.jr_value.specs.Equality.{same_property_decides}
use Rattle.jr_value.proofs.equality.same_properties_are_equal.Goals as goal

pub returns : goal.returns
returns c = same_property_decides
