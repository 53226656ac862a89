use Rattle.jr_value.specs.Equality.{same_value_decides}
use Rattle.jr_value.proofs.equality.same_values_are_equal.Goals as goal

pub returns : goal.returns
returns c = same_value_decides
