-- By computing.
use Rattle.jr_rules.proofs.Rows.{initial_meets_rules}
use Rattle.jr_rules.proofs.laws.the_initial_tree_meets_the_built_in_types.Goals as goal

pub returns : goal.returns
returns c = initial_meets_rules
