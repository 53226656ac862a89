use Rattle.jr_script.proofs.Within.{script_within}
use Rattle.jr_script.proofs.laws.scripts_are_within.Goals as goal

pub returns : goal.returns
returns c = script_within c.added_types_keep_the_rules.ensures c.the_initial_tree_meets_the_built_in_types.ensures c.meanings_can_be_printed.ensures
