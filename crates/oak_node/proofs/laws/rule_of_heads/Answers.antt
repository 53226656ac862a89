use Rattle.oak_node.proofs.Rules.{local_rule, flying_rule}
use Rattle.oak_node.proofs.laws.rule_of_heads.Goals as goal

pub returns-clause-own : goal.returns-clause-own
returns-clause-own c = local_rule

pub returns-clause-flying : goal.returns-clause-flying
returns-clause-flying c = flying_rule
