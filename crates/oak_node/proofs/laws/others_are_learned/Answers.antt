use Rattle.oak_node.proofs.Rules.{learned_own, learned_others, learned_sweep, learned_rising}
use Rattle.oak_node.proofs.laws.others_are_learned.Goals as goal

pub returns-clause-own : goal.returns-clause-own
returns-clause-own c = learned_own

pub returns-clause-others : goal.returns-clause-others
returns-clause-others c = learned_others

pub returns-clause-sweep : goal.returns-clause-sweep
returns-clause-sweep c = learned_sweep

pub returns-clause-rising : goal.returns-clause-rising
returns-clause-rising c = learned_rising
