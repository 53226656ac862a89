use Rattle.oak_node.proofs.Recovering.{nothing_flies, own_greatest, others_stay, stays_stopped}
use Rattle.oak_node.proofs.laws.recovery_ends_all.Goals as goal

pub returns-clause-flying : goal.returns-clause-flying
returns-clause-flying c = nothing_flies

pub returns-clause-own : goal.returns-clause-own
returns-clause-own c = own_greatest

pub returns-clause-others : goal.returns-clause-others
returns-clause-others c = others_stay

pub returns-clause-stays : goal.returns-clause-stays
returns-clause-stays c = stays_stopped
