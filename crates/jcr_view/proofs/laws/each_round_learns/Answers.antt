use Rattle.jcr_view.proofs.Rounds.{children_keep, children_known, loaded_once, node_keeps, node_known, one_lacks}
use Rattle.jcr_view.proofs.laws.each_round_learns.Goals as goal

pub returns-clause-named : goal.returns-clause-named
returns-clause-named c = one_lacks

pub returns-clause-node : goal.returns-clause-node
returns-clause-node c = node_known

pub returns-clause-children : goal.returns-clause-children
returns-clause-children c = children_known

pub returns-clause-kept_by_node : goal.returns-clause-kept_by_node
returns-clause-kept_by_node c = node_keeps

pub returns-clause-kept_by_children : goal.returns-clause-kept_by_children
returns-clause-kept_by_children c = children_keep

pub returns-clause-once : goal.returns-clause-once
returns-clause-once c = loaded_once
