use Rattle.core_watch.proofs.Instants.{children_at_end, node_at_end, reads_children, reads_node}
use Rattle.core_watch.proofs.readers_read_the_tree.Goals as goal

pub returns-clause-node : goal.returns-clause-node
returns-clause-node c = node_at_end

pub returns-clause-children : goal.returns-clause-children
returns-clause-children c = children_at_end

pub returns-clause-node_done : goal.returns-clause-node_done
returns-clause-node_done c = reads_node

pub returns-clause-children_done : goal.returns-clause-children_done
returns-clause-children_done c = reads_children
