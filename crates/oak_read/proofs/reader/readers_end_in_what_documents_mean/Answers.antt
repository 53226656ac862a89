use Rattle.oak_read.proofs.Ends.{reads_node, reads_children}
use Rattle.oak_read.proofs.reader.readers_end_in_what_documents_mean.Goals as goal

pub returns-clause-node : goal.returns-clause-node
returns-clause-node c = reads_node

pub returns-clause-children : goal.returns-clause-children
returns-clause-children c = reads_children
