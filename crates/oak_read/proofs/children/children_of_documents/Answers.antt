use Rattle.oak_read.proofs.Below.{children-found, children-ascend}
use Rattle.oak_read.proofs.children.children_of_documents.Goals as goal

pub returns-clause-found : goal.returns-clause-found
returns-clause-found c = children-found

pub returns-clause-ascending : goal.returns-clause-ascending
returns-clause-ascending c = children-ascend
