use Rattle.core_open.proofs.Beginning.{begins}
use Rattle.core_open.proofs.opened_documents_have_a_start.Goals as goal

pub returns : goal.returns
returns c = begins
