use Rattle.core_begun.proofs.Start.{start_shown}
use Rattle.core_begun.proofs.first_documents_show_their_start.Goals as goal

pub returns : goal.returns
returns c = start_shown
