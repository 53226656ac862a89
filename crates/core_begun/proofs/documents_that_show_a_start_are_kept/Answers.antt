use Rattle.core_begun.proofs.Beginning.{kept_start}
use Rattle.core_begun.proofs.documents_that_show_a_start_are_kept.Goals as goal

pub returns : goal.returns
returns c = kept_start
