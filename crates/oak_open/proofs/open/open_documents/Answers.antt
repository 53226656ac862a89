use Rattle.oak_open.proofs.Numbered.{still_ordered}
use Rattle.oak_open.proofs.open.open_documents.Goals as goal

pub open_sound-requires-clause-ordered : goal.open_sound-requires-clause-ordered
open_sound-requires-clause-ordered c = still_ordered _ _ c.in_ok-documents.ensures c.requires.ordered
