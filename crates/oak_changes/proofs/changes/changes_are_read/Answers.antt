use Rattle.oak_changes.proofs.Resting.{reads_changes}
use Rattle.oak_changes.proofs.changes.changes_are_read.Goals as goal

pub returns : goal.returns
returns c = reads_changes
