use Rattle.jcr_observe.proofs.Differences.{are_differences}
use Rattle.jcr_observe.proofs.laws.changes_are_differences.Goals as goal

pub returns : goal.returns
returns c = are_differences
