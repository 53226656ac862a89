use Rattle.core_changes.proofs.Ending.{changes_at_end}
use Rattle.core_changes.proofs.Instants.{observing_done}
use Rattle.core_changes.proofs.observers_read_what_commits_change.Goals as goal

pub returns-clause-ends : goal.returns-clause-ends
returns-clause-ends c = changes_at_end

pub returns-clause-done : goal.returns-clause-done
returns-clause-done c = observing_done
