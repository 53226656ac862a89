use Rattle.oak_checkpoint.proofs.Keeping.{attaches, creates, detaches, drops_readers, releases}
use Rattle.oak_checkpoint.proofs.laws.what_the_settings_keep.Goals as goal

pub returns-clause-created : goal.returns-clause-created
returns-clause-created c = creates

pub returns-clause-released : goal.returns-clause-released
returns-clause-released c = releases

pub returns-clause-attached : goal.returns-clause-attached
returns-clause-attached c = attaches

pub returns-clause-detached : goal.returns-clause-detached
returns-clause-detached c = detaches

pub returns-clause-dropped : goal.returns-clause-dropped
returns-clause-dropped c = drops_readers
