use Rattle.oak_tidy.proofs.Moving.{splits_copy, splits_list, splits_undo}
use Rattle.oak_tidy.proofs.laws.splits_are_steps.Goals as goal

pub returns-clause-copied : goal.returns-clause-copied
returns-clause-copied c = splits_copy

pub returns-clause-listed : goal.returns-clause-listed
returns-clause-listed c = splits_list

pub returns-clause-undone : goal.returns-clause-undone
returns-clause-undone c = splits_undo
