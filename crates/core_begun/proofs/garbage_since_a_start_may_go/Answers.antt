use Rattle.core_begun.proofs.Collecting.{garbage_keeps, pruning_keeps, removed_garbage_keeps}
use Rattle.core_begun.proofs.garbage_since_a_start_may_go.Goals as goal

pub returns-clause-pruned : goal.returns-clause-pruned
returns-clause-pruned c = garbage_keeps

pub returns-clause-removed : goal.returns-clause-removed
returns-clause-removed c = removed_garbage_keeps

pub returns-clause-whole : goal.returns-clause-whole
returns-clause-whole c = pruning_keeps
