use Rattle.oak_tidy.proofs.Moving.{bounds_go, documents_go, garbage_goes}
use Rattle.oak_tidy.proofs.Reading.{bounds_begin, collects_garbage, gone_pass, nodes_bound, settings_bound}
use Rattle.oak_tidy.proofs.laws.collections_are_steps.Goals as goal

pub returns-clause-begins : goal.returns-clause-begins
returns-clause-begins c = bounds_begin

pub returns-clause-nodes : goal.returns-clause-nodes
returns-clause-nodes c = nodes_bound

pub returns-clause-gone : goal.returns-clause-gone
returns-clause-gone c = gone_pass

pub returns-clause-settings : goal.returns-clause-settings
returns-clause-settings c = settings_bound

pub returns-clause-bound : goal.returns-clause-bound
returns-clause-bound c = bounds_go

pub returns-clause-pruned : goal.returns-clause-pruned
returns-clause-pruned c = garbage_goes

pub returns-clause-removed : goal.returns-clause-removed
returns-clause-removed c = documents_go

pub returns-clause-asks : goal.returns-clause-asks
returns-clause-asks c = collects_garbage
