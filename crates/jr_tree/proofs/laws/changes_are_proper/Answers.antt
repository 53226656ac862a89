-- By the lemmas on proper changes.
use Rattle.jr_tree.proofs.ProperChanges.{changes_proper, no_changes}
use Rattle.jr_tree.proofs.laws.changes_are_proper.Goals as goal

pub returns-clause-proper : goal.returns-clause-proper
returns-clause-proper c = changes_proper

pub returns-clause-none : goal.returns-clause-none
returns-clause-none c = no_changes
