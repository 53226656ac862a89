use Rattle.jr_rev.proofs.Order.{revision_total, same_revision}
use Rattle.jr_rev.proofs.revision.order_of_revisions.Goals as goal

pub returns-clause-total : goal.returns-clause-total
returns-clause-total c = revision_total

pub returns-clause-exact : goal.returns-clause-exact
returns-clause-exact c = same_revision
