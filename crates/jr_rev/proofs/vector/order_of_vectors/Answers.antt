use Rattle.jr_rev.proofs.Bounds.{below_entries, entries_below, below_itself, below_along, below_seen}
use Rattle.jr_rev.proofs.vector.order_of_vectors.Goals as goal

pub returns-clause-entries : goal.returns-clause-entries
returns-clause-entries c = λ v w. (below_entries v w, entries_below v w)

pub returns-clause-itself : goal.returns-clause-itself
returns-clause-itself c = below_itself

pub returns-clause-along : goal.returns-clause-along
returns-clause-along c = below_along

pub returns-clause-seen : goal.returns-clause-seen
returns-clause-seen c = below_seen
