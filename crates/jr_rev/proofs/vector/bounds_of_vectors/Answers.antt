use Rattle.jr_rev.proofs.Bounds.{least_left, least_right, least_lower, least_seen, greatest_left, greatest_right, greatest_upper}
use Rattle.jr_rev.proofs.vector.bounds_of_vectors.Goals as goal

pub returns-clause-left_above : goal.returns-clause-left_above
returns-clause-left_above c = least_left

pub returns-clause-right_above : goal.returns-clause-right_above
returns-clause-right_above c = least_right

pub returns-clause-lower : goal.returns-clause-lower
returns-clause-lower c = least_lower

pub returns-clause-left_below : goal.returns-clause-left_below
returns-clause-left_below c = greatest_left

pub returns-clause-right_below : goal.returns-clause-right_below
returns-clause-right_below c = greatest_right

pub returns-clause-upper : goal.returns-clause-upper
returns-clause-upper c = greatest_upper

pub returns-clause-seen_by_both : goal.returns-clause-seen_by_both
returns-clause-seen_by_both c = least_seen
