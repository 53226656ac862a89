use Rattle.core_keep.proofs.Holding.{bound_below, told_bounds, kept_bounds}
use Rattle.core_keep.proofs.bounds_are_below.Goals as goal

pub returns-clause-later : goal.returns-clause-later
returns-clause-later c = bound_below

pub returns-clause-told : goal.returns-clause-told
returns-clause-told c = told_bounds

pub returns-clause-kept : goal.returns-clause-kept
returns-clause-kept c = kept_bounds
