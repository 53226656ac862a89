use Rattle.std.proofs.Common.{◌-◌}
use Rattle.jr_rev.proofs.vector.+revisions_from.Given as goal

abbrev pub decreases-revisions_from : goal.decreases-revisions_from
decreases-revisions_from l = 9 - l.least
