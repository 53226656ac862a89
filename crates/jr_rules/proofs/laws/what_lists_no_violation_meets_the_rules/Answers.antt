-- By the names that are looked at.
use Rattle.jr_rules.proofs.Meeting.{meets_rules}
use Rattle.jr_rules.proofs.laws.what_lists_no_violation_meets_the_rules.Goals as goal

pub returns : goal.returns
returns c = meets_rules
