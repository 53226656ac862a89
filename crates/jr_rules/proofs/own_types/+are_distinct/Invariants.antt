use Rattle.std.proofs.Common.{length}
use Rattle.jr_rules.proofs.own_types.+are_distinct.Given as goal

abbrev pub decreases-are_distinct : goal.decreases-are_distinct
decreases-are_distinct l = length l.values.now
