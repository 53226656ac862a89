-- Registered names mean what they meant.
use Rattle.jr_types.proofs.Added.{rules_last}
use Rattle.jr_types.proofs.laws.added_types_keep_the_rules.Goals as goal

pub returns : goal.returns
returns c = λ types d t new ok. rules_last types d new t ok
