use Rattle.jr_script.proofs.Unique.{one_outcome}
use Rattle.jr_script.proofs.laws.scripts_are_unique.Goals as goal

pub returns : goal.returns
returns c = one_outcome c.one_meaning.ensures
