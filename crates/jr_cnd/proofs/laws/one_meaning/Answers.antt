use Rattle.jr_cnd.proofs.OneMeaning.{one_meaning}
use Rattle.jr_cnd.proofs.laws.one_meaning.Goals as goal

pub returns : goal.returns
returns c = one_meaning
