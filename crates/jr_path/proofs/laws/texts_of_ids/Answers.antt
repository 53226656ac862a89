use Rattle.jr_path.proofs.TextLaws.{same_ids}
use Rattle.jr_path.proofs.laws.texts_of_ids.Goals as goal

pub returns : goal.returns
returns c = same_ids
