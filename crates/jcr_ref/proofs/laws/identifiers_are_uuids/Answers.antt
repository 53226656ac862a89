use Rattle.jcr_ref.proofs.UuidText.{printed, read_back, texts_agree}
use Rattle.jcr_ref.proofs.laws.identifiers_are_uuids.Goals as goal

pub returns-clause-printed : goal.returns-clause-printed
returns-clause-printed c = printed

pub returns-clause-read : goal.returns-clause-read
returns-clause-read c = read_back

pub returns-clause-texts : goal.returns-clause-texts
returns-clause-texts c = texts_agree
