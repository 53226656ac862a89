use Rattle.cnd_print.proofs.ReadBack.{answered_back, read_back}
use Rattle.cnd_print.proofs.laws.canonical_texts_are_read_back.Goals as goal

pub returns : goal.returns
returns c = record { means = read_back; answered = answered_back }
