use Rattle.cnd_print.proofs.Values.{value_back}
use Rattle.cnd_print.proofs.laws.printed_values_are_read_back.Goals as goal

pub returns : goal.returns
returns c = value_back
