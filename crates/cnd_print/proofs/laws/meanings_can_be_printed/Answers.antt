use Rattle.cnd_print.proofs.SaidFile.{said_printable}
use Rattle.cnd_print.proofs.laws.meanings_can_be_printed.Goals as goal

pub returns : goal.returns
returns c = said_printable
