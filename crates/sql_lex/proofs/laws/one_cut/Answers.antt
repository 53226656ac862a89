use Rattle.sql_lex.proofs.OneCut.{one_cut}
use Rattle.sql_lex.proofs.laws.one_cut.Goals as goal

pub returns : goal.returns
returns c = λ text m n ts us a stops b stops'. one_cut text 0 ts us m n a stops b stops'
