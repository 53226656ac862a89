use Rattle.sql_eval.proofs.OneRows.{one_list}
use Rattle.sql_eval.proofs.laws.rows_are_one.Goals as goal

pub returns : goal.returns
returns c = one_list
