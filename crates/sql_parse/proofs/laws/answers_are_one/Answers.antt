use Rattle.sql_parse.proofs.OneQuery.{one_answer}
use Rattle.sql_parse.proofs.laws.answers_are_one.Goals as goal

pub returns : goal.returns
returns c = one_answer
