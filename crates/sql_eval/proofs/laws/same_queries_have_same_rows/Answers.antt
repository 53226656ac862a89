use Rattle.sql_eval.proofs.SameQuery.{rows_same}
use Rattle.sql_eval.proofs.laws.same_queries_have_same_rows.Goals as goal

pub returns : goal.returns
returns c = λ q r sets tree rows same h. rows_same q r same sets tree rows h
