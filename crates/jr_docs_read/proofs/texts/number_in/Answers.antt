use Rattle.jr_docs_read.proofs.Answered.{no_fault, read_as}
use Rattle.jr_docs_read.proofs.Ids.{hexadecimal_read}
use Rattle.jr_docs_read.proofs.texts.number_in.Goals as goal

pub returns-in-Ok-clause-complete : goal.returns-in-Ok-clause-complete
returns-in-Ok-clause-complete c n small is = read_as c.from_str_radix.result _ n c.in-Ok.is (hexadecimal_read n _ _ small is c.from_str_radix.ensures.value)

pub returns-in-Err-clause-complete : goal.returns-in-Err-clause-complete
returns-in-Err-clause-complete c n small is = absurd (no_fault c.from_str_radix.result n _ (hexadecimal_read n _ _ small is c.from_str_radix.ensures.value) c.in-Err.is)
