use Rattle.std.proofs.Common.{sym, arith}
use Rattle.std.proofs.lemmas.Fmt.{parse-decimal}
use Rattle.jr_docs_read.proofs.Answered.{no_fault, read_as}
use Rattle.jr_docs_read.proofs.forms.U32Key.read.Goals as goal

pub returns-in-Ok-clause-complete : goal.returns-in-Ok-clause-complete
returns-in-Ok-clause-complete c k small is = read_as c.parse.result _ k c.in-Ok.is (parse-decimal 32 k _ _ small (omega (arith, small)) (sym is) c.parse.ensures.value.0)

pub returns-in-Err-clause-complete : goal.returns-in-Err-clause-complete
returns-in-Err-clause-complete c k small is = absurd (no_fault c.parse.result k _ (parse-decimal 32 k _ _ small (omega (arith, small)) (sym is) c.parse.ensures.value.0) c.in-Err.is)
