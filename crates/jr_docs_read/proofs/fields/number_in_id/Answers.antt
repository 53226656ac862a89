use Rattle.std.proofs.Common.{◌≡◌, ℕ}
use Rattle.std.proofs.lemmas.Result.{err_from_is_err_and}
use Rattle.jr_docs_read.proofs.Answered.{handed}
use Rattle.jr_path.specs.declared.path.DocId.{DocId}
use Rattle.jr_path.specs.declared.path.DocId.TheVariants.{Prev}
use Rattle.jr_docs_read.proofs.fields.number_in_id.Goals as goal

pub returns-in_err-id-clause-complete : goal.returns-in_err-id-clause-complete
returns-in_err-id-clause-complete c n p small h is =
    let q = err_from_is_err_and c.from_residual.result c.from_residual.ensures.1 in
    rw (q.1, q.2) (handed (λ (found : DocId). found ≡ Prev n p) (λ (found : ℕ). found ≡ n) _ (c.in_err-id.ensures.complete (Prev n p) (small, h) is))

pub returns-in-Prev-clause-complete : goal.returns-in-Prev-clause-complete
returns-in-Prev-clause-complete c n p small h is = let same = c.in_ok-id.ensures.complete (Prev n p) (small, h) is in let here = c.in-Prev.is in cc

pub returns-clause-complete : goal.returns-clause-complete
returns-clause-complete c n p small h is = c.in_default.not-Prev n p (c.in_ok-id.ensures.complete (Prev n p) (small, h) is)
