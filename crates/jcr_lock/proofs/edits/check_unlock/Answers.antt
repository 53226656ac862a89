use Rattle.std.proofs.lemmas.Result.{err_from_is_err_and}
use Rattle.jcr_lock.proofs.Refused.{first_of_two}
use Rattle.jcr_lock.proofs.edits.check_unlock.Goals as goal

pub returns-in_err-check_place-clause-err : goal.returns-in_err-check_place-clause-err
returns-in_err-check_place-clause-err c = let p = err_from_is_err_and c.from_residual.result c.from_residual.ensures.1 in rw (p.1, p.2) (first_of_two _ _ _ c.in_err-check_place.ensures.err)
