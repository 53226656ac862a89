use Rattle.std.proofs.lemmas.Result.{err_from_is_err_and}
use Rattle.jcr_version.proofs.FirstBeyond.{limit_here}
use Rattle.jcr_version.proofs.limits.check_added.Goals as goal

pub returns-in_err-check_write-clause-err : goal.returns-in_err-check_write-clause-err
returns-in_err-check_write-clause-err c =
    let p = err_from_is_err_and c.from_residual.result c.from_residual.ensures.1 in
    rw (p.1, p.2) (limit_here c.args.writes.now c.loop-write.write-index c.write-item.result
    c.in_err-check_write.field-0.0 c.loop-write-test.true c.write-item.is c.loop-write.invariant
    c.in_err-check_write.ensures.err)
