use Rattle.std.proofs.lemmas.Result.{err_from_is_err_and}
use Rattle.jcr_fill.specs.Filled.{with_own_property}
use Rattle.jcr_fill.proofs.Loops.{loop_err}
use Rattle.jcr_fill.proofs.fill.fill.Goals as goal

pub returns-in_err-fill_by-clause-err : goal.returns-in_err-fill_by-clause-err
returns-in_err-fill_by-clause-err c = let p = err_from_is_err_and c.from_residual.result c.from_residual.ensures.1 in rw (p.1, p.2)
    (loop_err (λ d. d.now) (with_own_property c.args.who.now) c.args.defs.now c.loop-def.def-index c.def-item.result _ c.loop-def.filling _
    c.def-item.is c.loop-def-test.true c.loop-def.invariant c.in_err-fill_by.ensures.err)
