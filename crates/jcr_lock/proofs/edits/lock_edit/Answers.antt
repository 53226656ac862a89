use Rattle.std.proofs.lemmas.Result.{err_from_is_err_and}
use Rattle.jcr_lock.proofs.LockEdits.{locks, refused}
use Rattle.jcr_lock.proofs.edits.lock_edit.Goals as goal

pub returns-in_err-check_lock-clause-err : goal.returns-in_err-check_lock-clause-err
returns-in_err-check_lock-clause-err c = let p = err_from_is_err_and c.from_residual.result c.from_residual.ensures.1 in rw (p.1, p.2) (refused _ _ _ c.in_err-check_lock.ensures.err)

pub returns-in-Ok-clause-ok : goal.returns-in-Ok-clause-ok
returns-in-Ok-clause-ok c = locks c.args.tree.now c.args.path.now c.args.deep c.args.token.now _ c.know_order.ensures.nodes c.know_order.ensures.names c.in_ok-check_lock.ensures.ok c.in-Ok.ensures
