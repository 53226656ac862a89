use Rattle.std.proofs.Common.{map}
use Rattle.std.specs.String.{string_bytes}
use Rattle.std.proofs.lemmas.Result.{err_from_is_err_and}
use Rattle.jcr_lock.proofs.LockEdits.{refused, unlocks}
use Rattle.jcr_lock.proofs.edits.unlock_edit.Goals as goal

pub returns-in_err-check_unlock-clause-err : goal.returns-in_err-check_unlock-clause-err
returns-in_err-check_unlock-clause-err c = let p = err_from_is_err_and c.from_residual.result c.from_residual.ensures.1 in rw (p.1, p.2) (refused _ _ _ c.in_err-check_unlock.ensures.err)

pub returns-in-Ok-clause-ok : goal.returns-in-Ok-clause-ok
returns-in-Ok-clause-ok c = unlocks c.args.tree.now c.args.path.now (map string_bytes c.args.tokens.now) _ c.know_order.ensures.nodes c.know_order.ensures.names c.in_ok-check_unlock.ensures.ok c.in-Ok.ensures
