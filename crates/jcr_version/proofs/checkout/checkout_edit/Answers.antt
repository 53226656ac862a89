use Rattle.jcr_version.proofs.Due.{due_else, else_refused}
use Rattle.jcr_version.proofs.checkout.checkout_edit.Goals as goal

pub returns-in-Ok-clause-ok : goal.returns-in-Ok-clause-ok
returns-in-Ok-clause-ok c = due_else c.checked_out.result _ _ c.in-Ok.ensures.ok c.checked_out.ensures.ok

pub returns-clause-err : goal.returns-clause-err
returns-clause-err c = else_refused _ _ c.in-Err.refusal c.in-Err.ensures.err
