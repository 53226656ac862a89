use Rattle.std.proofs.Common.{Some, ap, ◌∙◌}
use Rattle.std.proofs.lemmas.Result.{IfOk-weaker}
use Rattle.jcr_lock.specs.Locks.{lock_edit}
use Rattle.jcr_law.specs.Commits.{drawing_one}
use Rattle.jcr_law.specs.State.{next_id}
use Rattle.jcr_call.proofs.due.lock_due.Goals as goal

pub returns : goal.returns
returns c = λ on is-on. IfOk-weaker c.lock_by.result _ _
    (λ found is. is ∙ ap (λ id. Some (drawing_one on (lock_edit on.base c.args.path.now c.args.deep id)))
    (c.as_str.ensures ∙ (c.in_ok-token.ensures ∙ ap next_id is-on.who)))
    (c.lock_by.ensures on is-on)
