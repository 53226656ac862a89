use Rattle.std.proofs.Common.{Some, sym, ap, ◌∙◌, ◌+◌}
use Rattle.std.proofs.lemmas.Result.{IfOk-weaker}
use Rattle.jr_items.specs.Refusals.{or_else}
use Rattle.jcr_lock.specs.Locks.{lock_edit}
use Rattle.jcr_ref.specs.Drawn.{too_many_ids}
use Rattle.jcr_law.specs.Commits.{drawing_one}
use Rattle.jcr_call.proofs.due.lock_by.Goals as goal

pub returns-in-Ok : goal.returns-in-Ok
returns-in-Ok c = λ on is-on. IfOk-weaker c.drawing_one.result _ _
    (λ found is. is ∙ (ap (λ who. Some (or_else (too_many_ids (who.ids + 1)) c.in-Ok.edit.writes)) is-on.who
    ∙ ap (λ due. Some (drawing_one on due))
    (sym (ap (λ t. lock_edit t c.args.path.now c.args.deep c.args.token.now) (sym is-on.base) ∙ c.in-Ok.ensures.ok))))
    c.drawing_one.ensures

pub returns-in-Err : goal.returns-in-Err
returns-in-Err c = λ on is-on. IfOk-weaker c.refused.result _ _
    (λ found is. is.1 ∙ ap (λ due. Some (drawing_one on due))
    (sym (ap (λ t. lock_edit t c.args.path.now c.args.deep c.args.token.now) (sym is-on.base) ∙ c.in-Err.ensures.err is.0)))
    c.refused.ensures
