use Rattle.std.proofs.Common.{Some, ap, ◌∙◌}
use Rattle.std.specs.Prelude.{map, string_bytes}
use Rattle.std.proofs.lemmas.Result.{IfOk-weaker}
use Rattle.jcr_lock.specs.Locks.{unlock_edit}
use Rattle.jcr_call.proofs.due.unlock_due.Goals as goal

pub returns : goal.returns
returns c = λ on is-on. IfOk-weaker c.made_due.result _ _
    (λ found is. is ∙ (ap (λ ts. Some (unlock_edit c.args.footing.now.base.now c.args.path.now ts))
    (ap (map string_bytes) c.as_slice.ensures.value ∙ (c.in_ok-tokens.ensures ∙ is-on.tokens))
    ∙ ap (λ t. Some (unlock_edit t c.args.path.now on.state.tokens)) is-on.base))
    (c.made_due.ensures
    (unlock_edit c.args.footing.now.base.now c.args.path.now (map string_bytes c.as_slice.result.now))
    c.unlock_edit.ensures.ok c.unlock_edit.ensures.err)
