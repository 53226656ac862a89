use Rattle.std.proofs.Common.{Some, ◌∙◌}
use Rattle.std.proofs.lemmas.Result.{IfOk-weaker}
use Rattle.jcr_version.specs.Edits.{checkin_edit}
use Rattle.jcr_call.proofs.due.checkin_due.Goals as goal

pub returns : goal.returns
returns c = λ on o. IfOk-weaker c.made_due.result _ _
    (λ found is. is ∙ (λ i. Some (checkin_edit (o.types i) (o.base i) c.args.path.now (o.who i))))
    (c.made_due.ensures _ c.checkin_edit.ensures.ok c.checkin_edit.ensures.err)
