use Rattle.std.proofs.Common.{Some, ◌∙◌}
use Rattle.std.proofs.lemmas.Result.{IfOk-weaker}
use Rattle.jcr_restore.specs.Edits.{restore_edit}
use Rattle.jcr_call.proofs.due.restore_due.Goals as goal

pub returns : goal.returns
returns c = λ on o. IfOk-weaker c.made_due.result _ _
    (λ found is. is ∙ (λ i. Some (restore_edit (o.types i) (o.base i) c.args.path.now c.args.version.now)))
    (c.made_due.ensures _ c.restore_edit.ensures.ok c.restore_edit.ensures.err)
