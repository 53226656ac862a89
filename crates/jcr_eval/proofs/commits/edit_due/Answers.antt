use Rattle.std.proofs.Common.{◌∙◌}
use Rattle.std.proofs.lemmas.Result.{IfOk-weaker}
use Rattle.jcr_call.proofs.AtOnce.{at_once}
use Rattle.jcr_past.specs.Calls.{called}
use Rattle.jcr_eval.proofs.commits.edit_due.Goals as goal

pub returns-in_default : goal.returns-in_default
returns-in_default c =
    let on = called c.args.types.now c.args.call.now in
    IfOk-weaker c.edit_due.result _ _
    (λ due is. is ∙ at_once on c.args.command.now c.in_default.not-Save)
    (c.edit_due.ensures on c.footing.ensures.on)
