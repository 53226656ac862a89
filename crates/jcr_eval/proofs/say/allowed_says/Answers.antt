use Rattle.std.proofs.lemmas.Result.{IfOk-weaker}
use Rattle.jcr_eval.proofs.Iffs.{second_decides}
use Rattle.jcr_eval.proofs.say.allowed_says.Goals as goal

pub returns : goal.returns
returns c = IfOk-weaker c.unmoved_says.result _ _
    (λ b is. second_decides c.in_ok-moved_says.field-0 b c.in_ok-moved_says.ensures c.if-branch.false is)
    c.unmoved_says.ensures
