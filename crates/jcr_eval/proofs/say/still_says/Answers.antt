use Rattle.std.proofs.lemmas.Result.{IfOk-weaker}
use Rattle.jcr_eval.proofs.Iffs.{second_decides}
use Rattle.jcr_eval.proofs.say.still_says.Goals as goal

pub returns : goal.returns
returns c = IfOk-weaker c.own_says.result _ _
    (λ b is. second_decides c.in_ok-viewed_says.field-0 b c.in_ok-viewed_says.ensures
    c.if-branch.false
    (second_decides c.in_ok-uncommitted_says.field-0 b c.in_ok-uncommitted_says.ensures
    c.if-branch-2.false is))
    c.own_says.ensures
