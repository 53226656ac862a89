use Rattle.std.proofs.lemmas.Result.{IfOk-weaker}
use Rattle.jcr_eval.proofs.Iffs.{second_decides}
use Rattle.jcr_eval.proofs.say.moved_says.Goals as goal

pub returns : goal.returns
returns c = IfOk-weaker c.move_says.result _ _
    (λ b is. second_decides c.in_ok-committed_says.field-0 b c.in_ok-committed_says.ensures c.if-branch.false is)
    c.move_says.ensures
