use Rattle.std.proofs.lemmas.Result.{IfOk-weaker}
use Rattle.oak_machine.specs.History.{history_of}
use Rattle.jcr_eval.proofs.Causes.{own_tasks}
use Rattle.jcr_eval.proofs.say.own_says.Goals as goal

pub returns-in_default : goal.returns-in_default
returns-in_default c = IfOk-weaker c.task_says.result _ _
    (λ b is. own_tasks c.args.law.now (history_of c.args.journal.now) c.args.session
    c.args.command.now c.args.text.now b c.in_default.not-Head is)
    c.task_says.ensures
