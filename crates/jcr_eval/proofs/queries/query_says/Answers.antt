use Rattle.std.proofs.Common.{sym}
use Rattle.std.proofs.lemmas.Result.{IfOk-weaker}
use Rattle.oak_machine.specs.History.{history_of}
use Rattle.jcr_past.specs.Calls.{called}
use Rattle.jcr_eval.proofs.QueryCauses.{query_said}
use Rattle.jcr_eval.proofs.queries.query_says.Goals as goal

pub returns-in-Some : goal.returns-in-Some
returns-in-Some c = IfOk-weaker c.answers.result _ _
    (λ b reads. query_said c.args.law.now (history_of c.args.journal.now) c.args.session
    c.args.query.now c.args.vars.now c.args.text.now b
    (called c.args.law.now.types c.in-Some.call)
    (sym (rw (c.in-Some.is, c.as_slice.ensures) at c.in_ok-call.ensures)) reads)
    c.answers.ensures
