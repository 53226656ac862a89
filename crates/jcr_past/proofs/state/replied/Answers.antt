use Rattle.std.proofs.Common.{sym}
use Rattle.std.specs.Prelude.{reverse}
use Rattle.std.proofs.lemmas.Result.{IfOk-weaker}
use Rattle.jcr_past.specs.Calls.{called}
use Rattle.jcr_past.proofs.States.{after_reply}
use Rattle.jcr_past.proofs.state.replied.Goals as goal

pub returns-in_ok-call-in-Some-Some : goal.returns-in_ok-call-in-Some-Some
returns-in_ok-call-in-Some-Some c = IfOk-weaker c.answered.result _ _
    (λ new is. after_reply c.args.law.now c.args.start.now (reverse c.args.before.now)
    c.args.session c.args.index
    c.args.text.now c.args.state new c.in-Some-Some.command.now c.in-Some-Some.v c.is_ok_text.result
    c.has_drawn-drew.result (called c.args.law.now.types c.in_ok-call-in-Some-Some.call)
    (sym c.in-Some-Some.ensures) (sym c.in-Some-Some.ensures') c.is_ok_text.ensures
    c.has_drawn-drew.ensures
    c.in_ok-call-in-Some-Some.ensures is) c.answered.ensures
