use Rattle.std.specs.Prelude.{reverse}
use Rattle.std.proofs.lemmas.Result.{IfOk-weaker}
use Rattle.jcr_past.proofs.States.{after_attach, after_refresh}
use Rattle.jcr_past.proofs.state.state_next.Goals as goal

pub returns-then-s-session-2 : goal.returns-then-s-session-2
returns-then-s-session-2 c = IfOk-weaker c.moved.result _ _
    (λ new is. after_refresh c.args.law.now c.args.start.now (reverse c.args.before.now)
    c.args.session
    c.in-Refresh.s c.in-Refresh.v c.args.event.now c.args.state new c.in-Refresh.is
    c.if-s-session-2.true
    c.requires is) c.moved.ensures

pub returns-then-s-session-3 : goal.returns-then-s-session-3
returns-then-s-session-3 c = IfOk-weaker c.moved-then-s-session-3.result _ _
    (λ new is. after_attach c.args.law.now c.args.start.now (reverse c.args.before.now)
    c.args.session
    c.in-Attach.s c.in-Attach.id c.last_checkpoint-v.result c.args.event.now c.args.state new
    c.in-Attach.is
    c.if-s-session-3.true c.last_checkpoint-v.ensures c.requires is)
    c.moved-then-s-session-3.ensures
