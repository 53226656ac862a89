use Rattle.std.proofs.Common.{ap, ◌∙◌}
use Rattle.jr_work.proofs.Naming.{session_named, session_passed}
use Rattle.jr_work.proofs.workers.sessions_of.Goals as goal
use Rattle.jr_work.proofs.workers.sessions_of.Goals.{then-s-crew+in_ok-push, else-s-crew}

pub loop-s-preserved : goal.loop-s-preserved
loop-s-preserved g c = elim c.if-s-crew.branch [
  | then-s-crew+in_ok-push w ↦ session_named c.args.crew.now.workers c.args.worker c.loop-s.s c.loop-s.sessions.items c.if-s-crew.sessions.items c.loop-s.invariant w.if-s-crew.true (ap (λ v. v.items) w.sessions-is ∙ w.in_ok-push.ensures.items)
  | else-s-crew w ↦ session_passed c.args.crew.now.workers c.args.worker c.loop-s.s c.loop-s.sessions.items c.if-s-crew.sessions.items c.loop-s.invariant w.if-s-crew.false (ap (λ v. v.items) w.sessions-is)
]
