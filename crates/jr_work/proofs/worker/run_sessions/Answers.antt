use Rattle.std.proofs.Common.{◌+◌, ◌<◌, ◌≤◌, length, subst, sym, arith}
use Rattle.seat_lock.specs.Passes.{IsOf, view_of}
use Rattle.jr_work.specs.Hands.{AreInHandOf}
use Rattle.jr_work.proofs.Dealing.{passed_by}
use Rattle.jr_work.proofs.Working.{IsWorking, passed_over, worked_all, worked_more}
use Rattle.jr_work.proofs.worker.run_sessions.Goals as goal
use Rattle.jr_work.proofs.worker.run_sessions.Goals.{then-s-crew+in_ok-run_next, else-s-crew}

pub run_next-requires-clause-hand : goal.run_next-requires-clause-hand
run_next-requires-clause-hand g c =
    subst (λ w. AreInHandOf c.args.crew.now.script.now.value.sessions c.args.crew.now.workers w c.loop-s.s c.loop-s.hand) (sym c.if-s-crew.true) c.loop-s.invariant.hand

pub loop-s-preserved : goal.loop-s-preserved
loop-s-preserved g c =
    let script = c.args.crew.now.script.now.value in
    let workers = c.args.crew.now.workers in
    let test = c.loop-s-test.true in
    let many = c.requires.crew.many in
    let below : c.loop-s.s < length script.sessions = omega (arith, test, many) in
    elim c.if-s-crew.branch [
      | then-s-crew+in_ok-run_next w ↦ record {
        own = subst (λ p. IsOf c.args.crew.now.shared.now.lock p) (sym w.pass-is) w.in_ok-run_next.ensures.own;
        working = subst (λ p. IsWorking script workers c.args.worker (c.loop-s.s + 1) (view_of p)) (sym w.pass-is)
            (worked_more script workers c.args.worker c.loop-s.s (view_of c.loop-s.pass) c.loop-s.invariant.working _ w.in_ok-run_next.ensures.ran);
        hand = subst (λ h. AreInHandOf script.sessions workers c.args.worker (c.loop-s.s + 1) h) (sym w.hand-is)
            (subst (λ v. AreInHandOf script.sessions workers v (c.loop-s.s + 1) w.run_next.new.hand) w.if-s-crew.true w.run_next.ensures.hand);
      }
      | else-s-crew w ↦ record {
        own = subst (λ p. IsOf c.args.crew.now.shared.now.lock p) (sym w.pass-is) c.loop-s.invariant.own;
        working = subst (λ p. IsWorking script workers c.args.worker (c.loop-s.s + 1) (view_of p)) (sym w.pass-is)
            (passed_over script workers c.args.worker c.loop-s.s (view_of c.loop-s.pass) c.loop-s.invariant.working w.if-s-crew.false);
        hand = subst (λ h. AreInHandOf script.sessions workers c.args.worker (c.loop-s.s + 1) h) (sym w.hand-is)
            (passed_by script workers c.args.worker c.loop-s.s c.loop-s.hand below c.loop-s.invariant.hand w.if-s-crew.false);
      }
    ]

pub returns-clause-worked : goal.returns-clause-worked
returns-clause-worked g c =
    let over = c.loop-s-test.false in
    let many = c.requires.crew.many in
    let all : length c.args.crew.now.script.now.value.sessions ≤ c.loop-s.s = omega (arith, over, many) in
    worked_all c.args.crew.now.script.now.value c.args.crew.now.workers c.args.worker c.loop-s.s (view_of c.loop-s.pass) c.loop-s.invariant.working all
