use Rattle.seat_lock.specs.Passes.{IsOf, view_of}
use Rattle.jr_work.specs.Hands.{AreInHandOf}
use Rattle.jr_work.proofs.Working.{IsWorking}
use Rattle.jr_work.proofs.worker.run_sessions.Given as goal

-- the worker's sessions so far are over, and the commands of the others are in hand
abbrev pub invariant-loop-s : goal.invariant-loop-s
invariant-loop-s g l = record {
  own : IsOf l.crew.shared.now.lock l.pass;
  working : IsWorking l.crew.script.now.value l.crew.workers l.worker l.s (view_of l.pass);
  hand : AreInHandOf l.crew.script.now.value.sessions l.crew.workers l.worker l.s l.hand;
}
