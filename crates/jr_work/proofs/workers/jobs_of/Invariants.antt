use Rattle.std.proofs.Common.{◌≡◌, ◌++◌, All, length}
use Rattle.seat_lock.specs.Passes.{IsOf, view_of}
use Rattle.jr_work.specs.Workers.{AreInOrder, HasHandedOut, IsJob}
use Rattle.jr_work.proofs.workers.jobs_of.Given as goal

-- the workers so far have their sessions and the commands of these
abbrev pub invariant-loop-hand : goal.invariant-loop-hand
invariant-loop-hand g l = record {
  own : IsOf l.crew.shared.now.lock l.main;
  whole : l.yielded ++ l.hand-iterator.rest.items ≡ l.fn.hands.items;
  out : HasHandedOut l.crew.script.now.value l.crew.workers (length l.yielded) (view_of l.main);
  count : length l.jobs.items ≡ length l.yielded;
  order : AreInOrder l.jobs.items;
  ready : All (λ j. IsJob l.crew.script.now.value l.crew.workers l.crew.shared.now.lock j) l.jobs.items;
}
