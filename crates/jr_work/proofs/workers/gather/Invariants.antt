use Rattle.std.proofs.Common.{length, vec_len}
use Rattle.seat_lock.specs.Passes.{IsOf, view_of}
use Rattle.jr_work.specs.Workers.{AreGivenBack}
use Rattle.jr_work.proofs.Gathering.{IsGathering}
use Rattle.jr_work.proofs.workers.gather.Given as goal

-- the passes that are left are those of the first workers
abbrev pub invariant-passes : goal.invariant-passes
invariant-passes g l = record {
  own : IsOf l.crew.shared.now.lock l.main;
  gathering : IsGathering l.crew.script.now.value l.crew.workers (length l.passes.items) (view_of l.main);
  each : AreGivenBack l.crew.script.now.value l.crew.workers l.crew.shared.now.lock l.passes.items;
}

abbrev pub decreases-passes : goal.decreases-passes
decreases-passes g l = vec_len l.passes
