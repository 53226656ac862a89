use Rattle.std.proofs.Common.{◌%◌}
use Rattle.std.specs.Prelude.{◌==◌}
use Rattle.jr_work.proofs.Naming.{AreNamed}
use Rattle.jr_work.proofs.workers.sessions_of.Given as goal

-- the worker's sessions so far
abbrev pub invariant-loop-s : goal.invariant-loop-s
invariant-loop-s g l = AreNamed (λ s. s % l.crew.workers == l.worker) l.s l.sessions.items
