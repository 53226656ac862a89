use Rattle.std.proofs.Common.{◌<◌, ◌≤◌, ℕ, IsTrue, IsFalse, reverse}
use Rattle.jr_rev.specs.Vectors.{is_below}
use Rattle.oak_machine.specs.Heads.{head_of}
use Rattle.oak_machine.specs.Sessions.{is_recovered}
use Rattle.oak_past.proofs.machine.is_below_heads.Given as goal

abbrev pub invariant-loop-cluster : goal.invariant-loop-cluster
invariant-loop-cluster l = (k : ℕ) → 1 ≤ k → k < l.cluster → IsFalse (is_recovered (reverse l.journal.events.list) k) → IsTrue (is_below l.m (head_of l.journal.clusters l.journal.start (reverse l.journal.events.list) k))
