use Rattle.std.proofs.Common.{◌≡◌, ◌≢◌, ◌≤◌, ℕ, ◌<◌}
use Rattle.jr_rev.specs.Vectors.{entry}
use Rattle.jr_rev.proofs.next.are_same_beside.Given as goal

-- the entries looked at are the same
abbrev pub invariant-loop-k : goal.invariant-loop-k
invariant-loop-k l = (k : ℕ) → 1 ≤ k → k < l.k → k ≢ l.cluster → entry l.new k ≡ entry l.old k
