use Rattle.std.proofs.Common.{◌≡◌, ◌+◌, ◌-◌, ◌==◌, cond, reverse}
use Rattle.std.specs.List.{fold, range_with_len}
use Rattle.jr_rev.specs.Vectors.{raised}
use Rattle.oak_machine.specs.Runs.{learned}
use Rattle.oak_machine.specs.Heads.{published}
use Rattle.oak_past.proofs.heads.learned.Given as goal

-- what the cluster nodes that are left make of the vector so far stays
abbrev pub invariant-loop-other : goal.invariant-loop-other
invariant-loop-other l = fold (λ v m. cond (m == l.cluster) v (raised v (published l.journal.start (reverse l.earlier) m))) l.vector (range_with_len l.other (l.journal.clusters + 1 - l.other)) ≡ learned l.journal.clusters l.journal.start (reverse l.now) (reverse l.earlier) l.cluster
