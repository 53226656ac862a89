use Rattle.std.proofs.Common.{◌≡◌, ◌<◌, ℕ, reverse, take}
use Rattle.oak_machine.specs.Runs.{learned}
use Rattle.oak_past.proofs.machine.may_learn.Given as goal

abbrev pub invariant-loop-at : goal.invariant-loop-at
invariant-loop-at l = (n : ℕ) → n < l.at → l.v ≡ learned l.journal.clusters l.journal.start (reverse l.journal.events.list) (reverse (take n l.journal.events.list)) l.cluster → ⊥
