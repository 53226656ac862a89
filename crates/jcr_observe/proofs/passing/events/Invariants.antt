use Rattle.std.proofs.Common.{◌≡◌, take}
use Rattle.jcr_observe.specs.Observed.{observed_events}
use Rattle.jcr_observe.proofs.passing.events.Given as goal

abbrev pub invariant-loop-commit : goal.invariant-loop-commit
invariant-loop-commit l = l.events.items ≡ observed_events l.filter (take l.commit-index l.commits)
