use Rattle.std.proofs.Common.{◌≡◌, ◌++◌, take}
use Rattle.jcr_observe.specs.Observed.{events_of_changes}
use Rattle.jcr_observe.proofs.passing.add_changes.Given as goal

abbrev pub invariant-loop-change : goal.invariant-loop-change
invariant-loop-change l = l.events.items ≡ l.initial.events.items ++ events_of_changes l.filter (take l.change-index l.changes)
