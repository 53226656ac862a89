use Rattle.std.proofs.Common.{◌≡◌, take}
use Rattle.oak_read.specs.Meaning.{latest}
use Rattle.oak_changes.specs.Saying.{states_before}
use Rattle.oak_changes.proofs.states.was_there.Given as goal

-- the latest of the states so far
abbrev pub invariant-loop-state : goal.invariant-loop-state
invariant-loop-state l = l.latest ≡ latest (states_before l.from l.r (take l.state-index l.states))
