use Rattle.std.proofs.Common.{◌≡◌, take}
use Rattle.oak_doc.specs.Updates.{of_revision}
use Rattle.oak_changes.proofs.states.is_there.Given as goal

-- what is found among the states so far
abbrev pub invariant-loop-state : goal.invariant-loop-state
invariant-loop-state l = l.found ≡ of_revision (take l.state-index l.states) l.r
