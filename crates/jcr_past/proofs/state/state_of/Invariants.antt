use Rattle.std.proofs.Common.{◌≡◌, take}
use Rattle.std.specs.Prelude.{reverse}
use Rattle.jcr_law.specs.State.{session_state}
use Rattle.jcr_past.proofs.state.state_of.Given as goal

-- the state after the events so far
abbrev pub invariant-loop-at : goal.invariant-loop-at
invariant-loop-at l = l.state ≡ session_state l.law l.start (reverse (take l.at l.events)) l.session
