use Rattle.std.proofs.Common.{◌≡◌, reverse, take}
use Rattle.oak_machine.specs.Sessions.{base_of}
use Rattle.oak_past.proofs.sessions.base_of.Given as goal

abbrev pub invariant-loop-at : goal.invariant-loop-at
invariant-loop-at l = l.base ≡ base_of (reverse (take l.at l.events)) l.session
