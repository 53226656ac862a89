use Rattle.std.proofs.Common.{◌≡◌, reverse, take}
use Rattle.oak_machine.specs.Sessions.{has_login}
use Rattle.oak_past.proofs.sessions.has_login.Given as goal

abbrev pub invariant-loop-event : goal.invariant-loop-event
invariant-loop-event l = l.login ≡ has_login (reverse (take l.event-index l.events)) l.session
