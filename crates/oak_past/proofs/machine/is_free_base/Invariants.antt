use Rattle.std.proofs.Common.{◌↔◌, IsTrue, reverse, take}
use Rattle.oak_machine.specs.Tests.{IsFreeBaseAmong}
use Rattle.oak_past.proofs.machine.is_free_base.Given as goal

abbrev pub invariant-loop-event : goal.invariant-loop-event
invariant-loop-event l = IsTrue l.found ↔ IsFreeBaseAmong l.sessions (reverse l.events) l.v (reverse (take l.event-index l.events))
