use Rattle.std.proofs.Common.{◌≡◌, ◌++◌, length}
use Rattle.jr_stage.specs.Seats.{AreNew}
use Rattle.jr_stage.proofs.stage.seats_of.Given as goal

-- the sessions so far have their seats
abbrev pub invariant-loop-session : goal.invariant-loop-session
invariant-loop-session l = record {
  whole : l.yielded ++ l.session-iterator.rest.items ≡ l.fn.sessions;
  new : AreNew l.types l.fn.sessions (length l.yielded) l.seats.items;
}
