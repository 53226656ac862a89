use Rattle.std.proofs.Common.{◌≡◌, ◌+◌, length}
use Rattle.jr_work.proofs.Dealing.{IsDealing}
use Rattle.jr_work.proofs.hands.deal.Given as goal

-- the sessions so far are dealt
abbrev pub invariant-loop-session : goal.invariant-loop-session
invariant-loop-session l = record {
  many : l.s + length l.session-iterator.rest.items ≡ length l.fn.sessions;
  dealing : IsDealing l.fn.sessions l.session-iterator.rest.items l.workers l.s l.hands.items;
}
