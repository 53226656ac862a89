use Rattle.std.proofs.Common.{◌≡◌}
use Rattle.seat_lock.specs.Passes.{IsOf, view_of}
use Rattle.seat_lock.proofs.lock.SeatLock.acquire.Given as goal

abbrev pub invariant-tries : goal.invariant-tries
invariant-tries g l =
    (goal.iterator-tries g).can_next l.iterator' × (goal.iterator-tries g).is_finite l.iterator'
    × IsOf l.self l.pass × (view_of l.pass ≡ view_of l.initial.pass)
