use Rattle.std.proofs.Common.{arith}
use Rattle.seat_lock.proofs.Steps.{splits}
use Rattle.seat_lock.proofs.lock.SeatLock.split_by.Goals as goal

pub split_seat-seat-requires : goal.split_seat-seat-requires
split_seat-seat-requires g c =
    let seat = c.args.pass.now.seat in
    (c.requires.own, omega (arith, c.args.self.now.two_words), splits g.T.Counted seat.id seat.me.0 g.J.Handed.authors c.requires.weight)
