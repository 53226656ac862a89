use Rattle.std.proofs.Common.{arith}
use Rattle.seat_lock.proofs.Steps.{takes_turn}
use Rattle.seat_lock.proofs.lock.SeatLock.try_turn.Goals as goal

pub compare_exchange-requires : goal.compare_exchange-requires
compare_exchange-requires g c =
    let pass = c.args.pass.now in
    (c.requires, omega (arith, c.args.self.now.two_words), takes_turn g.T.Counted c.args.self.now.table.shared.table_id.slots pass.seat.id pass.seat.me pass.has_weight)
