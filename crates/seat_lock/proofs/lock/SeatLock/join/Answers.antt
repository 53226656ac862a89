use Rattle.std.proofs.Common.{◌∙◌, ap, arith}
use Rattle.seat_lock.specs.Views.{slots_of}
use Rattle.seat_lock.proofs.Steps.{joins, looks}
use Rattle.seat_lock.proofs.lock.SeatLock.join.Goals as goal

pub join_seat-requires : goal.join_seat-requires
join_seat-requires g c =
    let pass = c.args.pass.now in
    let other = c.args.other in (
      c.requires.own.0,
      c.requires.own.1,
      other.slots_fit ∙ ap slots_of c.requires.rest,
      omega (arith, c.args.self.now.two_words),
      joins g.T.Counted pass.seat.id pass.seat.me.0 other.seat.id other.seat.me.0 pass.has_weight other.has_weight c.requires.rest,
    )

pub load-requires : goal.load-requires
load-requires g c =
    let seat = c.join_seat.new.seat in
    (c.join_seat.ensures.0 ∙ c.requires.own.0, omega (arith, c.args.self.now.two_words), looks g.T.Counted c.args.self.now.table.shared.table_id.slots seat.id seat.me)
