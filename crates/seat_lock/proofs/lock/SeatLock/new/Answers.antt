use Rattle.std.proofs.Common.{◌≡◌, [], ◌∷◌, arith}
use Rattle.std.specs.declared.option.Option.TheVariants.{Some}
use Rattle.seat_lock.proofs.Steps.{opens}
use Rattle.seat_lock.proofs.lock.SeatLock.new.Goals as goal

pub new-requires : goal.new-requires
new-requires g c =
    let items : c.push.new.self.items ≡ Some c.args.value ∷ [] = grind arith in
    rw (items, c.of-about.ensures) (opens g.T.Counted c.args.value c.count-count.result c.count-count.ensures)
