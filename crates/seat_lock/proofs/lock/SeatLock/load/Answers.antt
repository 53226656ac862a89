use Rattle.std.proofs.Common.{◌≡◌, subst, ◌∙◌, arith}
use Rattle.std.specs.declared.option.Option.TheVariants.{Some}
use Rattle.seat_lock.proofs.Seats.{slot_first, stands_loaded}
use Rattle.seat_lock.proofs.Steps.{loads}
use Rattle.seat_lock.proofs.lock.SeatLock.load.Goals as goal

pub load-before-requires : goal.load-before-requires
load-before-requires g c =
    let seat = c.args.pass.now.seat in
    (c.requires.own, omega (arith, c.args.self.now.two_words), loads g.T.Counted c.args.self.now.table.shared.table_id.slots seat.id seat.me c.requires.turn)

pub exchange-requires : goal.exchange-requires
exchange-requires g c =
    let took = c.load-before.ensures.2 in
    (c.load-before.ensures.0 ∙ c.requires.own, (Some took.0, slot_first g.T.Counted took.0 c.load-before.new.seat.me.1 c.args.pass.now.seat.me.1 took.1.slots))

pub invariant_of-pass : goal.invariant_of-pass
invariant_of-pass g c =
    let old = c.args.pass.now in
    let took = c.load-before.ensures.2 in
    let stands = stands_loaded g.T.Counted old.seat.me c.load-before.new.seat.me c.exchange.new.seat.me c.load-before.result took.0
    (record { has_weight = old.has_weight; in_order = old.in_order; slots_fit = old.slots_fit }) took.1 c.exchange.ensures.3 in
    record { has_weight = stands.has_weight; in_order = stands.in_order; slots_fit = stands.slots_fit }

pub returns-clause-parts : goal.returns-clause-parts
returns-clause-parts g c a q has =
    let took = c.load-before.ensures.2 in
    let same : took.0 ≡ c.in-Some.value = grind (arith, took.1.slots) in
    subst (λ x. g.T.Counted.part x a ≡ q) same (took.1.parts_are a q has)
