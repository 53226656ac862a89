use Rattle.std.proofs.Common.{◌∷◌, ap, ◌∙◌, arith}
use Rattle.std.specs.declared.option.Option.TheVariants.{Some}
use mathlib.Core.Option.{none}
use Rattle.atomic_table.specs.Seated.{TableId}
use Rattle.atomic_table.specs.Table.{step, rest}
use Rattle.seat_lock.proofs.Seats.{adds_back, parts_released, stands_released}
use Rattle.seat_lock.proofs.Steps.{gives_turn}
use Rattle.seat_lock.proofs.lock.SeatLock.release.Goals as goal

pub fetch_add-requires : goal.fetch_add-requires
fetch_add-requires g c =
    let old = c.args.pass.now in
    let hold = c.args.hold in
    let on = c.requires.goes_on in (
      ◌∙◌ {A = TableId} {a = c.exchange.new.seat.table_id} c.exchange.ensures.0 c.requires.own,
      omega (arith, c.args.self.now.two_words),
      adds_back g.T.Counted c.args.self.now.table.shared.table_id.slots c.exchange.new.seat.id c.count.result hold.before old.seat.me c.exchange.new.seat.me hold.taken.value hold.value
          (record { has_weight = old.has_weight; in_order = old.in_order; slots_fit = old.slots_fit })
          c.requires.hold.0 c.exchange.ensures.3 on.longer on.frame_is on.others on.steady_is c.requires.hold.1 c.count.ensures c.count.type_inv,
    )

pub store-requires : goal.store-requires
store-requires g c =
    let slots = c.args.self.now.table.shared.table_id.slots in
    let counted = c.fetch_add.ensures.2.2 in (
      ◌∙◌ {A = TableId} {a = c.fetch_add.new.seat.table_id} c.fetch_add.ensures.0 (◌∙◌ {A = TableId} {a = c.exchange.new.seat.table_id} c.exchange.ensures.0 c.requires.own),
      omega (arith, c.args.self.now.two_words),
      gives_turn g.T.Counted slots c.fetch_add.new.seat.id c.fetch_add.new.seat.me (ap (λ v. v.round) counted.view),
    )

pub invariant_of-pass : goal.invariant_of-pass
invariant_of-pass g c =
    let old = c.args.pass.now in
    let slots = c.args.self.now.table.shared.table_id.slots in
    let stands = stands_released g.T.Counted old.seat.me c.exchange.new.seat.me c.fetch_add.new.seat.me c.store.new.seat.me (step slots 0 0 0 none) ((0, Some c.args.hold.value) ∷ rest old.seat.me.1) 0 c.fetch_add.ensures.2.0
    (record { has_weight = old.has_weight; in_order = old.in_order; slots_fit = old.slots_fit }) c.exchange.ensures.3 c.fetch_add.ensures.2.2 c.store.ensures.2 in
    record { has_weight = stands.has_weight; in_order = stands.in_order; slots_fit = stands.slots_fit }

pub returns-clause-parts : goal.returns-clause-parts
returns-clause-parts g c a has =
    let slots = c.args.self.now.table.shared.table_id.slots in
    let counted = c.fetch_add.ensures.2 in
    parts_released g.T.Counted c.args.pass.now.seat.me c.exchange.new.seat.me c.fetch_add.new.seat.me c.store.new.seat.me (step slots 0 0 0 none) (rest c.args.pass.now.seat.me.1) 0 c.args.hold.value counted.0
    c.exchange.ensures.3 counted.1 counted.2 c.store.ensures.2 a has
