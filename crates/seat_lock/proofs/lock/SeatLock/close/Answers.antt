use Rattle.std.proofs.Common.{◌≡◌, sym, ap, subst, ◌∙◌, arith}
use Rattle.std.specs.declared.option.Option.TheVariants.{Some}
use mathlib.Core.Option.{some-injective}
use Rattle.seat_lock.proofs.Steps.{closes}
use Rattle.seat_lock.proofs.lock.SeatLock.close.Goals as goal

pub unwrap-requires : goal.unwrap-requires
unwrap-requires g c =
    let h = c.close_with-closed.ensures.values.2 in
    let e = closes g.T.Counted h.0 h.1.0 c.args.pass.seat.id c.args.pass.seat.me.0 h.1.1 c.requires.whole c.requires.rest in
    let same : c.take-value.result ≡ Some e.0 = some-injective _ _ (sym c.take-value.ensures.value ∙ h.4 0 (Some e.0) e.1) in
    grind (arith, same)

pub returns-clause-journal : goal.returns-clause-journal
returns-clause-journal g c =
    let h = c.close_with-closed.ensures.values.2 in
    let e = closes g.T.Counted h.0 h.1.0 c.args.pass.seat.id c.args.pass.seat.me.0 h.1.1 c.requires.whole c.requires.rest in
    let same : c.take-value.result ≡ Some e.0 = some-injective _ _ (sym c.take-value.ensures.value ∙ h.4 0 (Some e.0) e.1) in
    let value : e.0 ≡ c.unwrap.result = grind (arith, same) in
    ap g.T.Counted.journal (sym value) ∙ e.2

pub returns-clause-frame : goal.returns-clause-frame
returns-clause-frame g c =
    let h = c.close_with-closed.ensures.values.2 in
    let e = closes g.T.Counted h.0 h.1.0 c.args.pass.seat.id c.args.pass.seat.me.0 h.1.1 c.requires.whole c.requires.rest in
    let same : c.take-value.result ≡ Some e.0 = some-injective _ _ (sym c.take-value.ensures.value ∙ h.4 0 (Some e.0) e.1) in
    let value : e.0 ≡ c.unwrap.result = grind (arith, same) in
    e.3 ∙ ap (λ x. Some (g.T.Counted.frame x)) value

pub returns-clause-parts : goal.returns-clause-parts
returns-clause-parts g c a q has =
    let h = c.close_with-closed.ensures.values.2 in
    let e = closes g.T.Counted h.0 h.1.0 c.args.pass.seat.id c.args.pass.seat.me.0 h.1.1 c.requires.whole c.requires.rest in
    let same : c.take-value.result ≡ Some e.0 = some-injective _ _ (sym c.take-value.ensures.value ∙ h.4 0 (Some e.0) e.1) in
    let value : e.0 ≡ c.unwrap.result = grind (arith, same) in
    subst (λ x. g.T.Counted.part x a ≡ q) value (e.4 a q has)
