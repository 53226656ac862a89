use Rattle.std.proofs.Common.{◌≡◌, ◌∷◌, [], sym, ap, subst, refl, ⊎_elim, arith}
use Rattle.seat_lock.specs.Views.{OwnsAuthor}
use Rattle.seat_lock.proofs.Lists.{contains_cons, contains_none}
use Rattle.seat_lock.proofs.tests.job_for.Goals as goal

pub returns-clause-others : goal.returns-clause-others
returns-clause-others c a apart has =
    let law = c.parts_after_calls.ensures in
    let v = c.args.main.now.seat.me.0 in
    subst (λ w. OwnsAuthor w a) (sym c.split-pass.ensures.left)
    (has.0, (law.left (c.args.author ∷ []) v a has.0).1 ((λ h. ⊎_elim (λ (same : c.args.author ≡ a). apart (sym same)) (contains_none a) (contains_cons c.args.author a [] h.0 h.1 h.2)), has.1))

pub returns-clause-job : goal.returns-clause-job
returns-clause-job c =
    let law = c.parts_after_calls.ensures in
    let given = c.split-pass.ensures.given in
    let v = c.args.main.now.seat.me.0 in
    let has = c.requires.author in (
      c.split-pass.ensures.own.1,
      subst (λ w. OwnsAuthor w c.args.author) (sym given) (has.0, (law.split (c.args.author ∷ []) v c.args.author has.0).1 ((0, omega arith, refl), has.1)),
      ap (λ w. w.round) given,
      ap (λ w. w.weight) given,
    )
