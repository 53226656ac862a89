use Rattle.std.proofs.Common.{◌<◌, ℕ, zero, suc, ◌∷◌, [], Contains, slice_index, sym, subst, refl, arith}
use Rattle.seat_lock.specs.Views.{OwnsAuthor}
use Rattle.seat_lock.proofs.tests.shared.Goals as goal

one_of_four : (a : ℕ) → a < 4 → Contains (0 ∷ 1 ∷ 2 ∷ 3 ∷ []) a
one_of_four zero less = (0, omega arith, refl)
one_of_four (suc zero) less = (1, omega arith, refl)
one_of_four (suc (suc zero)) less = (2, omega arith, refl)
one_of_four (suc (suc (suc zero))) less = (3, omega arith, refl)
one_of_four (suc (suc (suc (suc a)))) less = absurd (omega arith)

pub returns-clause-authors : goal.returns-clause-authors
returns-clause-authors c a less =
    let law = c.parts_after_calls.ensures in
    let tally = c.in_ok-tally.tally in
    let q = slice_index tally.counts.items a in
    subst (λ w. OwnsAuthor w a) (sym c.in_ok-lock.ensures.pass) (q, (law.new tally a q).1 (one_of_four a less, refl))
