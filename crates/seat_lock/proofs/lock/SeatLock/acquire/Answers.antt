use Rattle.std.proofs.Common.{Contains, subst, sym, ap, ◌∙◌}
use Rattle.seat_lock.proofs.lock.SeatLock.acquire.Goals as goal

pub returns-then-try_turn-clause-parts : goal.returns-then-try_turn-clause-parts
returns-then-try_turn-clause-parts g c a q has =
    let view = (c.try_turn.ensures.got c.if-try_turn.true).1 in
    let same = ap (λ v. v.parts) view ∙ ap (λ v. v.parts) c.tries.invariant.3 in
    c.load.ensures.parts a q (subst (λ l. Contains l (a, q)) (sym same) has)
