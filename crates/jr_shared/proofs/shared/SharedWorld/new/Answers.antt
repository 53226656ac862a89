use Rattle.std.proofs.Common.{◌≡◌, ◌<◌, ℕ, true, length, sym, subst}
use Rattle.jr_shared.specs.Holds.{IsTold, has_seat}
use Rattle.jr_shared.proofs.Handing.{first_seat, first_told}
use Rattle.jr_shared.proofs.shared.SharedWorld.new.Goals as goal

pub returns-clause-told : goal.returns-clause-told
returns-clause-told g c = subst (λ v. IsTold v) (sym c.in_ok-lock.ensures.pass) (first_told c.args.world c.is_whole.ensures.told)

pub returns-clause-seats : goal.returns-clause-seats
returns-clause-seats g c = subst (λ v. (s : ℕ) → s < length c.args.world.history.sessions → has_seat v s ≡ true) (sym c.in_ok-lock.ensures.pass) (first_seat c.args.world c.is_whole.ensures.seats)
