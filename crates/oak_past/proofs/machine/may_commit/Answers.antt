use Rattle.std.proofs.Common.{reverse}
use Rattle.std.proofs.lemmas.Bool.Decides.{Decides-at}
use Rattle.oak_machine.proofs.Deciding.{apart_decided}
use Rattle.oak_past.proofs.machine.may_commit.Goals as goal

pub returns-then-is_open : goal.returns-then-is_open
returns-then-is_open c =
    let d = Decides-at c.is_apart.result _ c.is_apart.ensures (apart_decided (reverse c.args.events.now) c.args.r) in
    (λ t. record { open_ = c.is_open.ensures.0 c.if-is_open.true; apart = d.0 t }, λ m. d.1 m.apart)
