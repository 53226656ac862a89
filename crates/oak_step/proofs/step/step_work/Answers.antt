use Rattle.std.proofs.Common.{arith}
use Rattle.oak_step.proofs.Freeing.{keeps_free}
use Rattle.oak_step.proofs.step.step_work.Goals as goal

pub returns-in-Upkeep-clause-places : goal.returns-in-Upkeep-clause-places
returns-in-Upkeep-clause-places c =
    let free = keeps_free _ _ _ _ _ c.keep_up.ensures.made in
    let same = c.keep_up.ensures.places in
    omega (arith, free, same)

pub returns-in-Move-clause-made : goal.returns-in-Move-clause-made
returns-in-Move-clause-made c = rw c.in-Move.is (c.move_on.ensures.made c.args.node c.args.table.now)
