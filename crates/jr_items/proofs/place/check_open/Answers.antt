use Rattle.std.proofs.Common.{[], ◌∷◌}
use Rattle.jr_items.specs.Refusals.{in_system, too_deep, too_long}
use Rattle.jr_items.proofs.FirstRefusal.{ahead_due, behind_due, behind_none}
use Rattle.jr_items.proofs.place.check_open.Goals as goal

pub returns-in-Ok : goal.returns-in-Ok
returns-in-Ok c =
    let p = c.args.path.now in
    let before = too_deep p ∷ too_long p ∷ [] in
    record {
      ok = behind_none c.check_not_system.result before (in_system p) c.in-Ok.ensures.ok c.check_not_system.ensures.ok;
      err = behind_due c.check_not_system.result before (in_system p) c.in-Ok.ensures.ok c.check_not_system.ensures.err;
    }

pub returns-in-Err-clause-err : goal.returns-in-Err-clause-err
returns-in-Err-clause-err c =
    let p = c.args.path.now in
    ahead_due (too_deep p ∷ too_long p ∷ []) (in_system p ∷ []) c.in-Err.refusal c.in-Err.ensures.err
