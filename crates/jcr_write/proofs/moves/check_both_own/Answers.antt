use Rattle.std.proofs.Common.{Option, [], ◌∷◌}
use Rattle.jr_tree.specs.declared.shared.Refusal.{Refusal}
use Rattle.jr_items.specs.Refusals.{in_system}
use Rattle.jcr_write.proofs.Due.{first_here, last_none, last_result}
use Rattle.jcr_write.proofs.moves.check_both_own.Goals as goal

pub returns-in-Ok : goal.returns-in-Ok
returns-in-Ok c =
    let a : Option Refusal = in_system c.args.from.now in
    let b : Option Refusal = in_system c.args.to.now in
    record {
      ok = last_none c.check_not_system-in-Ok.result a b c.in-Ok.ensures.ok c.check_not_system-in-Ok.ensures.ok;
      err = last_result c.check_not_system-in-Ok.result a b c.in-Ok.ensures.ok c.check_not_system-in-Ok.ensures.err;
    }

pub returns-in-Err-clause-err : goal.returns-in-Err-clause-err
returns-in-Err-clause-err c =
    let a : Option Refusal = in_system c.args.from.now in
    let b : Option Refusal = in_system c.args.to.now in
    first_here a (b ∷ []) c.in-Err.refusal c.in-Err.ensures.err
