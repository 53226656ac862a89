use Rattle.std.proofs.Common.{Option, [], ◌∷◌, List}
use Rattle.jr_tree.specs.declared.shared.Refusal.{Refusal}
use Rattle.jr_items.specs.Refusals.{in_system, limit_refusal}
use Rattle.jcr_write.proofs.Due.{ahead_result, behind_none, behind_result}
use Rattle.jcr_write.proofs.moves.check_ends.Goals as goal

pub returns-in-Ok : goal.returns-in-Ok
returns-in-Ok c =
    let p = c.args.from.now in
    let q = c.args.to.now in
    let first : List (Option Refusal) = limit_refusal p
    ∷ limit_refusal q ∷ [] in
    let rest : List (Option Refusal) = in_system p
    ∷ in_system q ∷ [] in
    record {
      ok = behind_none c.check_both_own.result first rest c.in-Ok.ensures.ok c.check_both_own.ensures.ok;
      err = behind_result c.check_both_own.result first rest c.in-Ok.ensures.ok c.check_both_own.ensures.err;
    }

pub returns-in-Err-clause-err : goal.returns-in-Err-clause-err
returns-in-Err-clause-err c =
    let p = c.args.from.now in
    let q = c.args.to.now in
    let first : List (Option Refusal) = limit_refusal p
    ∷ limit_refusal q ∷ [] in
    let rest : List (Option Refusal) = in_system p
    ∷ in_system q ∷ [] in
    ahead_result first rest c.in-Err.refusal c.in-Err.ensures.err
