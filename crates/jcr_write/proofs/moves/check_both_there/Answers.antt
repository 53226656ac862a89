use Rattle.std.proofs.Common.{Option, [], ◌∷◌}
use Rattle.jr_tree.specs.declared.shared.Refusal.{Refusal}
use Rattle.jr_overlay.specs.Overlays.{sighted}
use Rattle.jcr_write.specs.Places.{above}
use Rattle.jcr_write.specs.Writes.{absent}
use Rattle.jcr_write.proofs.Due.{first_here, last_none, last_result}
use Rattle.jcr_write.proofs.moves.check_both_there.Goals as goal

pub returns-in-Ok : goal.returns-in-Ok
returns-in-Ok c =
    let d = c.args.draft.now in
    let a : Option Refusal = absent (sighted d.sight) d.steps c.args.from.now in
    let b : Option Refusal = absent (sighted d.sight) d.steps (above c.args.to.now) in
    record {
      ok = last_none c.check_above.result a b c.in-Ok.ensures.ok c.check_above.ensures.ok;
      err = last_result c.check_above.result a b c.in-Ok.ensures.ok c.check_above.ensures.err;
    }

pub returns-in-Err-clause-err : goal.returns-in-Err-clause-err
returns-in-Err-clause-err c =
    let d = c.args.draft.now in
    let a : Option Refusal = absent (sighted d.sight) d.steps c.args.from.now in
    let b : Option Refusal = absent (sighted d.sight) d.steps (above c.args.to.now) in
    first_here a (b ∷ []) c.in-Err.refusal c.in-Err.ensures.err
