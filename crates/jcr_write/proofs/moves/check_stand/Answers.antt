use Rattle.std.proofs.Common.{Option, [], ◌∷◌, List}
use Rattle.jr_tree.specs.declared.shared.Refusal.{Refusal}
use Rattle.std.specs.Prelude.{is_some}
use Rattle.jr_path.specs.Names.{is_under}
use Rattle.jr_items.specs.Refusals.{own_rule, taken, when}
use Rattle.jr_overlay.specs.Drafts.{in_draft}
use Rattle.jr_overlay.specs.Overlays.{sighted}
use Rattle.jcr_write.specs.Places.{above}
use Rattle.jcr_write.specs.Writes.{absent}
use Rattle.jcr_write.proofs.Due.{ahead_result, behind_none, behind_result}
use Rattle.jcr_write.proofs.moves.check_stand.Goals as goal

pub returns-in-Ok : goal.returns-in-Ok
returns-in-Ok c =
    let d = c.args.draft.now in
    let p = c.args.from.now in
    let q = c.args.to.now in
    let first : List (Option Refusal) = absent (sighted d.sight) d.steps p
    ∷ absent (sighted d.sight) d.steps (above q) ∷ [] in
    let rest : List (Option Refusal) = when (is_some (in_draft d q)) (taken q)
    ∷ when (is_under q p) (own_rule q) ∷ [] in
    record {
      ok = behind_none c.check_target.result first rest c.in-Ok.ensures.ok c.check_target.ensures.ok;
      err = behind_result c.check_target.result first rest c.in-Ok.ensures.ok c.check_target.ensures.err;
    }

pub returns-in-Err-clause-err : goal.returns-in-Err-clause-err
returns-in-Err-clause-err c =
    let d = c.args.draft.now in
    let p = c.args.from.now in
    let q = c.args.to.now in
    let first : List (Option Refusal) = absent (sighted d.sight) d.steps p
    ∷ absent (sighted d.sight) d.steps (above q) ∷ [] in
    let rest : List (Option Refusal) = when (is_some (in_draft d q)) (taken q)
    ∷ when (is_under q p) (own_rule q) ∷ [] in
    ahead_result first rest c.in-Err.refusal c.in-Err.ensures.err
