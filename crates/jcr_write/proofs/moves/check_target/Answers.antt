use Rattle.std.proofs.Common.{Option, [], ◌∷◌}
use Rattle.jr_tree.specs.declared.shared.Refusal.{Refusal}
use Rattle.std.specs.Prelude.{is_some}
use Rattle.jr_path.specs.Names.{is_under}
use Rattle.jr_items.specs.Refusals.{own_rule, taken, when}
use Rattle.jr_overlay.specs.Drafts.{in_draft}
use Rattle.jcr_write.proofs.Due.{first_here, last_none, last_result}
use Rattle.jcr_write.proofs.moves.check_target.Goals as goal

pub returns-in-Ok : goal.returns-in-Ok
returns-in-Ok c =
    let q = c.args.to.now in
    let a : Option Refusal = when (is_some (in_draft c.args.draft.now q)) (taken q) in
    let b : Option Refusal = when (is_under q c.args.from.now) (own_rule q) in
    record {
      ok = last_none c.check_not_below.result a b c.in-Ok.ensures.ok c.check_not_below.ensures.ok;
      err = last_result c.check_not_below.result a b c.in-Ok.ensures.ok c.check_not_below.ensures.err;
    }

pub returns-in-Err-clause-err : goal.returns-in-Err-clause-err
returns-in-Err-clause-err c =
    let q = c.args.to.now in
    let a : Option Refusal = when (is_some (in_draft c.args.draft.now q)) (taken q) in
    let b : Option Refusal = when (is_under q c.args.from.now) (own_rule q) in
    first_here a (b ∷ []) c.in-Err.refusal c.in-Err.ensures.err
