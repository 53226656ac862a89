use Rattle.std.proofs.Common.{◌≡◌, None, map, subst}
use Rattle.std.specs.String.{string_bytes}
use Rattle.std.proofs.lemmas.Result.{err_from_is_err_and}
use Rattle.jr_items.specs.Refusals.{IsTheRefusal}
use Rattle.jcr_plan.specs.Checked.{refusal_by}
use Rattle.jcr_plan.proofs.Refused.{if_ok}
use Rattle.jcr_plan.proofs.plans.checked_marks.Goals as goal

pub returns-in_err-check_plan-clause-err : goal.returns-in_err-check_plan-clause-err
returns-in_err-check_plan-clause-err c =
    let p = err_from_is_err_and c.from_residual.result c.from_residual.ensures.1 in
    rw (p.1, p.2) (subst (λ ws. IsTheRefusal (refusal_by c.args.assured c.args.types.now c.args.old.now (map string_bytes c.args.tokens.now) ws) c.in_err-check_plan.field-0.0) c.as_slice-writes.ensures c.in_err-check_plan.ensures.err)

pub returns-clause-ok : goal.returns-clause-ok
returns-clause-ok c =
    if_ok c.marks_or_memory.result (subst (λ ws. refusal_by c.args.assured c.args.types.now c.args.old.now (map string_bytes c.args.tokens.now) ws ≡ None) c.as_slice-writes.ensures c.in_ok-check_plan.ensures.ok)
