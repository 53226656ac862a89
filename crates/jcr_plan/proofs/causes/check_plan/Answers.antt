use Rattle.std.proofs.Common.{map}
use Rattle.std.specs.String.{string_bytes}
use Rattle.std.proofs.lemmas.Result.{err_from_is_err_and}
use Rattle.jcr_plan.proofs.Refused.{by_none, by_reference, by_size, by_types}
use Rattle.jcr_plan.proofs.causes.check_plan.Goals as goal

pub returns-in_err-check_types-clause-err : goal.returns-in_err-check_types-clause-err
returns-in_err-check_types-clause-err c =
    let p = err_from_is_err_and c.from_residual-in_err-check_types.result c.from_residual-in_err-check_types.ensures.1 in
    rw (p.1, p.2)
    (by_types c.args.assured c.args.types.now c.args.old.now c.args.new.now (map string_bytes c.args.tokens.now) c.args.writes.now c.requires c.in_ok-check_checked_out.ensures.ok c.in_ok-check_unlocked.ensures.ok _ c.in_err-check_types.ensures.err)

pub returns-in_err-check_references-clause-err : goal.returns-in_err-check_references-clause-err
returns-in_err-check_references-clause-err c =
    let p = err_from_is_err_and c.from_residual-in_err-check_references.result c.from_residual-in_err-check_references.ensures.1 in
    rw (p.1, p.2)
    (by_reference c.args.assured c.args.types.now c.args.old.now c.args.new.now (map string_bytes c.args.tokens.now) c.args.writes.now c.requires c.in_ok-check_checked_out.ensures.ok c.in_ok-check_unlocked.ensures.ok c.in_ok-check_types.ensures.ok _ c.in_err-check_references.ensures.err)

pub returns-in_err-check_size-clause-err : goal.returns-in_err-check_size-clause-err
returns-in_err-check_size-clause-err c =
    let p = err_from_is_err_and c.from_residual-in_err-check_size.result c.from_residual-in_err-check_size.ensures.1 in
    rw (p.1, p.2)
    (by_size c.args.assured c.args.types.now c.args.old.now c.args.new.now (map string_bytes c.args.tokens.now) c.args.writes.now c.requires c.in_ok-check_checked_out.ensures.ok c.in_ok-check_unlocked.ensures.ok c.in_ok-check_types.ensures.ok c.in_ok-check_references.ensures.ok _ c.in_err-check_size.ensures.err)

pub returns-clause-ok : goal.returns-clause-ok
returns-clause-ok c =
    by_none c.args.assured c.args.types.now c.args.old.now c.args.new.now (map string_bytes c.args.tokens.now) c.args.writes.now c.requires c.in_ok-check_checked_out.ensures.ok c.in_ok-check_unlocked.ensures.ok c.in_ok-check_types.ensures.ok c.in_ok-check_references.ensures.ok c.in_ok-check_size.ensures.ok
