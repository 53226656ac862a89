use Rattle.std.proofs.Common.{arith, inl, inr, sym, ◌∙◌}
use Rattle.std.proofs.lemmas.Bool.{false≢true}
use Rattle.std.proofs.lemmas.Result.{err_from_is_err_and}
use Rattle.jr_path.proofs.Scanned.{scan_ends, scan_ends_at_dots, scan_ends_early, scan_goes_on, scan_keeps_room, scan_stops}
use Rattle.jr_path.proofs.name.check_name.Goals as goal

pub returns-in_err-stage : goal.returns-in_err-stage
returns-in_err-stage c =
    let step = c.in-Some.ensures.steps in
    let p = err_from_is_err_and c.from_residual.result c.from_residual.ensures.1 in
    rw (p.1, p.2) (scan_stops _ _ _ _ _ _ _ c.loop-offset.invariant.1 step.1 (rw step.0 at (sym c.in_err-stage.ensures)))

pub loop-offset-preserved : goal.loop-offset-preserved
loop-offset-preserved c =
    let step = c.in-Some.ensures.steps in (
      scan_keeps_room _ _ _ _ _ c.loop-offset.invariant.0 step.1 step.2,
      rw step.2 (scan_goes_on _ _ _ _ _ _ _ c.loop-offset.invariant.1 step.1 (rw step.0 at (sym c.in_ok-stage.ensures))),
    )

pub returns-then-missing-gt0 : goal.returns-then-missing-gt0
returns-then-missing-gt0 c = scan_ends_early _ _ _ _ c.loop-offset.invariant.1 c.in-None.ensures.steps.0 (rw c.missing.ensures at c.if-missing-gt0.true)

pub returns-then-is_dots : goal.returns-then-is_dots
returns-then-is_dots c = scan_ends_at_dots _ _ _ _ c.loop-offset.invariant.1 c.in-None.ensures.steps.0 (c.is_dots.ensures.0 c.if-is_dots.true)

pub returns : goal.returns
returns c =
    let no_dots = λ (dots : _). false≢true (sym c.if-is_dots.false ∙ c.is_dots.ensures.1 dots) in
    let none_missing = c.missing.ensures in
    scan_ends _ _ _ _ c.loop-offset.invariant.1 c.in-None.ensures.steps.0 (omega arith) (λ e. no_dots (inl e)) (λ e. no_dots (inr e))
