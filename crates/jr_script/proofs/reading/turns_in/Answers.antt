use Rattle.std.proofs.Common.{◌∙◌, ℕ, ◌≤◌, Ok, ap, length, refl, subst, sym}
use Rattle.jr_args.proofs.Readings.{exits, goes, means}
use Rattle.jr_script.proofs.Sessions.{schedule_exits, schedule_read}
use Rattle.jr_script.proofs.Within.{few_sessions}
use Rattle.jr_script.proofs.reading.turns_in.Goals as goal

pub returns-in_err-sessions : goal.returns-in_err-sessions
returns-in_err-sessions c = exits _ _ _ _ c.from_residual.ensures.1 c.in_err-sessions.ensures

pub returns-in_err-schedule : goal.returns-in_err-schedule
returns-in_err-schedule c =
    goes _ _ _ _ c.in_ok-sessions.ensures (schedule_exits _ c.in_ok-sessions.sessions _ _ _ _ (c.len.ensures ∙ (c.inner.result.now.ok.0 ∙ ap length c.inner.ensures)) c.from_residual-in_err-schedule.ensures.1 c.in_err-schedule.ensures)

pub schedule_in-requires : goal.schedule_in-requires
schedule_in-requires c =
    subst (λ (n : ℕ). n ≤ 64) (sym (c.len.ensures ∙ (c.inner.result.now.ok.0 ∙ ap length c.inner.ensures))) (few_sessions c.args.clusters _ c.in_ok-sessions.sessions c.in_ok-sessions.ensures)

pub returns : goal.returns
returns c = means _ _ _ _ c.in_ok-sessions.ensures (means _ _ _ _ (schedule_read _ c.in_ok-sessions.sessions _ (Ok c.in_ok-schedule.schedule) (c.len.ensures ∙ (c.inner.result.now.ok.0 ∙ ap length c.inner.ensures)) c.in_ok-schedule.ensures) refl)
