-- The next command of a session asks for each event that its tasks append.
use Rattle.std.proofs.Common.{◌≡◌, true, Some, None, refl, sym, ap, ◌∙◌}
use Rattle.std.specs.Prelude.{ℕ}
use mathlib.Core.Bool.{false≢true}
use Rattle.oak_machine.specs.declared.event.Event.{Event}
use Rattle.oak_machine.specs.declared.event.Event.TheVariants as event
use Rattle.oak_machine.specs.declared.event.StepKind.TheVariants as kind
use Rattle.oak_machine.specs.Asked.{is_of_commit}
use Rattle.oak_machine.specs.Sessions.{next_index}
use Rattle.oak_port.specs.Ports.{Appends, IsAskedOf, Shown}
use Rattle.oak_port.specs.declared.task.Task.TheVariants as task
use Rattle.jcr_plan.specs.declared.plans.Plan.{Plan}
use Rattle.jcr_trans.specs.declared.command.Command.{Command}
use Rattle.jcr_trans.specs.declared.command.Command.TheVariants as command
use Rattle.jcr_law.specs.declared.law.JcrLaw.{JcrLaw}
use Rattle.jcr_law.specs.Built.{is_built}
use Rattle.jcr_law.specs.Makes.{IsAskedAt, CommandAsks, commits}
use Rattle.jcr_law.specs.State.{command_at}
use Rattle.jcr_run.specs.declared.next.Due.TheVariants as due
use Rattle.jcr_run.specs.declared.run.Phase.TheVariants as phase
use Rattle.jcr_run.specs.declared.run.SessionRun.{SessionRun}
use Rattle.jcr_session.specs.Begins.{MayDrawFor}
use Rattle.jcr_run.specs.Standing.{Stands, due_for}
use Rattle.jcr_session.proofs.Drawing.{commit_commits, next_mid}
use Rattle.jcr_session.proofs.Living.{outside_at}
use Rattle.jcr_run.proofs.Lawful.{asks_of}
use Rattle.jcr_run.proofs.Stages.{next_is}
use Rattle.jcr_run.proofs.Starting.{left_none}

module _ (law : JcrLaw) (p : Shown) (run : SessionRun) (stands : Stands law p run) where
  -- a login, before the first command
  pub login_asked : run.phase ≡ phase.Outside → IsAskedOf (asks_of law) p.history p.session task.Login
  login_asked outside e appends = by e appends
    where
      first : next_index p.history.past p.session ≡ 0
      first = ap (next_index p.history.past) stands.session ∙ (sym stands.index ∙ (outside_at law p run stands outside).first)

      by : (e : Event) → Appends task.Login e → IsAskedAt law p.session (next_index p.history.past p.session) e
      by (event.Login t v) m = first
      by e m = absurd m

  -- a leave, behind the last one
  pub leave_asked : due_for run ≡ due.Leave → IsAskedOf (asks_of law) p.history p.session task.End
  leave_asked leaves e appends = by e appends
    where
      none : command_at law p.session (next_index p.history.past p.session) ≡ None
      none = next_is law p run stands ∙ left_none run.attached run.commands run.index leaves

      by : (e : Event) → Appends task.End e → IsAskedAt law p.session (next_index p.history.past p.session) e
      by (event.Went t kind.End) m = none
      by e m = absurd m

-- the events of a commit, for a command that commits
commit_makes : (m : Command) (e : Event) → commits m ≡ true → is_of_commit e ≡ true → CommandAsks m e
commit_makes command.Save e h is = is
commit_makes (command.Lock p deep) e h is = is
commit_makes (command.Unlock p) e h is = is
commit_makes (command.Checkin p) e h is = is
commit_makes (command.Checkout p) e h is = is
commit_makes (command.Label p version label take) e h is = is
commit_makes (command.Unlabel p label) e h is = is
commit_makes (command.Restore p version) e h is = is
commit_makes m e h is = absurd (false≢true h)

-- which is built
commit_built : (m : Command) → commits m ≡ true → is_built m ≡ true
commit_built command.Save h = refl
commit_built (command.Lock p deep) h = refl
commit_built (command.Unlock p) h = refl
commit_built (command.Checkin p) h = refl
commit_built (command.Checkout p) h = refl
commit_built (command.Label p version label take) h = refl
commit_built (command.Unlabel p label) h = refl
commit_built (command.Restore p version) h = refl
commit_built m h = absurd (false≢true h)

asked_commit : (law : JcrLaw) (s i : ℕ) (m : Command) → command_at law s i ≡ Some m → commits m ≡ true → (e : Event) → is_of_commit e ≡ true → IsAskedAt law s i e
asked_commit law s i m at h (event.Login t v) is = absurd (false≢true is)
asked_commit law s i m at h (event.Went t kind.End) is = absurd (false≢true is)
asked_commit law s i m at h e is = (m, at, commit_built m h, commit_makes m e h is)

pub commit_asked : (law : JcrLaw) (p : Shown) (run : SessionRun) (plan : Plan) → MayDrawFor law p run plan → IsAskedOf (asks_of law) p.history p.session (task.Commit plan.edit plan.marks)
commit_asked law p run plan may e appends =
    asked_commit law p.session (next_index p.history.past p.session) may.command (next_mid law p run plan may) (commit_commits run may.command may.asked.next may.commits) e appends
