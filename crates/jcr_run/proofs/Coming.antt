-- Which answers come to the steps of a session's tasks.
use Rattle.std.proofs.Common.{◌≡◌, ◌∙◌, Some, None, is_some, refl, sym, ap, subst}
use mathlib.Core.Bool.{false≢true}
use Rattle.jr_path.specs.Lists.{Text}
use Rattle.jr_path.specs.declared.path.Path.{Path}
use Rattle.jr_rev.specs.declared.vector.Pin.{Pin}
use Rattle.jr_tree.specs.declared.edit.Edit.{Edit}
use Rattle.std.specs.Prelude.{true, false, List, ℕ, nat_eq}
use Rattle.oak_clash.specs.declared.mark.MarkAt.{MarkAt}
use Rattle.oak_machine.specs.declared.event.StepKind.{StepKind}
use Rattle.oak_machine.specs.History.{History, Past}
use Rattle.oak_machine.specs.Laws.{Says, Starts, after}
use Rattle.oak_port.specs.Ports.{Awaiting, Deciding, Makes, Shown, Starting, Steps, Undoing, Work, Writing}
use Rattle.oak_port.specs.declared.task.StepOut.{StepOut}
use Rattle.oak_port.specs.declared.task.StepOut.TheVariants as out
use Rattle.oak_port.specs.declared.task.Task.{Task}
use Rattle.oak_port.specs.declared.task.Task.TheVariants as task
use Rattle.oak_port.specs.declared.task.TaskEnd.TheVariants as end
use Rattle.jcr_law.specs.declared.law.JcrLaw.{JcrLaw}
use Rattle.jcr_run.specs.declared.run.Pledge.{Pledge}
use Rattle.jcr_run.specs.declared.run.Phase.{Phase}
use Rattle.jcr_run.specs.declared.run.Phase.TheVariants as phase
use Rattle.jcr_run.specs.declared.run.SessionRun.{SessionRun}
use Rattle.jcr_steps.specs.Answered.{IsAttachAnswer, IsCommitAnswer, IsFirstAnswer, IsLeaveAnswer, IsListAnswer, IsLoadAnswer, IsPinAnswer, attached_by, ended_by}
use Rattle.jcr_steps.specs.Answered.{has_went, pinned_by}
use Rattle.jcr_steps.specs.declared.answers.Attached.{Attached}
use Rattle.jcr_steps.specs.declared.answers.Attached.TheVariants as attached
use Rattle.jcr_run.specs.Standing.{IsCommitting, Stands, StandsAt, is_committing, is_detaching}
use Rattle.jcr_run.proofs.Starting.{some_is}

-- ---- of a task that was begun

module _ (starts : Starts) (says : Says) (mid new : Shown) (answer : StepOut) (steps : Steps starts says mid new answer) where
  made_of : (t : Task) → mid.work ≡ Starting t → Makes (after steps.others mid.history) mid.session (Starting t) answer steps.own new.work
  made_of t busy = subst (λ (w : Work). Makes (after steps.others mid.history) mid.session w answer steps.own new.work) busy steps.makes

  pub login_comes : mid.work ≡ Starting task.Login → IsPinAnswer answer
  login_comes busy = by answer (made_of task.Login busy)
    where
      by : (a : StepOut) → Makes (after steps.others mid.history) mid.session (Starting task.Login) a steps.own new.work → IsPinAnswer a
      by (out.Ready (end.Pinned pin)) m = tt
      by out.Memory m = tt
      by a m = absurd m

  pub refresh_comes : mid.work ≡ Starting task.Refresh → IsPinAnswer answer
  refresh_comes busy = by answer (made_of task.Refresh busy)
    where
      by : (a : StepOut) → Makes (after steps.others mid.history) mid.session (Starting task.Refresh) a steps.own new.work → IsPinAnswer a
      by (out.Ready (end.Pinned pin)) m = tt
      by out.Memory m = tt
      by a m = absurd m

  pub attach_comes : (i : Text) → mid.work ≡ Starting (task.Attach i) → IsAttachAnswer answer
  attach_comes i busy = by answer (made_of (task.Attach i) busy)
    where
      by : (a : StepOut) → Makes (after steps.others mid.history) mid.session (Starting (task.Attach i)) a steps.own new.work → IsAttachAnswer a
      by (out.Ready (end.Set (Some pin))) m = tt
      by (out.Ready end.NoCheckpoint) m = tt
      by out.Memory m = tt
      by a m = absurd m

  pub detach_begins_so : mid.work ≡ Starting task.Detach → IsFirstAnswer answer
  detach_begins_so busy = by answer (made_of task.Detach busy)
    where
      by : (a : StepOut) → Makes (after steps.others mid.history) mid.session (Starting task.Detach) a steps.own new.work → IsFirstAnswer a
      by (out.Went k) m = tt
      by out.Memory m = tt
      by a m = absurd m

  pub leave_comes : mid.work ≡ Starting task.End → IsLeaveAnswer answer
  leave_comes busy = by answer (made_of task.End busy)
    where
      by : (a : StepOut) → Makes (after steps.others mid.history) mid.session (Starting task.End) a steps.own new.work → IsLeaveAnswer a
      by (out.Ready end.Ended) m = tt
      by out.Memory m = tt
      by a m = absurd m

  pub load_comes : (path : Path) → mid.work ≡ Starting (task.Load path) → IsLoadAnswer answer
  load_comes path busy = by answer (made_of (task.Load path) busy)
    where
      by : (a : StepOut) → Makes (after steps.others mid.history) mid.session (Starting (task.Load path)) a steps.own new.work → IsLoadAnswer a
      by (out.Went k) m = tt
      by (out.Ready (end.Node found)) m = tt
      by out.Memory m = tt
      by a m = absurd m

  pub list_comes : (path : Path) → mid.work ≡ Starting (task.List path) → IsListAnswer answer
  list_comes path busy = by answer (made_of (task.List path) busy)
    where
      by : (a : StepOut) → Makes (after steps.others mid.history) mid.session (Starting (task.List path)) a steps.own new.work → IsListAnswer a
      by (out.Went k) m = tt
      by (out.Ready (end.Children names)) m = tt
      by out.Memory m = tt
      by a m = absurd m

  pub draw_comes : (edit : Edit) (marks : List MarkAt) → mid.work ≡ Starting (task.Commit edit marks) → IsFirstAnswer answer
  draw_comes edit marks busy = by answer (made_of (task.Commit edit marks) busy)
    where
      by : (a : StepOut) → Makes (after steps.others mid.history) mid.session (Starting (task.Commit edit marks)) a steps.own new.work → IsFirstAnswer a
      by (out.Went k) m = tt
      by out.Memory m = tt
      by a m = absurd m

-- ---- of a commit that has drawn

-- a step that isn't refused memory
commit_by : (past : Past) (h : History) (s : ℕ) (w : Work) (a : StepOut) (own : Past) (now : Work) → IsCommitting past s w → Makes h s w a own now → (a ≡ out.Memory → ⊥) → IsCommitAnswer a
commit_by past h s w (out.Went k) own now c m never = tt
commit_by past h s w (out.Wait q) own now c m never = tt
commit_by past h s w (out.Ready (end.Commit e)) own now c m never = tt
commit_by past h s w out.Memory own now c m never = absurd (never refl)
commit_by past h s (Writing r) a own now c m never = absurd m
commit_by past h s (Undoing r e) a own now c m never = absurd m
commit_by past h s (Deciding r) a own now c m never = absurd m
commit_by past h s (Awaiting r) a own now c m never = absurd m
commit_by past h s w a own now c m never = absurd c

-- what is kept of its commit, of a session in it
pub commits_by : (f : Phase) → is_committing f ≡ true → (a : Pledge) × (f ≡ phase.Committing a)
commits_by phase.Outside h = absurd (false≢true h)
commits_by phase.Between h = absurd (false≢true h)
commits_by (phase.Moved v) h = absurd (false≢true h)
commits_by phase.Detaching h = absurd (false≢true h)
commits_by (phase.Committing a) h = (a, refl)
commits_by (phase.Committed e a) h = absurd (false≢true h)
commits_by (phase.Working e) h = absurd (false≢true h)
commits_by (phase.Told t) h = absurd (false≢true h)
commits_by phase.Tidying h = absurd (false≢true h)
commits_by (phase.Tidied t) h = absurd (false≢true h)
commits_by phase.Over h = absurd (false≢true h)

module _ (law : JcrLaw) (p : Shown) (run : SessionRun) (a : Pledge) (stands : Stands law p run) (commits : run.phase ≡ phase.Committing a) where
  committing_is : IsCommitting p.history.past p.session p.work
  committing_is = (subst (λ (f : Phase). StandsAt law p run f) commits stands.at).1.commits

  pub commit_comes : (new : Shown) (starts : Starts) (says : Says) (answer : StepOut) → Steps starts says p new answer → (answer ≡ out.Memory → ⊥) → IsCommitAnswer answer
  commit_comes new starts says answer steps never = commit_by p.history.past (after steps.others p.history) p.session p.work answer steps.own new.work committing_is steps.makes never

  -- a commit that was refused memory undoes, and undoing is refused none
  undoes_on : (past : Past) (h g : History) (s t : ℕ) (w mid now : Work) (first second : Past) → IsCommitting past s w → Makes h s w out.Memory first mid → Makes g t mid out.Memory second now → ⊥
  undoes_on past h g s t (Writing r) mid now first second c once twice = subst (λ (w : Work). Makes g t w out.Memory second now) once.1 twice
  undoes_on past h g s t (Undoing r e) mid now first second c once twice = once
  undoes_on past h g s t (Deciding r) mid now first second c once twice = once
  undoes_on past h g s t (Awaiting r) mid now first second c once twice = once
  undoes_on past h g s t w mid now first second c once twice = absurd c

  pub memory_once : (mid new : Shown) (starts later_starts : Starts) (says later_says : Says) → Steps starts says p mid out.Memory → Steps later_starts later_says mid new out.Memory → ⊥
  memory_once mid new starts later_starts says later_says once twice =
      undoes_on p.history.past (after once.others p.history) (after twice.others mid.history) p.session mid.session p.work mid.work new.work once.own twice.own committing_is once.makes twice.makes

-- ---- by what the session finds

pub pinned_is : (answer : StepOut) (pin : Pin) → pinned_by answer ≡ Some pin → answer ≡ out.Ready (end.Pinned pin)
pinned_is (out.Ready (end.Pinned p)) pin h = ap (λ (x : Pin). out.Ready (end.Pinned x)) (some_is h)
pinned_is a pin h = absurd (false≢true (ap is_some h))

pub ended_is : (answer : StepOut) → ended_by answer ≡ true → answer ≡ out.Ready end.Ended
ended_is (out.Ready end.Ended) h = refl
ended_is a h = absurd (false≢true h)

pub went_is : (answer : StepOut) → has_went answer ≡ true → (k : StepKind) × (answer ≡ out.Went k)
went_is (out.Went k) h = (k, refl)
went_is a h = absurd (false≢true h)

pub unpinned_is : (answer : StepOut) → IsPinAnswer answer → pinned_by answer ≡ None → answer ≡ out.Memory
unpinned_is (out.Ready (end.Pinned p)) is h = absurd (false≢true (ap is_some (sym h)))
unpinned_is out.Memory is h = refl
unpinned_is a is h = absurd is

pub undrawn_is : (answer : StepOut) → IsFirstAnswer answer → has_went answer ≡ false → answer ≡ out.Memory
undrawn_is (out.Went k) is h = absurd (false≢true (sym h))
undrawn_is out.Memory is h = refl
undrawn_is a is h = absurd is

-- an attach

abbrev attached_number : Attached → ℕ
attached_number (attached.To pin) = 0
attached_number attached.Missed = 1
attached_number attached.Refused = 2

other_attached : {A : Type 0} (x y : Attached) → nat_eq (attached_number x) (attached_number y) ≡ false → x ≡ y → A
other_attached x y other same = absurd (false≢true (sym other ∙ (ap (λ (d : Attached). nat_eq (attached_number d) (attached_number y)) same ∙ itself y)))
  where
    itself : (z : Attached) → nat_eq (attached_number z) (attached_number z) ≡ true
    itself (attached.To pin) = refl
    itself attached.Missed = refl
    itself attached.Refused = refl

pub attached_is : (answer : StepOut) (pin : Pin) → IsAttachAnswer answer → attached.To pin ≡ attached_by answer → answer ≡ out.Ready (end.Set (Some pin))
attached_is (out.Ready (end.Set (Some p))) pin is h = ap (λ (x : Attached). elim x [ attached.To q ↦ out.Ready (end.Set (Some q)) | attached.Missed ↦ out.Memory | attached.Refused ↦ out.Memory ]) (sym h)
attached_is (out.Ready end.NoCheckpoint) pin is h = other_attached (attached.To pin) attached.Missed refl h
attached_is out.Memory pin is h = other_attached (attached.To pin) attached.Refused refl h
attached_is a pin is h = absurd is

pub missed_is : (answer : StepOut) → IsAttachAnswer answer → attached.Missed ≡ attached_by answer → answer ≡ out.Ready end.NoCheckpoint
missed_is (out.Ready (end.Set (Some p))) is h = other_attached attached.Missed (attached.To p) refl h
missed_is (out.Ready end.NoCheckpoint) is h = refl
missed_is out.Memory is h = other_attached attached.Missed attached.Refused refl h
missed_is a is h = absurd is

pub unattached_is : (answer : StepOut) → IsAttachAnswer answer → attached.Refused ≡ attached_by answer → answer ≡ out.Memory
unattached_is (out.Ready (end.Set (Some p))) is h = other_attached attached.Refused (attached.To p) refl h
unattached_is (out.Ready end.NoCheckpoint) is h = other_attached attached.Refused attached.Missed refl h
unattached_is out.Memory is h = refl
unattached_is a is h = absurd is

-- a session in the middle of a detach
pub detaching_by : (f : Phase) → is_detaching f ≡ true → f ≡ phase.Detaching
detaching_by phase.Detaching h = refl
detaching_by phase.Outside h = absurd (false≢true h)
detaching_by phase.Between h = absurd (false≢true h)
detaching_by (phase.Moved v) h = absurd (false≢true h)
detaching_by (phase.Committing a) h = absurd (false≢true h)
detaching_by (phase.Committed e a) h = absurd (false≢true h)
detaching_by (phase.Working e) h = absurd (false≢true h)
detaching_by (phase.Told t) h = absurd (false≢true h)
detaching_by phase.Tidying h = absurd (false≢true h)
detaching_by (phase.Tidied t) h = absurd (false≢true h)
detaching_by phase.Over h = absurd (false≢true h)
