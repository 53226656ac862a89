-- What the next command of a session asks for is ready: of the tree, or for `events` what changed.
use Rattle.std.proofs.Common.{◌≡◌, Bool, true, false, cond, ◌&&◌, Some, refl, sym, ap, ◌∙◌, subst}
use Rattle.std.specs.Prelude.{slice_get}
use mathlib.Core.Bool.{false≢true}
use Rattle.jcr_trans.specs.declared.command.Command.{Command}
use Rattle.jcr_trans.specs.declared.command.Command.TheVariants as command
use Rattle.jcr_held.specs.Holds.{IsReady}
use Rattle.jcr_run.specs.declared.next.Due.{Due}
use Rattle.jcr_run.specs.declared.next.Due.TheVariants as due
use Rattle.jcr_run.specs.declared.run.SessionRun.{SessionRun}
use Rattle.jcr_run.specs.Standing.{IsReadyFor, IsReadyNext, due_by, due_for, is_allowed, is_events, lacks_changes}
use Rattle.jcr_run.specs.Standing.{lacks_for, reads_for}
use Rattle.jcr_run.proofs.Nexts.{allowed_due, apart, due_at, next_due, unattached_runs}

-- ---- what is due is to show the events

pub events_due : (d : Due) → is_events d ≡ true → d ≡ due.Events
events_due due.Events h = refl
events_due due.Leave h = absurd (false≢true h)
events_due due.Bar h = absurd (false≢true h)
events_due due.ShowBase h = absurd (false≢true h)
events_due due.Refresh h = absurd (false≢true h)
events_due due.Query h = absurd (false≢true h)
events_due due.Commit h = absurd (false≢true h)
events_due due.Errand h = absurd (false≢true h)
events_due due.Attach h = absurd (false≢true h)
events_due due.Detach h = absurd (false≢true h)
events_due due.Observe h = absurd (false≢true h)
events_due due.See h = absurd (false≢true h)
events_due due.Split h = absurd (false≢true h)
events_due due.Collect h = absurd (false≢true h)

pub not_events : (d e : Due) → d ≡ e → (d ≡ due.Events → ⊥) → is_events e ≡ false
not_events d e same other = ap is_events (sym same) ∙ by d other
  where
    by : (d : Due) → (d ≡ due.Events → ⊥) → is_events d ≡ false
    by due.Events other = absurd (other refl)
    by d other = refl

pub only_events : (m : Command) → due_by m ≡ due.Events → m ≡ command.Events
only_events command.Events h = refl
only_events command.Head h = apart due.ShowBase due.Events refl h
only_events (command.Refresh keep) h = apart due.Refresh due.Events refl h
only_events (command.Query text vars) h = apart due.Query due.Events refl h
only_events command.Save h = apart due.Commit due.Events refl h
only_events (command.Lock p deep) h = apart due.Commit due.Events refl h
only_events (command.Unlock p) h = apart due.Commit due.Events refl h
only_events (command.Checkin p) h = apart due.Commit due.Events refl h
only_events (command.Checkout p) h = apart due.Commit due.Events refl h
only_events (command.Label p version label take) h = apart due.Commit due.Events refl h
only_events (command.Unlabel p label) h = apart due.Commit due.Events refl h
only_events (command.Restore p version) h = apart due.Commit due.Events refl h
only_events command.BackWrite h = apart due.Errand due.Events refl h
only_events command.BackRead h = apart due.Errand due.Events refl h
only_events command.Sweep h = apart due.Errand due.Events refl h
only_events command.Checkpoint h = apart due.Errand due.Events refl h
only_events (command.Release id) h = apart due.Errand due.Events refl h
only_events (command.Attach id) h = apart due.Attach due.Events refl h
only_events command.Detach h = apart due.Detach due.Events refl h
only_events (command.Observe p deep mask) h = apart due.Observe due.Events refl h
only_events (command.Split p) h = apart due.Split due.Events refl h
only_events command.Collect h = apart due.Collect due.Events refl h
only_events m h = apart due.See due.Events refl h

both : (a b : Bool) → (a && b) ≡ true → (a ≡ true) × (b ≡ true)
both true b h = (refl, h)
both false b h = absurd (false≢true h)

-- what changed lacks for `events` alone
pub lacks_due : (run : SessionRun) → lacks_changes run ≡ true → due_for run ≡ due.Events
lacks_due run lacks = events_due (due_for run) (both (is_events (due_for run)) _ lacks).0

-- the next command of a session that shows the events is `events`, and the session isn't attached
pub events_next : (run : SessionRun) → due_for run ≡ due.Events
    → (slice_get run.commands run.index ≡ Some command.Events) × (run.attached ≡ false)
events_next run is =
    let m = next_due run due.Events is refl in
    let a = allowed_due run.attached m.0 due.Events m.2 refl in
    let same : m.0 ≡ command.Events = only_events m.0 a.1 in (
      m.1 ∙ ap (λ (x : Command). Some x) same,
      unattached_runs run.attached command.Events refl (subst (λ (x : Command). is_allowed run.attached x ≡ true) same a.0),
    )

-- ---- a command that reads the tree

-- it isn't `events`
pub tree_next : {A : Type 0} (run : SessionRun) → slice_get run.commands run.index ≡ Some command.Events → reads_for (due_for run) ≡ true
    → is_events (due_for run) ≡ false → A
tree_next {A = A} run next reads tree =
    by (is_allowed run.attached command.Events) (ap reads_for (sym (due_at run command.Events next)) ∙ reads)
    (ap is_events (sym (due_at run command.Events next)) ∙ tree)
  where
    by : (b : Bool) → reads_for (cond b due.Events due.Bar) ≡ true → is_events (cond b due.Events due.Bar) ≡ false → A
    by true reads tree = absurd (false≢true (sym tree))
    by false reads tree = absurd (false≢true reads)

-- what it asks for is ready
pub ready_tree : (run : SessionRun) (m : Command) → slice_get run.commands run.index ≡ Some m → reads_for (due_for run) ≡ true
    → is_events (due_for run) ≡ false → IsReady run.held m → IsReadyFor run m
ready_tree run command.Events next reads tree ready = tree_next run next reads tree
ready_tree run m next reads tree ready = ready

pub ready_by : (run : SessionRun) (m : Command) → slice_get run.commands run.index ≡ Some m → reads_for (due_for run) ≡ true
    → is_events (due_for run) ≡ false → IsReadyNext run → IsReady run.held m
ready_by run m next reads tree all = by m next (all m next)
  where
    by : (m : Command) → slice_get run.commands run.index ≡ Some m → IsReadyFor run m → IsReady run.held m
    by command.Events next ready = tree_next run next reads tree
    by m next ready = ready

-- once that is ready, what changed doesn't lack
pub ready_lacks : (run : SessionRun) → due_for run ≡ due.Events → IsReadyNext run → lacks_changes run ≡ false
ready_lacks run is ready = ap (λ (d : Due). lacks_for run d) is ∙ ready command.Events (events_next run is).0
