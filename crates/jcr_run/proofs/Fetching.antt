-- What is read next for a command may be read: the tree at the base, and for `events` what changed since the cursor.
use Rattle.std.proofs.Common.{◌≡◌, Bool, true, false, cond, ◌&&◌, Some, None, Option, is_some, refl, sym, ap, ◌∙◌, subst}
use Rattle.std.specs.Prelude.{IfSome, is_none, ℕ, option_map}
use mathlib.Core.Bool.{false≢true}
use Rattle.jr_rev.specs.declared.vector.RevVec.{RevVec}
use Rattle.jr_part.specs.declared.need.Need.{Need}
use Rattle.jr_part.specs.declared.need.Need.TheVariants as need
use Rattle.jcr_view.specs.Rounds.{is_of_one_node}
use Rattle.oak_machine.specs.Laws.{Asks}
use Rattle.oak_machine.specs.History.{History}
use Rattle.oak_machine.specs.Sessions.{cursor_at, is_attached}
use Rattle.oak_port.specs.Ports.{IsAskedOf, MayBegin, Shown, Starting, Work}
use Rattle.oak_port.specs.declared.task.Task.{Task}
use Rattle.core_calls.proofs.Unmoved.{attached_stands}
use Rattle.jcr_trans.specs.declared.command.Command.{Command}
use Rattle.jcr_trans.specs.declared.command.Command.TheVariants as command
use Rattle.jcr_law.specs.declared.law.JcrLaw.{JcrLaw}
use Rattle.jcr_law.specs.declared.state.Cursor.{Cursor}
use Rattle.jcr_law.specs.Lasting.{starts_of}
use Rattle.jcr_law.specs.State.{Call}
use Rattle.jcr_run.specs.declared.next.Due.{Due}
use Rattle.jcr_run.specs.declared.next.Due.TheVariants as due
use Rattle.jcr_run.specs.declared.run.Fetch.{Fetch}
use Rattle.jcr_run.specs.declared.run.Fetch.TheVariants as fetch
use Rattle.jcr_run.specs.declared.run.SessionRun.{SessionRun}
use Rattle.jcr_run.specs.Standing.{IsBetweenCommands, IsFetchFor, IsIn, IsOneFetch, IsReading, IsReadyFor, IsReadyNext, IsWantedBy, IsWantedNext, Stands, due_for}
use Rattle.jcr_run.specs.Standing.{is_events, lacks_changes, may_read}
use Rattle.jcr_run.proofs.Changing.{standing}
use Rattle.jcr_run.proofs.Lawful.{at_between}
use Rattle.jcr_run.proofs.Nexts.{reads_between, same_next}
use Rattle.jcr_run.proofs.Readying.{events_next, lacks_due}

-- ---- what is read next

-- what is read of the tree
pub none_tree : (o : Option Need) → option_map fetch.Tree o ≡ None → o ≡ None
none_tree None h = refl
none_tree (Some n) h = absurd (false≢true (sym (ap is_some h)))

pub one_tree : (o : Option Need) → IfSome o (λ n. is_of_one_node n ≡ true) → IfSome (option_map fetch.Tree o) IsOneFetch
one_tree None h = tt
one_tree (Some n) h = h

pub suits_tree : (old new : SessionRun) (o : Option Need) → new ≡ record old { held = new.held } → is_events (due_for old) ≡ false
    → IsFetchFor new (option_map fetch.Tree o)
suits_tree old new None same tree = tt
suits_tree old new (Some n) same tree = ap (λ (r : SessionRun). is_events (due_for r)) same ∙ tree

-- ---- what is read of the changes

pub changes_one : (o : Option Cursor) (lacks : Bool) → IfSome (cond lacks (option_map (λ (x : Cursor). fetch.Changes x.at) o) None) IsOneFetch
changes_one None true = tt
changes_one (Some x) true = tt
changes_one o false = tt

-- where nothing is to be read, nothing lacks
pub changes_ready : (run : SessionRun) → due_for run ≡ due.Events
    → cond (is_some run.held.cursor && is_none run.changes) (option_map (λ (x : Cursor). fetch.Changes x.at) run.held.cursor) None ≡ None → IsReadyNext run
changes_ready run is none m next = subst (λ (x : Command). IsReadyFor run x) (same_next run.commands run.index command.Events m (events_next run is).0 next)
    (by run.held.cursor (is_none run.changes) none)
  where
    by : (o : Option Cursor) (b : Bool) → cond (is_some o && b) (option_map (λ (x : Cursor). fetch.Changes x.at) o) None ≡ None → (is_some o && b) ≡ false
    by None b h = refl
    by (Some x) true h = absurd (false≢true (sym (ap is_some h)))
    by (Some x) false h = refl

pub changes_suit : (run : SessionRun) → due_for run ≡ due.Events
    → IsFetchFor run (cond (is_some run.held.cursor && is_none run.changes) (option_map (λ (x : Cursor). fetch.Changes x.at) run.held.cursor) None)
changes_suit run is = by run.held.cursor (is_none run.changes) refl refl
  where
    lacks : (o : Option Cursor) (b : Bool) → run.held.cursor ≡ o → is_none run.changes ≡ b → lacks_changes run ≡ (is_some o && b)
    lacks o b at changes = ap (λ (d : Due). is_events d && (is_some run.held.cursor && is_none run.changes)) is
        ∙ (ap (λ (x : Option Cursor). is_some x && is_none run.changes) at ∙ ap (λ (x : Bool). is_some o && x) changes)

    by : (o : Option Cursor) (b : Bool) → run.held.cursor ≡ o → is_none run.changes ≡ b
        → IsFetchFor run (cond (is_some o && b) (option_map (λ (x : Cursor). fetch.Changes x.at) o) None)
    by None b at changes = tt
    by (Some x) true at changes = (lacks (Some x) true at changes, ap (λ (y : Option Cursor). option_map (λ (z : Cursor). z.at) y) at)
    by (Some x) false at changes = tt

pub changes_wanted : (c : Call) (run : SessionRun)
    → IsWantedNext c (record run { fetch = cond (is_some run.held.cursor && is_none run.changes) (option_map (λ (x : Cursor). fetch.Changes x.at) run.held.cursor) None })
changes_wanted c run m next = by run.held.cursor (is_some run.held.cursor && is_none run.changes)
  where
    by : (o : Option Cursor) (b : Bool) → IfSome (cond b (option_map (λ (x : Cursor). fetch.Changes x.at) o) None) (IsWantedBy c run.held m)
    by None true = tt
    by (Some x) true = tt
    by o false = tt

-- ---- the task of a reading may begin

abbrev task_in : Work → Task → Task
task_in w other = elim w [ Starting t ↦ t | _ ↦ other ]

-- it appends nothing
pub fetch_asked : (asks : Asks) (h : History) (s : ℕ) (t : Task) (f : Fetch) → IsReading (Starting t) (Some f) → IsAskedOf asks h s t
fetch_asked asks h s t (fetch.Tree (need.Node p)) is = subst (λ (x : Task). IsAskedOf asks h s x) (sym (ap (λ (w : Work). task_in w t) is)) (λ e appends. absurd appends)
fetch_asked asks h s t (fetch.Tree (need.Children p)) is = subst (λ (x : Task). IsAskedOf asks h s x) (sym (ap (λ (w : Work). task_in w t) is)) (λ e appends. absurd appends)
fetch_asked asks h s t (fetch.Changes v) is = subst (λ (x : Task). IsAskedOf asks h s x) (sym (ap (λ (w : Work). task_in w t) is)) (λ e appends. absurd appends)
fetch_asked asks h s t f is = absurd is

module _ (law : JcrLaw) (p : Shown) (run : SessionRun) (stands : Stands law p run) (reads : may_read run ≡ true) where
  here : IsIn law p run.attached × IsBetweenCommands law p run
  here = at_between law p run stands (reads_between run reads)

  -- a session that shows the events isn't attached
  unattached : due_for run ≡ due.Events → is_attached p.history.past p.session ≡ false
  unattached is = attached_stands p.history.past p.session here.1.unmoved ∙ (here.0.began ∙ (events_next run is).1)

  -- its cursor is pinned where it stands
  pinned : (v : RevVec) → (x : Cursor) × (run.held.cursor ≡ Some x) × (x.at ≡ v) → cursor_at p.history.past p.session ≡ Some v
  pinned v (x, is, at) =
      subst (λ (o : Option Cursor). IfSome o (λ y. cursor_at p.history.past p.session ≡ Some y.at)) (sym here.1.holds.cursor ∙ is)
      (here.0.cursor here.1.call here.1.is here.1.unpinned)
      ∙ ap (λ (w : RevVec). Some w) at

  begins : (f : Fetch) (t : Task) → IsReading (Starting t) (Some f) → IsFetchFor run (Some f) → MayBegin (starts_of law) p.history p.session t
  begins (fetch.Tree (need.Node q)) t is suits = subst (λ (x : Task). MayBegin (starts_of law) p.history p.session x) (sym (ap (λ (w : Work). task_in w t) is))
      (here.0.login, here.0.stays)
  begins (fetch.Tree (need.Children q)) t is suits = subst (λ (x : Task). MayBegin (starts_of law) p.history p.session x) (sym (ap (λ (w : Work). task_in w t) is))
      (here.0.login, here.0.stays)
  begins (fetch.Changes v) t is suits = subst (λ (x : Task). MayBegin (starts_of law) p.history p.session x) (sym (ap (λ (w : Work). task_in w t) is))
      (here.0.login, here.0.stays, unattached (lacks_due run suits.0), pinned v (standing run.held.cursor v suits.1))
  begins f t is suits = absurd is

  pub fetch_begins : (t : Task) (f : Fetch) → IsReading (Starting t) (Some f) → IsFetchFor run (Some f) → MayBegin (starts_of law) p.history p.session t
  fetch_begins t f is suits = begins f t is suits
