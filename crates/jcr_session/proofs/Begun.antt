-- A session begins a task of the cluster node, of the settings or of its cursor.
use Rattle.std.proofs.Common.{◌≡◌, ◌⊎◌, inl, inr, ℕ, ◌<◌, ◌≤◌, Bool, true, false, None, Some, Option, [], Result, Ok, Err, IfOk, is_some, length, refl}
use Rattle.std.proofs.Common.{sym, ap, ◌∙◌, subst, arith}
use Rattle.std.specs.Prelude.{◌&&◌, ⊤, IfSome, List, cond, is_none, option_map, slice_get, string_bytes}
use mathlib.Core.Bool.{false≢true}
use Rattle.std.specs.Option.{option_map_or}
use Rattle.std.specs.declared.alloc.AllocError.{AllocError}
use Rattle.std.specs.declared.alloc.Global.{Global}
use Rattle.std.specs.declared.string.String.{String}
use Rattle.jr_path.specs.Lists.{Text}
use Rattle.jr_rev.specs.declared.revision.Revision.{Revision}
use Rattle.jr_tree.specs.declared.shared.CommitChanges.{CommitChanges}
use Rattle.jr_tree.specs.declared.shared.Refusal.{Refusal}
use Rattle.jr_tree.specs.declared.shared.Who.{Who}
use Rattle.oak_machine.specs.declared.event.Event.{Event}
use Rattle.oak_machine.specs.declared.event.Event.TheVariants as event
use Rattle.oak_machine.specs.declared.event.StepKind.TheVariants as kind
use Rattle.oak_machine.specs.Commits.{is_committed}
use Rattle.oak_machine.specs.History.{History}
use Rattle.oak_machine.specs.Sessions.{cursor_at, is_attached, next_index}
use Rattle.oak_port.specs.Ports.{Appends, HasRoom, Idle, IsAskedOf, MayBegin, OthersAlone, Shown, Starting, Work}
use Rattle.oak_port.specs.declared.task.Task.{Task}
use Rattle.oak_port.specs.declared.task.Task.TheVariants as task
use Rattle.jcr_observe.specs.declared.event.Filter.{Filter}
use Rattle.jcr_observe.specs.declared.event.JcrEvent.{JcrEvent}
use Rattle.jcr_observe.specs.Observed.{observed_events}
use Rattle.jcr_trans.specs.Answers.{Done}
use Rattle.jcr_trans.specs.Texts.{answer_text}
use Rattle.jcr_trans.specs.declared.command.Command.{Command}
use Rattle.jcr_trans.specs.declared.command.Command.TheVariants as command
use Rattle.jcr_law.specs.declared.law.JcrLaw.{JcrLaw}
use Rattle.jcr_law.specs.declared.state.Cursor.{Cursor}
use Rattle.jcr_law.specs.Built.{Allowed, is_forbidden}
use Rattle.jcr_law.specs.Calls.{call_after}
use Rattle.jcr_law.specs.Queries.{events_reply, events_since}
use Rattle.jcr_law.specs.Lasting.{says_of, starts_of}
use Rattle.jcr_law.specs.Law.{MaySay, SaysBy, no_text, uncounted, uncursored, unobserved}
use Rattle.jcr_law.specs.Makes.{IsAskedAt}
use Rattle.jcr_law.specs.State.{Call, command_at, is_ok_text}
use Rattle.jcr_view.specs.Outcomes.{is_viewed}
use Rattle.jcr_held.specs.Accepts.{AcceptsAs, IsFilterOf}
use Rattle.jcr_held.specs.Holds.{Holds}
use Rattle.jcr_held.specs.declared.held.Held.{Held}
use Rattle.jcr_steps.specs.declared.errand.Errand.{Errand}
use Rattle.jcr_steps.specs.declared.errand.Errand.TheVariants as errand
use Rattle.jcr_session.specs.declared.errand.Start.{Start}
use Rattle.jcr_session.specs.declared.errand.Start.TheVariants as start
use Rattle.jcr_steps.specs.declared.errand.Told.{Told}
use Rattle.jcr_steps.specs.declared.errand.Told.TheVariants as ended
use Rattle.jcr_steps.specs.declared.limits.TheConstants.{COMMIT_REPLY_BYTES, VECTOR_REPLY_BYTES}
use Rattle.jcr_run.specs.declared.next.Due.{Due}
use Rattle.jcr_run.specs.declared.next.Due.TheVariants as due
use Rattle.jcr_run.specs.declared.run.Phase.{Phase}
use Rattle.jcr_run.specs.declared.run.Phase.TheVariants as phase
use Rattle.jcr_run.specs.declared.run.SessionRun.{SessionRun}
use Rattle.jcr_run.specs.declared.turn.Turn.{Turn}
use Rattle.jcr_run.specs.Asked.{IsAsked, IsUnviewedNext, MayAnswer, MayForgo, MaySettle, history_told}
use Rattle.jcr_session.specs.Begins.{IsSaidAtOnce, IsTaskFor, MayObserve, MaySetOut}
use Rattle.jcr_run.specs.Asked.{ObservesNext, SettlesBy}
use Rattle.jcr_session.specs.Begins.{MayAnswerTold, StartsNext, StartsWith}
use Rattle.jcr_run.specs.Standing.{AreSince, HasCounted, HasCursor, IsBeside, IsBetweenCommands, IsIn, IsErrandTold, IsToldFor, IsWorkFor, Stands}
use Rattle.jcr_steps.specs.Kept.{HasPlace, IsEight}
use Rattle.jcr_run.specs.Standing.{due_by, due_for, is_errand, is_told_for, is_revision_written, stage_at}
use Rattle.jcr_steps.specs.Kept.{kept_for, kept_of, reply_of}
use Rattle.jcr_run.specs.Standing.{stage_of}
use Rattle.jcr_run.proofs.Lawful.{asks_of}
use Rattle.jcr_run.proofs.Cursors.{accepts_by}
use Rattle.jcr_run.proofs.Lawful.{at_between, attached_still, between_asked, idle_by, refusal_settles, refused_text, says_allowed, says_idle}
use Rattle.jcr_run.proofs.Telling.{rest_idle}
use Rattle.jcr_run.proofs.Nexts.{IsErrand, allowed_due, due_at, errand_checkpoint, errand_events, errand_observe, errand_read}
use Rattle.jcr_run.proofs.Nexts.{errand_release, errand_some, errand_sweep, errand_there, errand_viewed, errand_write, only_attach}
use Rattle.jcr_run.proofs.Nexts.{only_errand, same_next, unattached_runs}
use Rattle.jcr_run.proofs.Since.{kept_beside}
use Rattle.jcr_run.proofs.Saying.{asked_like, asked_waits, drawn_waits, get_within, room_less, turned_like}
use Rattle.jcr_run.proofs.Turning.{has_turned_later, is_awaiting, never_ends, started}
use Rattle.jcr_run.proofs.Waiting.{by_waits, called_beside, fresh_beside, in_beside, next_beside, unmoved_beside}
use Rattle.jcr_run.proofs.Waiting.{unpinned_beside}

-- ---- the command

-- what `events` leaves of what is held
events_accept : (c : Call) (x : Held) → Holds c x → AcceptsAs x None c command.Events
events_accept c x holds = record {
  tokens_are = holds.tokens;
  cursor_is = ap (λ (o : Option Cursor). option_map {T = Cursor} (λ y. record y { at = x.who.base }) o) holds.cursor
      ∙ ap (λ (w : Who). option_map {T = Cursor} (λ y. record y { at = w.base }) c.state.cursor) holds.who;
}

-- how a task has ended fits what is held: of an observing by its filter
abbrev AcceptsTold : Held → Call → Command → Told → Type 0
AcceptsTold x c m (ended.Observed filter) = IsFilterOf m filter
AcceptsTold x c m t = is_ok_text (reply_of t) ≡ true → AcceptsAs x None c m

-- so of such a task
told_accepts : (c : Call) (x : Held) (m : Command) (t : Told) → IsErrand m → Holds c x → IsToldFor m t → AcceptsTold x c m t
told_accepts c x _ (ended.Observed f) (errand_observe p deep mask) holds by = by
told_accepts c x _ t (errand_observe p deep mask) holds by = absurd by
told_accepts c x _ (ended.Observed f) errand_write holds by = absurd by
told_accepts c x _ t errand_write holds by = λ ok. accepts_by c x command.BackWrite None refl holds holds.tokens
told_accepts c x _ (ended.Observed f) errand_read holds by = absurd by
told_accepts c x _ t errand_read holds by = λ ok. accepts_by c x command.BackRead None refl holds holds.tokens
told_accepts c x _ (ended.Observed f) errand_sweep holds by = absurd by
told_accepts c x _ t errand_sweep holds by = λ ok. accepts_by c x command.Sweep None refl holds holds.tokens
told_accepts c x _ (ended.Observed f) errand_checkpoint holds by = absurd by
told_accepts c x _ t errand_checkpoint holds by = λ ok. accepts_by c x command.Checkpoint None refl holds holds.tokens
told_accepts c x _ (ended.Observed f) (errand_release id) holds by = absurd by
told_accepts c x _ t (errand_release id) holds by = λ ok. accepts_by c x (command.Release id) None refl holds holds.tokens
told_accepts c x _ (ended.Observed f) errand_events holds by = absurd by
told_accepts c x _ t errand_events holds by = λ ok. events_accept c x holds

-- the next command of a session before such a task
module _ (run : SessionRun) (next : is_errand (due_for run) ≡ true) where
  pub errand_next : (m : Command) × (slice_get run.commands run.index ≡ Some m)
  errand_next = errand_some run next

  pub errand_is : (m : Command) → slice_get run.commands run.index ≡ Some m → IsErrand m
  errand_is m there = only_errand m (errand_there run m next there).1

  pub errand_unviewed : IsUnviewedNext run
  errand_unviewed = (errand_next.0, errand_next.1, errand_viewed errand_next.0 (errand_is errand_next.0 errand_next.1))

-- what the task of a command begins with, for the next one
pub starts_by : (run : SessionRun) (x : Command) (made : Result Start AllocError) → slice_get run.commands run.index ≡ Some x →
    ((h : History) (c : Call) → Holds c run.held → AreSince h c run.changes → IfOk made (StartsWith h c x)) → IfOk made (StartsNext run)
starts_by run x (Ok begins) next starts = λ h m c there holds since. subst (λ (y : Command). StartsWith h c y begins)
    (same_next run.commands run.index x m next there) (starts h c holds since)
starts_by run x (Err e) next starts = tt

-- ---- a command for which none begins

module _ (law : JcrLaw) (p : Shown) (run : SessionRun) (stands : Stands law p run) (between : run.phase ≡ phase.Between)
    (next : is_errand (due_for run) ≡ true) (unread : run.fetch ≡ None) where
  abbrev m : (m : Command) × (slice_get run.commands run.index ≡ Some m)
  m = errand_next run next

  abbrev here : IsIn law p run.attached × IsBetweenCommands law p run
  here = at_between law p run stands between

  asked_now : IsAsked law p run m.0 here.1.call
  asked_now = between_asked law p run stands between m.0 m.1 unread

  -- what may be said to it
  says_now : (x : Command) (text : Text) → m.0 ≡ x → MaySay law p.history p.session (Allowed x) text → SaysBy law p.history p.session run.index text
  says_now x text is may = says_allowed law p run m.0 here.1.call asked_now text (errand_there run m.0 next m.1).0
      (subst (λ (y : Command). MaySay law p.history p.session (Allowed y) text) (sym is) may)

  -- a refusal
  refuses : (x : Command) (r : Refusal) (text : Text) → m.0 ≡ x → text ≡ no_text r → MaySay law p.history p.session (Allowed x) (no_text r) → MaySettle law p run text
  refuses x r text is told may = subst (λ (t : Text). MaySettle law p run t) (sym told)
      (refusal_settles law p run stands between m.0 m.1 unread (no_text r) (says_now x (no_text r) is may)
      (errand_viewed m.0 (errand_is run next m.0 m.1)) (refused_text r))

  -- no events, without a cursor
  no_cursor : (b : Bool) → here.1.call.state.cursor ≡ None → HasCursor p.history.past p.session (call_after b false here.1.call command.Events)
  no_cursor true none = subst (λ (o : Option Cursor). IfSome (option_map {T = Cursor} (λ y. record y { at = here.1.call.who.base }) o)
      (λ x. cursor_at p.history.past p.session ≡ Some x.at)) (sym none) tt
  no_cursor false none = subst (λ (o : Option Cursor). IfSome o (λ x. cursor_at p.history.past p.session ≡ Some x.at)) (sym none) tt

  shows_none : (text : Text) → m.0 ≡ command.Events → here.1.call.state.cursor ≡ None → text ≡ events_reply [] → MaySettle law p run text
  shows_none text is none told = record {
    command = m.0;
    call = here.1.call;
    asked = asked_now;
    says = subst (λ (t : Text). SaysBy law (history_told p) p.session run.index t) (sym told)
        (says_idle law p run m.0 here.1.call asked_now (idle_by law p run stands between unread) (events_reply [])
        (says_now command.Events (events_reply []) is (uncursored here.1.call here.1.is none here.1.unmoved)));
    first = ap is_some here.1.fresh.first;
    unmoved = here.1.unmoved;
    cursor = subst (λ (x : Command). HasCursor p.history.past p.session (call_after (is_ok_text text) false here.1.call x)) (sym is)
        (no_cursor (is_ok_text text) none);
    unviewed = errand_viewed m.0 (errand_is run next m.0 m.1);
    accepts = λ ok. subst (λ (x : Command). AcceptsAs run.held None here.1.call x) (sym is) (events_accept here.1.call run.held here.1.holds);
    holds = here.1.holds;
  }

  at_once : (x : Command) (text : Text) → IsErrand x → m.0 ≡ x → IsSaidAtOnce here.1.call x text → MaySettle law p run text
  at_once _ text errand_checkpoint is (r, cause, told) = refuses command.Checkpoint r text is told (uncounted here.1.call r here.1.is cause here.1.unmoved)
  at_once _ text (errand_observe q deep mask) is (r, cause, told) =
      refuses (command.Observe q deep mask) r text is told (unobserved q deep mask r cause here.1.unmoved)
  at_once _ text errand_events is (none, told) = shows_none text is none told
  at_once _ text errand_write is said = absurd said
  at_once _ text errand_read is said = absurd said
  at_once _ text errand_sweep is said = absurd said
  at_once _ text (errand_release id) is said = absurd said

  pub said_settles : (text : String Global) → StartsNext run (start.Said text) → MaySettle law p run (string_bytes text)
  said_settles text starts = at_once m.0 (string_bytes text) (errand_is run next m.0 m.1) refl
      (starts p.history m.0 here.1.call m.1 here.1.holds here.1.changes)

  -- once its place is kept
  pub sets_out : (mid : Shown) (t : Task) (e : Errand) → StartsNext run (start.Begun t e) → IsBeside law p mid → mid.work ≡ Idle → HasPlace
      mid.room (kept_for e) → MaySetOut law mid run t e
  sets_out mid t e starts beside idle place =
      let asked = asked_now in
      let s = starts p.history m.0 here.1.call m.1 here.1.holds here.1.changes in record {
        command = m.0;
        call = here.1.call;
        asked = asked_waits law m.0 here.1.call p mid run asked beside (rest_idle mid.session mid.work idle);
        idle = idle;
        between = between;
        first = drawn_waits law m.0 here.1.call p mid run asked beside ∙ here.1.fresh.first;
        unmoved = unmoved_beside law p mid beside here.0.nodes here.1.unmoved;
        unpinned = unpinned_beside law p mid beside here.0.nodes here.1.unpinned;
        errands = next;
        holds = here.1.holds;
        task_is = s.0;
        kept = kept_beside law p mid beside here.0.nodes here.1.call here.1.is m.0 e s.1;
        place = place;
      }

-- ---- its begin

begins_by : {attached : Bool} (law : JcrLaw) (p : Shown) (c : Call) (t : Task) (m : Command) → IsErrand m → IsTaskFor c m t → IsIn law p attached
    → (is_forbidden true m ≡ true → is_attached p.history.past p.session ≡ false) → MayBegin (starts_of law) p.history p.session t
begins_by law p c t _ errand_write is inside free = subst (λ (x : Task). MayBegin (starts_of law) p.history p.session x) (sym is)
    (inside.login, inside.stays)
begins_by law p c t _ errand_read is inside free = subst (λ (x : Task). MayBegin (starts_of law) p.history p.session x) (sym is)
    (inside.login, inside.stays)
begins_by law p c t _ errand_sweep is inside free = subst (λ (x : Task). MayBegin (starts_of law) p.history p.session x) (sym is)
    (inside.login, inside.stays)
begins_by law p c t _ errand_checkpoint is inside free = subst (λ (x : Task). MayBegin (starts_of law) p.history p.session x) (sym is.0)
    (inside.login, inside.stays, free refl)
begins_by law p c t _ (errand_release id) is inside free = subst (λ (x : Task). MayBegin (starts_of law) p.history p.session x) (sym is)
    (inside.login, inside.stays)
begins_by law p c t _ (errand_observe q deep mask) is inside free = subst (λ (x : Task). MayBegin (starts_of law) p.history p.session x) (sym is.0)
    (inside.login, inside.stays, free refl)
begins_by law p c t _ errand_events is inside free = subst (λ (x : Task). MayBegin (starts_of law) p.history p.session x) (sym is)
    (inside.login, inside.stays, free refl)

asked_by_task : (law : JcrLaw) (s i : ℕ) (c : Call) (t : Task) (m : Command) → IsErrand m → IsTaskFor c m t → command_at law s i ≡ Some m →
    (e : Event) → Appends t e → IsAskedAt law s i e
asked_by_task law s i c t _ errand_write is at e appends = by e (subst (λ (x : Task). Appends x e) is appends)
  where
    by : (e : Event) → Appends task.BackWrite e → IsAskedAt law s i e
    by (event.Went x kind.Back) h = (command.BackWrite, at, refl, tt)
    by (event.Out k r) h = (command.BackWrite, at, refl, tt)
    by x h = absurd h
asked_by_task law s i c t _ errand_read is at e appends = by e (subst (λ (x : Task). Appends x e) is appends)
  where
    by : (e : Event) → Appends task.BackRead e → IsAskedAt law s i e
    by (event.Went x kind.Back) h = (command.BackRead, at, refl, tt)
    by (event.In k v) h = (command.BackRead, at, refl, tt)
    by x h = absurd h
asked_by_task law s i c t _ errand_sweep is at e appends = by e (subst (λ (x : Task). Appends x e) is appends)
  where
    by : (e : Event) → Appends task.Sweep e → IsAskedAt law s i e
    by (event.Went x kind.Sweep) h = (command.Sweep, at, refl, tt)
    by (event.Sweep k r) h = (command.Sweep, at, refl, tt)
    by (event.Went x kind.Learn) h = (command.Sweep, at, refl, tt)
    by x h = absurd h
asked_by_task law s i c t _ errand_checkpoint is at e appends = by e (subst (λ (x : Task). Appends x e) is.0 appends)
  where
    by : (e : Event) → Appends (task.Checkpoint (Rattle.jcr_law.specs.State.next_id c.who)) e → IsAskedAt law s i e
    by (event.Checkpoint id v) h = (command.Checkpoint, at, refl, tt)
    by x h = absurd h
asked_by_task law s i c t _ (errand_release id) is at e appends = by e (subst (λ (x : Task). Appends x e) is appends)
  where
    by : (e : Event) → Appends (task.Release id) e → IsAskedAt law s i e
    by (event.Release other) h = (command.Release id, at, refl, h)
    by (event.Went x kind.Settings) h = (command.Release id, at, refl, tt)
    by x h = absurd h
asked_by_task law s i c t _ (errand_observe q deep mask) is at e appends = by e (subst (λ (x : Task). Appends x e) is.0 appends)
  where
    by : (e : Event) → Appends task.Observe e → IsAskedAt law s i e
    by (event.Went x kind.Pin) h = (command.Observe q deep mask, at, refl, tt)
    by x h = absurd h
asked_by_task law s i c t _ errand_events is at e appends = by e (subst (λ (x : Task). Appends x e) is appends)
  where
    by : (e : Event) → Appends task.Observe e → IsAskedAt law s i e
    by (event.Went x kind.Pin) h = (command.Events, at, refl, tt)
    by x h = absurd h

works_by : (h : History) (s : ℕ) (c : Call) (t : Task) (m : Command) → IsErrand m → IsTaskFor c m t → IsWorkFor h s c m (Starting t)
works_by h s c t _ errand_write is = subst (λ (x : Task). IsWorkFor h s c command.BackWrite (Starting x)) (sym is) tt
works_by h s c t _ errand_read is = subst (λ (x : Task). IsWorkFor h s c command.BackRead (Starting x)) (sym is) tt
works_by h s c t _ errand_sweep is = subst (λ (x : Task). IsWorkFor h s c command.Sweep (Starting x)) (sym is) tt
works_by h s c t _ errand_checkpoint is = subst (λ (x : Task). IsWorkFor h s c command.Checkpoint (Starting x)) (sym is.0) (refl, is.1)
works_by h s c t _ (errand_release id) is = subst (λ (x : Task). IsWorkFor h s c (command.Release id) (Starting x)) (sym is) refl
works_by h s c t _ (errand_observe q deep mask) is = subst (λ (x : Task). IsWorkFor h s c (command.Observe q deep mask) (Starting x)) (sym is.0) is.1
works_by h s c t _ errand_events is = subst (λ (x : Task). IsWorkFor h s c command.Events (Starting x)) (sym is) tt

module _ (law : JcrLaw) (old : Shown) (run : SessionRun) (t : Task) (e : Errand) (may : MaySetOut law old run t e) where
  abbrev kind_is : IsErrand may.command
  kind_is = errand_is run may.errands may.command may.asked.next

  next_old : command_at law old.session (next_index old.history.past old.session) ≡ Some may.command
  next_old =
      ap (command_at law old.session) (ap (next_index old.history.past) may.asked.session ∙ sym may.asked.index)
      ∙ (ap (λ (s : ℕ). command_at law s run.index) may.asked.session ∙ (may.asked.commands run.index ∙ may.asked.next))

  pub errand_begins : MayBegin (starts_of law) old.history old.session t
  errand_begins = begins_by law old may.call t may.command kind_is may.task_is may.asked.inside
      (λ forbidden. attached_still law old run may.command may.call may.asked may.unmoved
      ∙ unattached_runs run.attached may.command forbidden (errand_there run may.command may.errands may.asked.next).0)

  pub errand_asked : IsAskedOf (asks_of law) old.history old.session t
  errand_asked x appends = asked_by_task law old.session (next_index old.history.past old.session) may.call t may.command kind_is
      may.task_is next_old x appends

  pub errand_forgoes : MayForgo law old run false
  errand_forgoes = record {
    command = may.command;
    call = may.call;
    asked = may.asked;
    unmoved = may.unmoved;
    unpinned = may.unpinned;
    drew_is = ap is_some may.first;
    uncommitted = ap (λ (o : Option Revision). option_map_or (is_committed old.history.past) o false) may.first;
    holds = may.holds;
  }

  -- there is a place for want of memory
  pub errand_room : (room : Option ℕ) → room ≡ old.room → HasRoom room COMMIT_REPLY_BYTES
  errand_room room same = subst (λ (x : Option ℕ). HasRoom x COMMIT_REPLY_BYTES) (sym same)
      (room_less old.room VECTOR_REPLY_BYTES COMMIT_REPLY_BYTES (let le : 40 ≤ 292 = omega arith in le) may.place.told)

  module _ (mid : Shown) (begins : OthersAlone (starts_of law) (says_of law) old mid (Starting t) old.room) where
    beside : IsBeside law old mid
    beside = by_waits law old mid (Starting t) old.room begins

    inside_mid : IsIn law mid run.attached
    inside_mid = in_beside law old mid beside may.asked.inside.nodes may.asked.inside

    abbrev working : SessionRun
    working = record run { phase = phase.Working e }

    -- once it is begun, the session is at work
    pub begun_stands : Stands law mid (record run { phase = phase.Working e })
    begun_stands = record {
      nodes = inside_mid.nodes;
      trees = inside_mid.trees;
      typed = inside_mid.typed;
      run_is = inside_mid.run;
      session = begins.session ∙ may.asked.session;
      few = may.asked.few;
      commands = may.asked.commands;
      index = may.asked.index ∙
          (ap (next_index old.history.past) (sym may.asked.session) ∙
          (sym (next_beside law old mid beside) ∙ ap (next_index mid.history.past) (begins.session ∙ may.asked.session)));
      within = let w : run.index < length run.commands = get_within run.commands run.index may.command may.asked.next in omega arith;
      at = (
        inside_mid,
        record {
          command = may.command;
          call = may.call;
          for = record {
            unread = may.asked.unread;
            next = may.asked.next;
            is = called_beside law old mid beside may.asked.inside.nodes may.call may.asked.call;
            holds = may.holds;
            fresh = fresh_beside law old mid beside may.asked.inside.nodes (record { first = may.first; idle = may.asked.still });
          };
          errands = may.errands;
          unmoved = unmoved_beside law old mid beside may.asked.inside.nodes may.unmoved;
          unpinned = unpinned_beside law old mid beside may.asked.inside.nodes may.unpinned;
          works = subst (λ (w : Work). IsWorkFor mid.history mid.session may.call may.command w) (sym begins.work_is)
              (works_by mid.history mid.session may.call t may.command kind_is may.task_is);
          kept = kept_beside law old mid beside may.asked.inside.nodes may.call may.asked.call may.command e may.kept;
          place = subst (λ (x : Option ℕ). HasPlace x (kept_for e)) (sym begins.room_is) may.place;
        },
      );
    }

    none_behind : stage_at run.phase old.work ≤ stage_at (phase.Working e) old.work
    none_behind = subst (λ (f : Phase). stage_at f old.work ≤ stage_of old.work) (sym may.between)
        (let le : stage_of old.work ≤ stage_of old.work = omega arith in le)

    pub begun_turns : (later : JcrLaw) → later ≡ law → (new : Shown) (now : SessionRun) (x : Turn) → HasCounted later mid new
        (record run { phase = phase.Working e }) now x → HasCounted law old new run now x
    begun_turns later same new now x turned =
        turned_like law old new run working now x refl refl refl (λ k is. none_behind)
        (has_turned_later law old mid new working now x may.asked.inside.nodes
        (started old mid (ap is_revision_written begins.work_is) (ap is_awaiting begins.work_is) may.idle) beside
        (never_ends law mid new working now inside_mid) (subst (λ (l : JcrLaw). HasCounted l mid new working now x) same turned))

-- ---- the reply

-- it is an attach, or such a task
told_or : (d : Due) → is_told_for d ≡ true → (d ≡ due.Attach) ⊎ (is_errand d ≡ true)
told_or due.Attach h = inl refl
told_or d h = inr h

-- what the command of an end that is told leaves
abbrev Tells : Command → Type 0
Tells m = (is_viewed m ≡ false) × ((c : Call) (x : Held) (t : Told) → Holds c x → IsToldFor m t → AcceptsTold x c m t)

attach_tells : (id : Text) → Tells (command.Attach id)
attach_tells id = (refl, by)
  where
    by : (c : Call) (x : Held) (t : Told) → Holds c x → IsToldFor (command.Attach id) t → AcceptsTold x c (command.Attach id) t
    by c x (ended.Observed f) holds told = absurd told
    by c x t holds told = λ ok. accepts_by c x (command.Attach id) None refl holds holds.tokens

told_by_due : (run : SessionRun) (m : Command) → slice_get run.commands run.index ≡ Some m → is_told_for (due_for run) ≡ true → Tells m
told_by_due run m next tells = by (told_or (due_for run) tells)
  where
    by : (due_for run ≡ due.Attach) ⊎ (is_errand (due_for run) ≡ true) → Tells m
    by (inl attaches) =
        let k = only_attach m (allowed_due run.attached m due.Attach (sym (due_at run m next) ∙ attaches) refl).1 in
        subst (λ (x : Command). Tells x) (sym k.1) (attach_tells k.0)
    by (inr errands) =
        let kind = errand_is run errands m next in
        (errand_viewed m kind, λ c x t holds told. told_accepts c x m t kind holds told)

module _ (law : JcrLaw) (p : Shown) (run : SessionRun) (t : Told) (stands : Stands law p (record run { phase = phase.Told t })) where
  abbrev told_here : IsIn law p run.attached × IsErrandTold law p (record run { phase = phase.Told t }) t
  told_here = stands.at

  told_asked : IsAsked law p run told_here.1.command told_here.1.call
  told_asked = record {
    inside = told_here.0;
    session = stands.session;
    few = stands.few;
    commands = stands.commands;
    index = stands.index;
    rests = rest_idle p.session p.work told_here.1.idle;
    unread = told_here.1.for.unread;
    still = told_here.1.for.fresh.idle;
    next = told_here.1.for.next;
    call = told_here.1.for.is;
  }

  told_fits : Tells told_here.1.command
  told_fits = told_by_due run told_here.1.command told_here.1.for.next told_here.1.tells

  pub told_place : HasPlace p.room (kept_of t)
  told_place = told_here.1.place

  pub told_eight : IsEight t
  told_eight = told_here.1.eight

pub told_tells : (law : JcrLaw) (p : Shown) (run : SessionRun) (t : Told) → Stands law p (record run { phase = phase.Told t }) → MayAnswerTold law p run t
told_tells law p run (ended.Observed filter) stands =
    let is = (told_here law p run (ended.Observed filter) stands).1 in record {
      command = is.command;
      call = is.call;
      asked = told_asked law p run (ended.Observed filter) stands;
      says = says_idle law p run is.command is.call (told_asked law p run (ended.Observed filter) stands) is.idle (answer_text Done) is.says;
      first = ap is_some is.for.fresh.first;
      unmoved = is.unmoved;
      cursor = is.cursor;
      filter_is = (told_fits law p run (ended.Observed filter) stands).1 is.call run.held (ended.Observed filter) is.for.holds is.by;
      holds = is.for.holds;
    }
told_tells law p run t stands =
    let is = (told_here law p run t stands).1 in record {
      command = is.command;
      call = is.call;
      asked = told_asked law p run t stands;
      says = says_idle law p run is.command is.call (told_asked law p run t stands) is.idle (reply_of t) is.says;
      first = ap is_some is.for.fresh.first;
      unmoved = is.unmoved;
      cursor = is.cursor;
      unviewed = (told_fits law p run t stands).0;
      accepts = (told_fits law p run t stands).1 is.call run.held t is.for.holds is.by;
      holds = is.for.holds;
    }

-- ---- an observing is accepted

-- the next command observes
pub observes_next : (law : JcrLaw) (p : Shown) (run : SessionRun) (filter : Filter) → MayObserve law p run filter → ObservesNext run filter
observes_next law p run filter may = (may.command, may.asked.next, may.filter_is)

pub observed_answers : (law : JcrLaw) (p : Shown) (run now : SessionRun) (filter : Filter) → MayObserve law p run filter
    → SettlesBy (λ c m. ⊤) run now true false → MayAnswer law p now (answer_text Done)
observed_answers law p run now filter may settles = record {
  began = run.attached;
  command = may.command;
  call = may.call;
  asked = asked_like law may.command may.call p run (record now { attached = run.attached }) (ap (λ (r : SessionRun). r.session) settles.same)
      (ap (λ (r : SessionRun). r.commands) settles.same) (ap (λ (r : SessionRun). r.index) settles.same)
      (ap (λ (r : SessionRun). r.fetch) settles.same) refl may.asked;
  says = subst (λ (i : ℕ). SaysBy law (history_told p) p.session i (answer_text Done)) (sym (ap (λ (r : SessionRun). r.index) settles.same)) may.says;
  leaves = subst (λ (b : Bool). Holds (call_after true b may.call may.command) now.held) (sym may.first)
      (settles.holds may.command may.call may.asked.next may.holds tt);
  stands = attached_still law p run may.command may.call may.asked may.unmoved ∙ sym (ap (λ (r : SessionRun). r.attached) settles.same);
  cursor = subst (λ (b : Bool). HasCursor p.history.past p.session (call_after true b may.call may.command)) (sym may.first) may.cursor;
}

-- ---- what is kept for the reply of `events`

-- the due of such a command is that of the next one
pub errand_due : (run : SessionRun) (x : Command) → is_errand (due_for run) ≡ true → slice_get run.commands run.index ≡ Some x → due_for run ≡ due_by x
errand_due run x is next = due_at run x next ∙ ap (λ (b : Bool). cond b (due_by x) due.Bar) (errand_there run x is next).0

-- what changed in these commits is all since the cursor
shown_since : (h : History) (c : Call) (x : Held) (commits : List CommitChanges) → Holds c x → AreSince h c (Some commits)
    → option_map_or (λ (y : Cursor). observed_events y.filter commits) x.cursor [] ≡ events_since h.begin h.past c.who.base c.state.cursor
shown_since h c x commits holds (y, is, same) =
    ap (λ (o : Option Cursor). option_map_or (λ (z : Cursor). observed_events z.filter commits) o []) (holds.cursor ∙ is)
    ∙ (ap (observed_events y.filter) same ∙ sym (ap (events_since h.begin h.past c.who.base) is))

pub events_kept : (h : History) (c : Call) (x : Held) (commits : List CommitChanges) (reply : String Global) → Holds c x → AreSince h c (Some commits)
    → string_bytes reply ≡ events_reply (option_map_or (λ (y : Cursor). observed_events y.filter commits) x.cursor [])
    → StartsWith h c command.Events (start.Begun task.Observe (errand.Events reply))
events_kept h c x commits reply holds since told =
    (refl, told ∙ ap (λ (es : List JcrEvent). events_reply es) (shown_since h c x commits holds since))

-- without a cursor there is nothing to show
pub events_none : (h : History) (c : Call) (run : SessionRun) (reply : String Global) → Holds c run.held
    → (is_some run.held.cursor && is_none run.changes) ≡ false → run.changes ≡ None → string_bytes reply ≡ events_reply []
    → StartsWith h c command.Events (start.Said reply)
events_none h c run reply holds nothing none told = (
  sym holds.cursor ∙ by run.held.cursor
      (ap (λ (o : Option (List CommitChanges)). is_some run.held.cursor && is_none o) (sym none) ∙ nothing),
  told,
)
  where
    by : (o : Option Cursor) → (is_some o && true) ≡ false → o ≡ None
    by None h = refl
    by (Some x) h = absurd (false≢true (sym h))
