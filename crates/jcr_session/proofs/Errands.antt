-- Each step of a task of the cluster node, of the settings or of the cursor leaves its session where the history says.
use Rattle.std.proofs.Common.{◌≡◌, inl, inr, ℕ, ◌≤◌, Bool, true, false, not, ◌||◌, ◌&&◌, None, Some, Option, List, [], ◌∷◌, ◌++◌, is_some}
use Rattle.std.proofs.Common.{length, refl, sym, ap, ◌∙◌, subst, arith}
use Rattle.std.specs.Prelude.{Contains, IfSome, cond, is_none, option_map, reverse, slice_get, string_bytes}
use Rattle.std.specs.List.{list_any}
use Rattle.std.specs.Option.{option_map_or}
use mathlib.Core.Bool.{false≢true}
use Rattle.std.specs.declared.alloc.Global.{Global}
use Rattle.std.specs.declared.string.String.{String}
use Rattle.jr_path.specs.Lists.{Text}
use Rattle.jr_path.specs.declared.path.Path.{Path}
use Rattle.jr_rev.specs.declared.revision.Revision.{Revision}
use Rattle.jr_rev.specs.declared.vector.RevVec.{RevVec}
use Rattle.jr_rev.specs.Revisions.{is_at_most, is_same}
use Rattle.jr_items.specs.Refusals.{no_checkpoint}
use Rattle.oak_machine.specs.declared.event.Event.{Event}
use Rattle.oak_machine.specs.declared.event.Event.TheVariants as event
use Rattle.oak_machine.specs.declared.event.StepKind.{StepKind}
use Rattle.oak_machine.specs.declared.event.StepKind.TheVariants as kind
use Rattle.oak_machine.specs.History.{History, Past}
use Rattle.oak_machine.specs.Heads.{last_in, local, published}
use Rattle.oak_machine.specs.Laws.{after}
use Rattle.oak_machine.specs.Runs.{IsRun}
use Rattle.oak_machine.specs.Sessions.{cursor_at, has_left, is_attached, kept_checkpoint, next_index, pinned_at, session_base, since}
use Rattle.oak_machine.specs.Commits.{is_committed}
use Rattle.oak_machine.specs.Steps.{is_appended_by, is_kind}
use Rattle.oak_port.specs.Ports.{AreOfStep, Grows, HasRoom, Idle, IsAtRest, IsSessionOn, Makes, Shown, Steps, Work}
use Rattle.oak_port.specs.declared.task.StepOut.{StepOut}
use Rattle.oak_port.specs.declared.task.StepOut.TheVariants as out
use Rattle.oak_port.specs.declared.task.TaskEnd.TheVariants as end
use Rattle.core_heads.proofs.Runs.{sound_run}
use Rattle.core_calls.proofs.Unmoved.{attached_stands}
use Rattle.jcr_observe.specs.declared.event.Filter.{Filter}
use Rattle.jcr_observe.specs.declared.event.JcrEvent.{JcrEvent}
use Rattle.jcr_trans.specs.Answers.{ShowsText}
use Rattle.jcr_trans.specs.Texts.{answer_text}
use Rattle.jcr_trans.specs.declared.command.Command.{Command}
use Rattle.jcr_trans.specs.declared.command.Command.TheVariants as command
use Rattle.jcr_law.specs.declared.law.JcrLaw.{JcrLaw}
use Rattle.jcr_law.specs.declared.state.Cursor.{Cursor}
use Rattle.jcr_law.specs.Built.{Allowed, Asked, is_forbidden}
use Rattle.jcr_law.specs.Calls.{call_after}
use Rattle.jcr_law.specs.Queries.{events_reply, events_since}
use Rattle.jcr_law.specs.Lasting.{says_of, starts_of}
use Rattle.jcr_law.specs.Law.{MaySay, SaysBy, kept, learned, no_text, observed, observing, released, swept, told, unreleased}
use Rattle.jcr_law.specs.Makes.{steps_of}
use Rattle.jcr_law.specs.Since.{before_turn, came, is_pinning, is_unmoved, is_unpinned}
use Rattle.jcr_law.specs.Tasks.{is_out, is_sweep, knows_published, misses}
use Rattle.jcr_law.specs.Starting.{call_has_base}
use Rattle.jcr_law.specs.State.{Call, call_of, command_at, is_ok_text, next_id}
use Rattle.jcr_held.specs.Accepts.{IsFilterOf}
use Rattle.jcr_run.specs.declared.next.Due.{Due}
use Rattle.jcr_run.specs.declared.next.Due.TheVariants as due
use Rattle.core_calls.proofs.Called.{call_stays}
use Rattle.jcr_steps.specs.declared.errand.Came.{Came}
use Rattle.jcr_steps.specs.declared.errand.Came.TheVariants as coming
use Rattle.jcr_steps.specs.declared.errand.Errand.{Errand}
use Rattle.jcr_steps.specs.declared.errand.Errand.TheVariants as errand
use Rattle.jcr_steps.specs.declared.errand.Told.{Told}
use Rattle.jcr_steps.specs.declared.errand.Told.TheVariants as ended
use Rattle.jcr_steps.specs.declared.limits.TheConstants.{COMMIT_REPLY_BYTES, VECTOR_REPLY_BYTES}
use Rattle.jcr_run.specs.declared.run.Phase.{Phase}
use Rattle.jcr_run.specs.declared.run.Phase.TheVariants as phase
use Rattle.jcr_run.specs.declared.run.SessionRun.{SessionRun}
use Rattle.jcr_run.specs.declared.turn.Turn.{Turn}
use Rattle.jcr_run.specs.declared.turn.Turn.TheVariants as turn
use Rattle.jcr_run.specs.Asked.{MayForgo}
use Rattle.jcr_run.specs.Nearing.{IsReply}
use Rattle.jcr_steps.specs.Answered.{IsErrandAnswer, MayCome, MayEnd, came_by, kind_told, told_by}
use Rattle.jcr_session.specs.Phases.{phase_came, turn_came}
use Rattle.jcr_run.specs.Standing.{HasCounted, HasCursor, IsOnErrand, IsBeside, IsFresh, IsIn, IsToldFor, due_for, is_errand, is_told_for}
use Rattle.jcr_steps.specs.Kept.{HasPlace, IsEight}
use Rattle.jcr_run.specs.Standing.{AreInStageOrder, IsAllOut, IsKeptFor, IsOnCommand, IsWorkFor, Stands, StandsAt, is_revision_written}
use Rattle.jcr_steps.specs.Kept.{kept_for}
use Rattle.jcr_steps.specs.Kept.{kept_of, reply_of}
use Rattle.jcr_run.specs.Standing.{stage_at, stage_of}
use Rattle.jcr_run.proofs.Telling.{rest_idle}
use Rattle.jcr_run.proofs.Committing.{own as same_number, same_itself}
use Rattle.jcr_run.proofs.Cursors.{cursor_settled, has_cursor_over}
use Rattle.jcr_run.proofs.Lawful.{asked_allowed}
use Rattle.jcr_run.proofs.Nexts.{errand_there, sets_cursor, unattached_runs}
use Rattle.jcr_session.proofs.Pinned.{pinned_base}
use Rattle.jcr_session.proofs.Plain.{IsPlain, plain_back, plain_checkpoint, plain_in, plain_learn, plain_out, plain_pass, plain_pin, plain_release, plain_setting, plain_sweep}
use Rattle.jcr_run.proofs.Since.{kept_still}
use Rattle.jcr_session.proofs.Rising.{knows_more, knows_public, local_before, published_before}
use Rattle.jcr_run.proofs.Saying.{replied_like, room_less}
use Rattle.jcr_run.proofs.Stages.{inside_order, next_is}
use Rattle.jcr_run.proofs.Starting.{some_is}
use Rattle.jcr_session.proofs.Stepping.{inside_moment, inside_quiet, moved, run_moment, run_new, turned_quiet}
use Rattle.jcr_run.proofs.Turning.{is_awaiting, replied_later, unawaited}
use Rattle.jcr_run.proofs.Waiting.{all_same, call_still, command_beside, fresh_still, in_beside, next_beside, unmoved_beside, unpinned_beside, work_still}
use Rattle.jcr_run.proofs.Works.{WorkCase, learning, passing, publishing, sweeping, to_keep, to_observe, to_read, to_release, to_show, to_sweep, to_write, work_case}

-- ---- what is kept

pub kept_reply : (h : History) (c : Call) (e : Errand) → IsKeptFor h c command.Checkpoint e → (reply : String Global) × (e ≡ errand.Checkpoint reply) ×
    (string_bytes reply ≡ answer_text (ShowsText (next_id c.who)))
kept_reply h c (errand.Checkpoint reply) is = (reply, refl, is)
kept_reply h c e is = absurd is

pub kept_refusal : (h : History) (c : Call) (id : Text) (e : Errand) → IsKeptFor h c (command.Release id) e → (reply : String Global) ×
    (e ≡ errand.Release reply) × (string_bytes reply ≡ no_text (no_checkpoint id))
kept_refusal h c id (errand.Release reply) is = (reply, refl, is)
kept_refusal h c id e is = absurd is

pub kept_filter : (h : History) (c : Call) (p : Path) (deep : Bool) (mask : ℕ) (e : Errand) → IsKeptFor h c (command.Observe p deep mask) e
    → (filter : Filter) × (e ≡ errand.Observe filter) × IsFilterOf (command.Observe p deep mask) filter
kept_filter h c p deep mask (errand.Observe filter) is = (filter, refl, is)
kept_filter h c p deep mask e is = absurd is

pub kept_events : (h : History) (c : Call) (e : Errand) → IsKeptFor h c command.Events e → (reply : String Global) × (e ≡ errand.Events reply) ×
    (string_bytes reply ≡ events_reply (events_since h.begin h.past c.who.base c.state.cursor))
kept_events h c (errand.Events reply) is = (reply, refl, is)
kept_events h c e is = absurd is

kept_write : (h g : History) (c : Call) (e : Errand) → IsKeptFor h c command.BackWrite e → IsKeptFor g c command.BackWrite e
kept_write h g c errand.Write is = tt
kept_write h g c e is = absurd is

kept_read : (h g : History) (c : Call) (e : Errand) → IsKeptFor h c command.BackRead e → IsKeptFor g c command.BackRead e
kept_read h g c errand.Read is = tt
kept_read h g c e is = absurd is

kept_sweep : (h g : History) (c : Call) (e : Errand) → IsKeptFor h c command.Sweep e → IsKeptFor g c command.Sweep e
kept_sweep h g c errand.Sweep is = tt
kept_sweep h g c e is = absurd is

-- what is kept of a task is kept of one that may end so
may_write : (h : History) (c : Call) (e : Errand) → IsKeptFor h c command.BackWrite e → (r : Revision) → MayEnd (coming.Published r) e
may_write h c errand.Write is r = tt
may_write h c e is r = absurd is

may_read : (h : History) (c : Call) (e : Errand) → IsKeptFor h c command.BackRead e → (v : RevVec) → MayEnd (coming.Learnt v) e
may_read h c errand.Read is v = tt
may_read h c e is v = absurd is

may_sweep : (h : History) (c : Call) (e : Errand) → IsKeptFor h c command.Sweep e → (r : Revision) → MayEnd (coming.Swept r) e
may_sweep h c errand.Sweep is r = tt
may_sweep h c e is r = absurd is

may_keep : (h : History) (c : Call) (e : Errand) → IsKeptFor h c command.Checkpoint e → MayEnd coming.Set e
may_keep h c (errand.Checkpoint reply) is = tt
may_keep h c e is = absurd is

may_release : (h : History) (c : Call) (id : Text) (e : Errand) → IsKeptFor h c (command.Release id) e
    → MayEnd coming.Set e × MayEnd coming.Missed e
may_release h c id (errand.Release reply) is = (tt, tt)
may_release h c id e is = absurd is

may_observe : (h : History) (c : Call) (p : Path) (deep : Bool) (mask : ℕ) (e : Errand) → IsKeptFor h c (command.Observe p deep mask) e
    → MayEnd coming.Pinned e
may_observe h c p deep mask (errand.Observe filter) is = tt
may_observe h c p deep mask e is = absurd is

may_show : (h : History) (c : Call) (e : Errand) → IsKeptFor h c command.Events e → MayEnd coming.Pinned e
may_show h c (errand.Events reply) is = tt
may_show h c e is = absurd is

-- the reply that shows events accepts
events_ok : (es : List JcrEvent) → is_ok_text (events_reply es) ≡ true
events_ok es = refl

-- such a task is told
told_errand : (d : Due) → is_errand d ≡ true → is_told_for d ≡ true
told_errand due.Attach h = refl
told_errand d h = h

-- where such a step doesn't go on, the task has ended
pub ends_so : (x : Came) (e : Errand) → ((k : StepKind) → x ≡ coming.Going k → ⊥)
    → (phase_came x e ≡ phase.Told (told_by x e)) × (turn_came x ≡ turn.Stepped (kind_told x))
ends_so (coming.Going k) e never = absurd (never k refl)
ends_so (coming.Published r) e never = (refl, refl)
ends_so (coming.Learnt v) e never = (refl, refl)
ends_so (coming.Swept r) e never = (refl, refl)
ends_so coming.Set e never = (refl, refl)
ends_so coming.Missed e never = (refl, refl)
ends_so coming.Pinned e never = (refl, refl)
ends_so coming.Refused e never = (refl, refl)

abbrev is_refused : Came → Bool
is_refused coming.Refused = true
is_refused _ = false

-- the place has room for nothing, too
empty_place : (o : Option ℕ) (text : Text) → HasPlace o text → HasPlace o []
empty_place o text place = record
    { told = place.told; text_is = room_less o VECTOR_REPLY_BYTES 0 (let le : 0 ≤ 292 = omega arith in le) place.told }

first_of : (x : Event) (xs : List Event) → Contains (x ∷ xs) x
first_of x xs = (0, omega arith, refl)

-- ---- a step

module _ (law : JcrLaw) (old new : Shown) (answer : StepOut) (run : SessionRun) (e : Errand)
    (stands : Stands law old (record run { phase = phase.Working e })) (steps : Steps (starts_of law) (says_of law) old new answer) where
  abbrev at : SessionRun
  at = record run { phase = phase.Working e }

  abbrev here : IsIn law old run.attached × IsOnErrand law old at e
  here = stands.at

  abbrev s : ℕ
  s = old.session

  abbrev moment : History
  moment = after steps.others old.history

  run_then : IsRun (starts_of law) (says_of law) moment
  run_then = run_moment law old new answer at stands here.0 steps

  -- ---- what stays

  module _ (m : Command) (c : Call) (for : IsOnCommand law old at m c) (plain : IsPlain s steps.own) where
    abbrev called_moment : call_of law moment.begin moment.past s ≡ Some c
    called_moment = call_still law old.history s steps.others here.0.nodes run_then steps.grows.theirs ∙ for.is

    called_then : call_of law moment.begin (steps.own ++ moment.past) s ≡ Some c
    called_then = call_stays law old.history.begin (starts_of law) (says_of law) old.history.clusters old.history.sessions here.0.nodes
        steps.own moment.past s (run_new law old new answer at stands here.0 steps) plain.quiet.calls
        ∙ (call_still law old.history s steps.others here.0.nodes run_then steps.grows.theirs ∙ for.is)

    unmoved_then : is_unmoved (steps.own ++ moment.past) s ≡ true
    unmoved_then = plain.unmoved moment.past ∙
        ((all_same law old.history s steps.others here.0.nodes run_then steps.grows.theirs).still ∙ here.1.unmoved)

    fresh_then : IsFresh (steps.own ++ moment.past) s
    fresh_then = let f = fresh_still law old.history s steps.others here.0.nodes run_then steps.grows.theirs for.fresh in
        record { first = plain.drawn moment.past ∙ f.first; idle = plain.idle moment.past f.idle }

    for_now : (f : Phase) → IsOnCommand law new (record run { phase = f }) m c
    for_now f = record {
      unread = for.unread;
      next = for.next;
      is = moved law old new answer at stands here.0 steps (λ h n. call_of law h.begin h.past n ≡ Some c) called_then;
      holds = for.holds;
      fresh = moved law old new answer at stands here.0 steps (λ h n. IsFresh h.past n) fresh_then;
    }

    -- where no pin was moved, the cursor stands where it stood
    has_cursor_then : is_unpinned (steps.own ++ moment.past) s ≡ is_unpinned moment.past s → HasCursor (steps.own ++ moment.past) s c
    has_cursor_then still = has_cursor_over moment.past (steps.own ++ moment.past) s c
        (plain.quiet.cursor moment.past (still ∙ unpinned_moment))
        ((inside_moment law old new answer at stands here.0 steps).cursor c called_moment unpinned_moment)
      where
        unpinned_moment : is_unpinned moment.past s ≡ true
        unpinned_moment = (all_same law old.history s steps.others here.0.nodes run_then steps.grows.theirs).unpinned ∙ here.1.unpinned

    inside_now : IsIn law new run.attached
    inside_now = inside_quiet law old new answer at stands here.0 steps plain.quiet

    -- the law lets a text be said
    says_now : (text : Text) → MaySay law (after steps.own moment) s (Allowed m) text → SaysBy law new.history new.session run.index text
    says_now text may = moved law old new answer at stands here.0 steps (λ h n. SaysBy law h n run.index text) (
      m,
      ap (λ (n : ℕ). command_at law n run.index) stands.session ∙ (stands.commands run.index ∙ for.next),
      subst (λ (a : Asked). MaySay law (after steps.own moment) s a text)
          (sym (asked_allowed (after steps.own moment) s run.attached m
          (ap (λ (p : Past). is_attached p s) (plain.quiet.begins moment.past) ∙
          (inside_moment law old new answer at stands here.0 steps).began) (errand_there run m here.1.errands for.next).0)) may,
    )

    -- the step is one of its command, of the stage at that place
    ordered : (f : Phase) (k : StepKind) (place : ℕ) (kinds : List StepKind) → slice_get (steps_of m) place ≡ Some kinds → list_any
        (is_kind k) kinds ≡ true → stage_of old.work ≤ place → place ≤ stage_at f new.work
        → AreInStageOrder law old new at (record run { phase = f }) (turn.Stepped k)
    ordered f k place kinds there among behind before =
        inside_order law old new at (record run { phase = f }) k here.0.login (Some m) (next_is law old at stands ∙ for.next) record
        { place = place; kinds = kinds; there = there; among = among; behind = behind; before = before }

    goes : (f : Phase) (k : StepKind) → is_awaiting old.work ≡ false → is_appended_by moment s k (reverse steps.own) ≡ true → AreInStageOrder law
        old new at (record run { phase = f }) (turn.Stepped k) → StandsAt law new (record run { phase = f }) f
        → HasCounted law old new at (record run { phase = f }) (turn.Stepped k)
    goes f k awaits appended order stands_now = turned_quiet law old new answer at stands here.0 steps f (turn.Stepped k)
        (appended, plain.one) record {
          stays = (inside_moment law old new answer at stands here.0 steps).stays;
          seen = unawaited moment old.work awaits;
          as_due = steps.as_due;
          quiet = λ still. plain.due;
          ended = plain.awaited moment.past new.work;
        } order (plain.quiet.next moment.past) stands_now

    -- it goes on
    goes_on : (k : StepKind) → is_awaiting old.work ≡ false → is_appended_by moment s k (reverse steps.own) ≡ true → AreInStageOrder law old new
        at at (turn.Stepped k) → IsKeptFor (after steps.own moment) c m e → is_unpinned (steps.own ++ moment.past) s ≡ is_unpinned moment.past s
        → IsWorkFor (after steps.own moment) s c m new.work → HasCounted law old new at at (turn.Stepped k)
    goes_on k awaits appended order kept_is still works = goes (phase.Working e) k awaits appended order (
      inside_now,
      record {
        command = m;
        call = c;
        for = for_now (phase.Working e);
        errands = here.1.errands;
        unmoved = moved law old new answer at stands here.0 steps (λ h n. is_unmoved h.past n ≡ true) unmoved_then;
        unpinned = moved law old new answer at stands here.0 steps (λ h n. is_unpinned h.past n ≡ true)
            (still ∙ ((all_same law old.history s steps.others here.0.nodes run_then steps.grows.theirs).unpinned ∙ here.1.unpinned));
        works = moved law old new answer at stands here.0 steps (λ h n. IsWorkFor h n c m new.work) works;
        kept = moved law old new answer at stands here.0 steps (λ h n. IsKeptFor h c m e) kept_is;
        place = subst (λ (x : Option ℕ). HasPlace x (kept_for e)) (sym steps.room) here.1.place;
      },
    )

    -- it has ended
    has_ended : (t : Told) (k : StepKind) → is_awaiting old.work ≡ false → is_appended_by moment s k (reverse steps.own) ≡ true → AreInStageOrder
        law old new at (record run { phase = phase.Told t }) (turn.Stepped k) → new.work ≡ Idle
        → MaySay law (after steps.own moment) s (Allowed m) (reply_of t) → IsToldFor m t
        → HasCursor (steps.own ++ moment.past) s (call_after (is_ok_text (reply_of t)) false c m) → HasPlace old.room (kept_of t) → IsEight t
        → HasCounted law old new at (record run { phase = phase.Told t }) (turn.Stepped k)
    has_ended t k awaits appended order idle may by cursor place eight = goes (phase.Told t) k awaits appended order (
      inside_now,
      record {
        idle = idle;
        command = m;
        call = c;
        for = for_now (phase.Told t);
        tells = told_errand (due_for run) here.1.errands;
        unmoved = moved law old new answer at stands here.0 steps (λ h n. is_unmoved h.past n ≡ true) unmoved_then;
        says = says_now (reply_of t) may;
        by = by;
        cursor = moved law old new answer at stands here.0 steps (λ h n. HasCursor h.past n (call_after (is_ok_text (reply_of t)) false c m)) cursor;
        place = subst (λ (x : Option ℕ). HasPlace x (kept_of t)) (sym steps.room) place;
        eight = eight;
      },
    )

    -- a command that sets no cursor has ended
    ended_plain : (t : Told) (k : StepKind) → is_awaiting old.work ≡ false → is_appended_by moment s k (reverse steps.own) ≡ true → AreInStageOrder
        law old new at (record run { phase = phase.Told t }) (turn.Stepped k) → new.work ≡ Idle
        → MaySay law (after steps.own moment) s (Allowed m) (reply_of t) → IsToldFor m t → sets_cursor m ≡ false
        → is_unpinned (steps.own ++ moment.past) s ≡ is_unpinned moment.past s → HasPlace old.room (kept_of t) → IsEight t
        → HasCounted law old new at (record run { phase = phase.Told t }) (turn.Stepped k)
    ended_plain t k awaits appended order idle may by none still place eight = has_ended t k awaits appended order idle may by
        (cursor_settled (steps.own ++ moment.past) s (is_ok_text (reply_of t)) false c m none (has_cursor_then still)) place eight

  -- ---- case by case

  -- a vector that a cluster node has learned has eight entries
  learned_eight : (k : ℕ) (v : RevVec) → IsSessionOn moment s k → IsRun (starts_of law) (says_of law) (after (event.In k v ∷ []) moment) → length
      v ≡ 8
  learned_eight k v on now =
      let h = old.history in
      ap (λ (b : Bool). length (cond b v (last_in h.clusters h.begin moment.past k))) (sym (same_number k))
      ∙ ((sound_run h.clusters h.sessions here.0.nodes h.begin (starts_of law) (says_of law) (event.In k v ∷ moment.past) now).ins k
      (here.0.nodes.node s k on)).eight

  abbrev Turned : StepOut → Type 0
  Turned x = HasCounted law old new at (record run { phase = phase_came (came_by x) e }) (turn_came (came_by x))

  -- the step pins the cursor
  pin_came : came s (λ earlier x. is_pinning s x) (event.Went s kind.Pin ∷ moment.past) ≡ true
  pin_came = ap (λ (b : Bool). b || came s (λ earlier x. is_pinning s x) moment.past) (same_number s)

  pinned_came : steps.own ≡ event.Went s kind.Pin ∷ [] → came s (λ earlier x. is_pinning s x) (steps.own ++ moment.past) ≡ true
  pinned_came mine = subst (λ (p : Past). came s (λ earlier x. is_pinning s x) (p ++ moment.past) ≡ true) (sym mine) pin_came

  -- a session that may run what an attached one may not is attached to no checkpoint
  free : (m : Command) (c : Call) → IsOnCommand law old at m c → is_forbidden true m ≡ true → is_attached moment.past s ≡ false
  free m c for forbidden =
      attached_stands moment.past s ((all_same law old.history s steps.others here.0.nodes run_then steps.grows.theirs).still ∙ here.1.unmoved)
      ∙ ((inside_moment law old new answer at stands here.0 steps).began
      ∙ unattached_runs run.attached m forbidden (errand_there run m here.1.errands for.next).0)

  -- the cursor is pinned at its base
  pin_at : (m : Command) (c : Call) → IsOnCommand law old at m c → is_forbidden true m ≡ true → steps.own ≡ event.Went s kind.Pin ∷ []
      → cursor_at (steps.own ++ moment.past) s ≡ Some c.who.base
  pin_at m c for forbidden mine = subst (λ (p : Past). cursor_at (p ++ moment.past) s ≡ Some c.who.base) (sym mine)
      (ap (λ (b : Bool). cond b (session_base moment.past s) (cursor_at moment.past s)) (same_number s)
      ∙ (ap (λ (b : Bool). cond (b && not (has_left moment.past s)) (pinned_at moment.past s) None) inside.login
      ∙ (ap (λ (b : Bool). cond (not b) (pinned_at moment.past s) None) inside.stays
      ∙ (pinned_base moment.past s (free m c for forbidden)
      ∙ call_has_base law moment.begin moment.past s c
      (call_still law old.history s steps.others here.0.nodes run_then steps.grows.theirs ∙ for.is)))))
    where
      inside : IsIn law (record old { history = moment }) run.attached
      inside = inside_moment law old new answer at stands here.0 steps

  -- where `events` told those since it
  shown_cursor : (c : Call) (text : Text) → is_ok_text text ≡ true → cursor_at (steps.own ++ moment.past) s ≡ Some c.who.base
      → HasCursor (steps.own ++ moment.past) s (call_after (is_ok_text text) false c command.Events)
  shown_cursor c text accepts pinned = subst (λ (b : Bool). HasCursor (steps.own ++ moment.past) s (call_after b false c command.Events)) (sym accepts)
      (by c.state.cursor)
    where
      by : (o : Option Cursor) → IfSome (option_map {T = Cursor} (λ y. record y { at = c.who.base }) o) (λ x. cursor_at (steps.own ++ moment.past) s ≡ Some x.at)
      by None = tt
      by (Some x) = pinned

  -- where the events are these, no pin is moved
  unpinning : (p : Past) → steps.own ≡ p → ((q : Past) → is_unpinned (p ++ q) s ≡ is_unpinned q s) → is_unpinned (steps.own ++ moment.past) s ≡ is_unpinned moment.past s
  unpinning p mine still = subst (λ (x : Past). is_unpinned (x ++ moment.past) s ≡ is_unpinned moment.past s) (sym mine) (still moment.past)

  -- a step of a sweep that passes a document or tells the root is of its first stage
  sweeps_first : (c : Call) → IsOnCommand law old at command.Sweep c → IsPlain s steps.own → (k : StepKind) → stage_of old.work ≤ 0 → k ≡ kind.Sweep
      → AreInStageOrder law old new at at (turn.Stepped k)
  sweeps_first c for plain k first is = ordered command.Sweep c for plain (phase.Working e) k 0 (kind.Sweep ∷ []) refl
      (subst (λ (y : StepKind). list_any (is_kind y) (kind.Sweep ∷ []) ≡ true) (sym is) refl)
      first (let le : 0 ≤ stage_of new.work = omega arith in le)

  -- what was published when the command began stays
  all_out : IsPlain s steps.own → (r : Revision) → IsAllOut moment s r → IsAllOut (after steps.own moment) s r
  all_out plain r all i there = subst (λ (p : Past). is_at_most (published moment.begin p i) r ≡ true) (sym (plain.quiet.begins moment.past)) (all i there)

  step_by : (m : Command) (c : Call) (w : Work) (x : StepOut) → old.work ≡ w → WorkCase moment s c m w → IsKeptFor moment c m e → IsOnCommand law
      old at m c → Makes moment s w x steps.own new.work → AreOfStep moment s w x steps.own → (x ≡ out.Memory → ⊥) → Turned x
  step_by _ c _ (out.Went k) was to_write kept_is for (j, on, is, mine, work) appended never =
      let plain = subst (λ (p : Past). IsPlain s p) (sym mine) (plain_back s) in
      goes_on command.BackWrite c for plain k (ap is_awaiting was) appended
      (ordered command.BackWrite c for plain (phase.Working e) k 0 (kind.Back ∷ []) refl
      (subst (λ (y : StepKind). list_any (is_kind y) (kind.Back ∷ []) ≡ true) (sym is) refl)
      (subst (λ (y : Work). stage_of y ≤ 0) (sym was) (let le : 0 ≤ 0 = omega arith in le))
      (let le : 0 ≤ stage_of new.work = omega arith in le))
      (kept_write moment (after steps.own moment) c e kept_is) (unpinning (event.Went s kind.Back ∷ []) mine (λ q. refl))
      (subst (λ (y : Work). IsWorkFor (after steps.own moment) s c command.BackWrite y) (sym work) (λ i there.
      subst (λ (p : Past). is_at_most (local moment.begin p i) (local moment.begin moment.past j) ≡ true)
      (sym (plain.quiet.begins moment.past))
      (subst (λ (n : ℕ). is_at_most (local moment.begin (before_turn moment.past s) i) (local moment.begin moment.past n) ≡ true)
      (some_is (sym there ∙ on))
      (local_before moment.clusters moment.sessions here.0.nodes moment.begin (starts_of law) (says_of law) moment.past run_then s i))))
  step_by _ c _ out.Memory was to_write kept_is for made appended never = absurd (never refl)
  step_by _ c _ x was to_write kept_is for made appended never = absurd made
  step_by _ c _ (out.Went k) was (publishing r all) kept_is for (is, mine, work) appended never =
      let plain = subst (λ (p : Past). IsPlain s p) (sym mine) (plain_back s) in
      goes_on command.BackWrite c for plain k (ap is_awaiting was) appended
      (ordered command.BackWrite c for plain (phase.Working e) k 0 (kind.Back ∷ []) refl
      (subst (λ (y : StepKind). list_any (is_kind y) (kind.Back ∷ []) ≡ true) (sym is) refl)
      (subst (λ (y : Work). stage_of y ≤ 0) (sym was) (let le : 0 ≤ 0 = omega arith in le))
      (let le : 0 ≤ stage_of new.work = omega arith in le))
      (kept_write moment (after steps.own moment) c e kept_is) (unpinning (event.Went s kind.Back ∷ []) mine (λ q. refl))
      (subst (λ (y : Work). IsWorkFor (after steps.own moment) s c command.BackWrite y) (sym work) (λ i there.
      subst (λ (p : Past). is_at_most (local moment.begin p i) r ≡ true) (sym (plain.quiet.begins moment.past)) (all i there)))
  step_by _ c _ (out.Ready (end.Published o)) was (publishing r all) kept_is for (j, on, same, mine, idle) appended never =
      let plain = subst (λ (p : Past). IsPlain s p) (sym mine) (plain_out s j r) in
      ended_plain command.BackWrite c for plain (ended.Published o) kind.Back (ap is_awaiting was) appended
      (ordered command.BackWrite c for plain (phase.Told (ended.Published o)) kind.Back 0 (kind.Back ∷ []) refl refl
      (subst (λ (y : Work). stage_of y ≤ 0) (sym was) (let le : 0 ≤ 0 = omega arith in le)) (let le : 0 ≤ 1 = omega arith in le))
      idle
      (told j o on
      (subst (λ (p : Past). came s (λ earlier x. is_out j o x) (p ++ moment.past) ≡ true) (sym mine) (published_came j o r same))
      (subst (λ (p : Past). is_at_most (local moment.begin p j) o ≡ true) (sym (plain.quiet.begins moment.past))
      (subst (λ (q : Revision). is_at_most (local moment.begin (before_turn moment.past s) j) q ≡ true) (sym same) (all j on)))
      (unmoved_then command.BackWrite c for plain))
      tt refl (unpinning (event.Out j r ∷ []) mine (λ q. refl))
      (empty_place old.room (kept_for e) here.1.place) tt
    where
      published_came : (j : ℕ) (o r : Revision) → o ≡ r → came s (λ earlier x. is_out j o x) (event.Out j r ∷ moment.past) ≡ true
      published_came j o r same =
          ap (λ (b : Bool). (b && is_same o r) || came s (λ earlier x. is_out j o x) moment.past) (same_number j)
          ∙ ap (λ (b : Bool). b || came s (λ earlier x. is_out j o x) moment.past)
          (subst (λ (q : Revision). is_same o q ≡ true) same (same_itself o))
  step_by _ c _ out.Memory was (publishing r all) kept_is for made appended never = absurd (never refl)
  step_by _ c _ x was (publishing r all) kept_is for made appended never = absurd made
  step_by _ c _ (out.Went k) was to_read kept_is for (v, public, is, mine, work) appended never =
      let plain = subst (λ (p : Past). IsPlain s p) (sym mine) (plain_back s) in
      goes_on command.BackRead c for plain k (ap is_awaiting was) appended
      (ordered command.BackRead c for plain (phase.Working e) k 0 (kind.Back ∷ []) refl
      (subst (λ (y : StepKind). list_any (is_kind y) (kind.Back ∷ []) ≡ true) (sym is) refl)
      (subst (λ (y : Work). stage_of y ≤ 0) (sym was) (let le : 0 ≤ 0 = omega arith in le))
      (let le : 0 ≤ stage_of new.work = omega arith in le))
      (kept_read moment (after steps.own moment) c e kept_is) (unpinning (event.Went s kind.Back ∷ []) mine (λ q. refl))
      (subst (λ (y : Work). IsWorkFor (after steps.own moment) s c command.BackRead y) (sym work) (λ i there.
      subst (λ (p : Past). knows_published moment.clusters moment.begin p i v ≡ true) (sym (plain.quiet.begins moment.past))
      (knows_public moment.clusters moment.sessions here.0.nodes moment.begin (starts_of law) (says_of law) moment.past run_then s i v
      (λ q p. (public q).1 p))))
  step_by _ c _ out.Memory was to_read kept_is for made appended never = absurd (never refl)
  step_by _ c _ x was to_read kept_is for made appended never = absurd made
  step_by _ c _ (out.Ready (end.Learnt v)) was (learning u all) kept_is for (j, on, more, mine, idle) appended never =
      let plain = subst (λ (p : Past). IsPlain s p) (sym mine) (plain_in s j v) in
      ended_plain command.BackRead c for plain (ended.Learnt v) kind.Learn (ap is_awaiting was) appended
      (ordered command.BackRead c for plain (phase.Told (ended.Learnt v)) kind.Learn 1 (kind.Learn ∷ []) refl refl
      (subst (λ (y : Work). stage_of y ≤ 1) (sym was) (let le : 1 ≤ 1 = omega arith in le)) (let le : 1 ≤ 2 = omega arith in le))
      idle
      (learned j v on
      (subst (λ (p : Past). Contains (since (p ++ moment.past) s) (event.In j v)) (sym mine)
      (first_of (event.In j v) (since moment.past s)))
      (subst (λ (p : Past). knows_published moment.clusters moment.begin p j v ≡ true) (sym (plain.quiet.begins moment.past))
      (knows_more moment.clusters moment.sessions here.0.nodes moment.begin (starts_of law) (says_of law) moment.past run_then s j u v more
      (all j on)))
      (unmoved_then command.BackRead c for plain))
      tt refl (unpinning (event.In j v ∷ []) mine (λ q. refl))
      (empty_place old.room (kept_for e) here.1.place)
      (learned_eight j v on
      (subst (λ (p : Past). IsRun (starts_of law) (says_of law) (after p moment)) mine (run_new law old new answer at stands here.0 steps)))
  step_by _ c _ out.Memory was (learning u all) kept_is for made appended never = absurd (never refl)
  step_by _ c _ x was (learning u all) kept_is for made appended never = absurd made
  step_by _ c _ (out.Went k) was to_sweep kept_is for (j, on, is, mine, work) appended never =
      let plain = subst (λ (p : Past). IsPlain s p) (sym mine) (plain_pass s) in
      goes_on command.Sweep c for plain k (ap is_awaiting was) appended
      (sweeps_first c for plain k (subst (λ (y : Work). stage_of y ≤ 0) (sym was) (let le : 0 ≤ 0 = omega arith in le)) is)
      (kept_sweep moment (after steps.own moment) c e kept_is) (unpinning (event.Went s kind.Sweep ∷ []) mine (λ q. refl))
      (subst (λ (y : Work). IsWorkFor (after steps.own moment) s c command.Sweep y) (sym work)
      (all_out plain (published moment.begin moment.past j) (λ i there.
      subst (λ (n : ℕ). is_at_most (published moment.begin (before_turn moment.past s) i) (published moment.begin moment.past n) ≡ true)
      (some_is (sym there ∙ on))
      (published_before moment.clusters moment.sessions here.0.nodes moment.begin (starts_of law) (says_of law) moment.past run_then s i
      (here.0.nodes.node s i there)))))
  step_by _ c _ out.Memory was to_sweep kept_is for made appended never = absurd (never refl)
  step_by _ c _ x was to_sweep kept_is for made appended never = absurd made
  step_by _ c _ (out.Went k) was (passing r all) kept_is for (is, inl (mine, work)) appended never =
      let plain = subst (λ (p : Past). IsPlain s p) (sym mine) (plain_pass s) in
      goes_on command.Sweep c for plain k (ap is_awaiting was) appended
      (sweeps_first c for plain k (subst (λ (y : Work). stage_of y ≤ 0) (sym was) (let le : 0 ≤ 0 = omega arith in le)) is)
      (kept_sweep moment (after steps.own moment) c e kept_is) (unpinning (event.Went s kind.Sweep ∷ []) mine (λ q. refl))
      (subst (λ (y : Work). IsWorkFor (after steps.own moment) s c command.Sweep y) (sym work) (all_out plain r all))
  step_by _ c _ (out.Went k) was (passing r all) kept_is for (is, inr (j, on, mine, work)) appended never =
      let plain = subst (λ (p : Past). IsPlain s p) (sym mine) (plain_sweep s j r) in
      goes_on command.Sweep c for plain k (ap is_awaiting was) appended
      (sweeps_first c for plain k (subst (λ (y : Work). stage_of y ≤ 0) (sym was) (let le : 0 ≤ 0 = omega arith in le)) is)
      (kept_sweep moment (after steps.own moment) c e kept_is) (unpinning (event.Sweep j r ∷ []) mine (λ q. refl))
      (subst (λ (y : Work). IsWorkFor (after steps.own moment) s c command.Sweep y) (sym work) (
        all_out plain r all,
        (
          j,
          on,
          subst (λ (p : Past). came s (λ earlier x. is_sweep j r x) (p ++ moment.past) ≡ true) (sym mine) (swept_came j r),
        ),
      ))
    where
      swept_came : (j : ℕ) (r : Revision) → came s (λ earlier x. is_sweep j r x) (event.Sweep j r ∷ moment.past) ≡ true
      swept_came j r =
          ap (λ (b : Bool). (b && is_same r r) || came s (λ earlier x. is_sweep j r x) moment.past) (same_number j)
          ∙ ap (λ (b : Bool). b || came s (λ earlier x. is_sweep j r x) moment.past) (same_itself r)
  step_by _ c _ out.Memory was (passing r all) kept_is for made appended never = absurd (never refl)
  step_by _ c _ x was (passing r all) kept_is for made appended never = absurd made
  step_by _ c _ (out.Ready (end.Swept o)) was (sweeping r all (j, on, has)) kept_is for (same, mine, idle) appended never =
      let plain = subst (λ (p : Past). IsPlain s p) (sym mine) (plain_learn s) in
      ended_plain command.Sweep c for plain (ended.Swept o) kind.Learn (ap is_awaiting was) appended
      (ordered command.Sweep c for plain (phase.Told (ended.Swept o)) kind.Learn 1 (kind.Learn ∷ []) refl refl
      (subst (λ (y : Work). stage_of y ≤ 1) (sym was) (let le : 1 ≤ 1 = omega arith in le)) (let le : 1 ≤ 2 = omega arith in le))
      idle
      (swept j o on
      (subst (λ (p : Past). came s (λ earlier x. is_sweep j o x) (p ++ moment.past) ≡ true) (sym mine)
      (subst (λ (q : Revision). came s (λ earlier x. is_sweep j q x) moment.past ≡ true) (sym same) has))
      (subst (λ (q : Revision). is_at_most (published moment.begin (before_turn (steps.own ++ moment.past) s) j) q ≡ true) (sym same)
      (all_out plain r all j on))
      (unmoved_then command.Sweep c for plain))
      tt refl (unpinning (event.Went s kind.Learn ∷ []) mine (λ q. refl))
      (empty_place old.room (kept_for e) here.1.place) tt
  step_by _ c _ out.Memory was (sweeping r all has) kept_is for made appended never = absurd (never refl)
  step_by _ c _ x was (sweeping r all has) kept_is for made appended never = absurd made
  step_by _ c _ (out.Ready (end.Set None)) was (to_keep id named counted) kept_is for (v, based, mine, idle) appended never =
      let plain = subst (λ (p : Past). IsPlain s p) (sym mine) (plain_checkpoint s id v) in
      let reply = kept_reply moment c e kept_is in
      subst (λ (t : Told). HasCounted law old new at (record run { phase = phase.Told t }) (turn.Stepped kind.Settings))
      (ap (λ (y : Errand). told_by coming.Set y) (sym reply.1))
      (ended_plain command.Checkpoint c for plain (ended.Text reply.0) kind.Settings (ap is_awaiting was) appended
      (ordered command.Checkpoint c for plain (phase.Told (ended.Text reply.0)) kind.Settings 0 (kind.Settings ∷ []) refl refl
      (subst (λ (y : Work). stage_of y ≤ 0) (sym was) (let le : 0 ≤ 0 = omega arith in le)) (let le : 0 ≤ 1 = omega arith in le))
      idle
      (subst (λ (t : Text). MaySay law (after steps.own moment) s (Allowed command.Checkpoint) t) (sym reply.2)
      (kept c (called_then command.Checkpoint c for plain)
      (subst (λ (p : Past). Contains (since (p ++ moment.past) s) (event.Checkpoint (next_id c.who) c.who.base)) (sym mine)
      (subst (λ (i : Text). Contains (since (event.Checkpoint id v ∷ moment.past) s) (event.Checkpoint i c.who.base)) named
      (subst (λ (b : RevVec). Contains (since (event.Checkpoint id v ∷ moment.past) s) (event.Checkpoint id b))
      (some_is
      (sym based ∙ call_has_base law moment.begin moment.past s c
      (call_still law old.history s steps.others here.0.nodes run_then steps.grows.theirs ∙ for.is)))
      (first_of (event.Checkpoint id v) (since moment.past s)))))
      (unmoved_then command.Checkpoint c for plain)))
      tt refl (unpinning (event.Checkpoint id v ∷ []) mine (λ q. refl))
      (subst (λ (y : Errand). HasPlace old.room (kept_for y)) reply.1 here.1.place) tt)
  step_by _ c _ out.Memory was (to_keep id named counted) kept_is for made appended never = absurd (never refl)
  step_by _ c _ x was (to_keep id named counted) kept_is for made appended never = absurd made
  step_by _ c _ (out.Ready (end.Set None)) was (to_release id i is) kept_is for (mine, idle) appended never =
      let plain = subst (λ (p : Past). IsPlain s p) (sym mine) (plain_release s i) in
      let reply = kept_refusal moment c id e kept_is in
      subst (λ (t : Told). HasCounted law old new at (record run { phase = phase.Told t }) (turn.Stepped kind.Settings))
      (ap (λ (y : Errand). told_by coming.Set y) (sym reply.1))
      (ended_plain (command.Release id) c for plain ended.Done kind.Settings (ap is_awaiting was) appended
      (ordered (command.Release id) c for plain (phase.Told ended.Done) kind.Settings 0 (kind.Settings ∷ []) refl refl
      (subst (λ (y : Work). stage_of y ≤ 0) (sym was) (let le : 0 ≤ 0 = omega arith in le)) (let le : 0 ≤ 1 = omega arith in le))
      idle
      (released id
      (subst (λ (p : Past). Contains (since (p ++ moment.past) s) (event.Release id)) (sym mine)
      (subst (λ (j : Text). Contains (since (event.Release i ∷ moment.past) s) (event.Release j)) is
      (first_of (event.Release i) (since moment.past s))))
      (unmoved_then (command.Release id) c for plain))
      tt refl (unpinning (event.Release i ∷ []) mine (λ q. refl))
      (empty_place old.room (kept_for e) here.1.place) tt)
  step_by _ c _ (out.Ready end.NoCheckpoint) was (to_release id i is) kept_is for (none, mine, idle) appended never =
      let plain = subst (λ (p : Past). IsPlain s p) (sym mine) (plain_setting s) in
      let reply = kept_refusal moment c id e kept_is in
      subst (λ (t : Told). HasCounted law old new at (record run { phase = phase.Told t }) (turn.Stepped kind.Settings))
      (ap (λ (y : Errand). told_by coming.Missed y) (sym reply.1))
      (ended_plain (command.Release id) c for plain (ended.Text reply.0) kind.Settings (ap is_awaiting was) appended
      (ordered (command.Release id) c for plain (phase.Told (ended.Text reply.0)) kind.Settings 0 (kind.Settings ∷ []) refl refl
      (subst (λ (y : Work). stage_of y ≤ 0) (sym was) (let le : 0 ≤ 0 = omega arith in le)) (let le : 0 ≤ 1 = omega arith in le))
      idle
      (subst (λ (t : Text). MaySay law (after steps.own moment) s (Allowed (command.Release id)) t) (sym reply.2)
      (unreleased id
      (subst (λ (p : Past). came s (misses s id) (p ++ moment.past) ≡ true) (sym mine)
      (missed_came id (subst (λ (j : Text). kept_checkpoint moment.past j ≡ None) is none)))
      (unmoved_then (command.Release id) c for plain)))
      tt refl (unpinning (event.Went s kind.Settings ∷ []) mine (λ q. refl))
      (subst (λ (y : Errand). HasPlace old.room (kept_for y)) reply.1 here.1.place) tt)
    where
      missed_came : (id : Text) → kept_checkpoint moment.past id ≡ None → came s (misses s id) (event.Went s kind.Settings ∷ moment.past) ≡
          true
      missed_came id none =
          ap (λ (b : Bool). (b && is_none (kept_checkpoint moment.past id)) || came s (misses s id) moment.past) (same_number s)
          ∙ ap (λ (o : Option RevVec). is_none o || came s (misses s id) moment.past) none
  step_by _ c _ out.Memory was (to_release id i is) kept_is for made appended never = absurd (never refl)
  step_by _ c _ x was (to_release id i is) kept_is for made appended never = absurd made
  step_by _ c _ (out.Ready (end.Pinned pin)) was (to_observe q deep mask within) kept_is for (based, mine, idle) appended never =
      let plain = subst (λ (p : Past). IsPlain s p) (sym mine) (plain_pin s) in
      let filter = kept_filter moment c q deep mask e kept_is in
      subst (λ (t : Told). HasCounted law old new at (record run { phase = phase.Told t }) (turn.Stepped kind.Pin))
      (ap (λ (y : Errand). told_by coming.Pinned y) (sym filter.1))
      (has_ended (command.Observe q deep mask) c for plain (ended.Observed filter.0) kind.Pin (ap is_awaiting was) appended
      (ordered (command.Observe q deep mask) c for plain (phase.Told (ended.Observed filter.0)) kind.Pin 0 (kind.Pin ∷ []) refl refl
      (subst (λ (y : Work). stage_of y ≤ 0) (sym was) (let le : 0 ≤ 0 = omega arith in le)) (let le : 0 ≤ 1 = omega arith in le))
      idle
      (observing q deep mask within (pinned_came mine) (unmoved_then (command.Observe q deep mask) c for plain))
      filter.2
      (pin_at (command.Observe q deep mask) c for refl mine)
      (empty_place old.room (kept_for e) here.1.place) tt)
  step_by _ c _ out.Memory was (to_observe q deep mask within) kept_is for made appended never = absurd (never refl)
  step_by _ c _ x was (to_observe q deep mask within) kept_is for made appended never = absurd made
  step_by _ c _ (out.Ready (end.Pinned pin)) was to_show kept_is for (based, mine, idle) appended never =
      let plain = subst (λ (p : Past). IsPlain s p) (sym mine) (plain_pin s) in
      let reply = kept_events moment c e kept_is in
      subst (λ (t : Told). HasCounted law old new at (record run { phase = phase.Told t }) (turn.Stepped kind.Pin))
      (ap (λ (y : Errand). told_by coming.Pinned y) (sym reply.1))
      (has_ended command.Events c for plain (ended.Text reply.0) kind.Pin (ap is_awaiting was) appended
      (ordered command.Events c for plain (phase.Told (ended.Text reply.0)) kind.Pin 0 (kind.Pin ∷ []) refl refl
      (subst (λ (y : Work). stage_of y ≤ 0) (sym was) (let le : 0 ≤ 0 = omega arith in le)) (let le : 0 ≤ 1 = omega arith in le))
      idle
      (subst (λ (t : Text). MaySay law (after steps.own moment) s (Allowed command.Events) t) (sym reply.2)
      (subst (λ (p : Past). MaySay law (after p moment) s (Allowed command.Events)
      (events_reply (events_since moment.begin moment.past c.who.base c.state.cursor))) (sym mine)
      (observed c (subst (λ (p : Past). call_of law moment.begin (p ++ moment.past) s ≡ Some c) mine (called_then command.Events c for plain))
      pin_came (subst (λ (p : Past). is_unmoved (p ++ moment.past) s ≡ true) mine (unmoved_then command.Events c for plain)))))
      tt
      (shown_cursor c (string_bytes reply.0) (ap is_ok_text reply.2 ∙ events_ok (events_since moment.begin moment.past c.who.base c.state.cursor))
      (pin_at command.Events c for refl mine))
      (subst (λ (y : Errand). HasPlace old.room (kept_for y)) reply.1 here.1.place) tt)
  step_by _ c _ out.Memory was to_show kept_is for made appended never = absurd (never refl)
  step_by _ c _ x was to_show kept_is for made appended never = absurd made

  abbrev case_then : WorkCase moment s here.1.call here.1.command old.work
  case_then = work_case moment s here.1.call here.1.command old.work
      (work_still law old.history s steps.others here.0.nodes run_then steps.grows.theirs here.1.call here.1.command old.work here.1.works)

  kept_then : IsKeptFor moment here.1.call here.1.command e
  kept_then = kept_still law old.history s steps.others here.0.nodes run_then steps.grows.theirs here.1.call here.1.for.is here.1.command e here.1.kept

  -- a step of a task is a turn
  pub errand_turns : (answer ≡ out.Memory → ⊥) → Turned answer
  errand_turns never = step_by here.1.command here.1.call old.work answer refl case_then kept_then here.1.for steps.makes steps.of_step
      never

  -- which answers come
  pub errand_comes : IsErrandAnswer answer
  errand_comes = by here.1.command here.1.call old.work answer case_then steps.makes
    where
      by : (m : Command) (c : Call) (w : Work) (x : StepOut) → WorkCase moment s c m w → Makes moment s w x steps.own new.work →
          IsErrandAnswer x
      by _ c _ (out.Went k) to_write made = tt
      by _ c _ out.Memory to_write made = tt
      by _ c _ x to_write made = absurd made
      by _ c _ (out.Went k) (publishing r all) made = tt
      by _ c _ (out.Ready (end.Published o)) (publishing r all) made = tt
      by _ c _ out.Memory (publishing r all) made = tt
      by _ c _ x (publishing r all) made = absurd made
      by _ c _ (out.Went k) to_read made = tt
      by _ c _ out.Memory to_read made = tt
      by _ c _ x to_read made = absurd made
      by _ c _ (out.Ready (end.Learnt v)) (learning u all) made = tt
      by _ c _ out.Memory (learning u all) made = tt
      by _ c _ x (learning u all) made = absurd made
      by _ c _ (out.Went k) to_sweep made = tt
      by _ c _ out.Memory to_sweep made = tt
      by _ c _ x to_sweep made = absurd made
      by _ c _ (out.Went k) (passing r all) made = tt
      by _ c _ out.Memory (passing r all) made = tt
      by _ c _ x (passing r all) made = absurd made
      by _ c _ (out.Ready (end.Swept o)) (sweeping r all has) made = tt
      by _ c _ out.Memory (sweeping r all has) made = tt
      by _ c _ x (sweeping r all has) made = absurd made
      by _ c _ (out.Ready (end.Set None)) (to_keep id named counted) made = tt
      by _ c _ out.Memory (to_keep id named counted) made = tt
      by _ c _ x (to_keep id named counted) made = absurd made
      by _ c _ (out.Ready (end.Set None)) (to_release id i is) made = tt
      by _ c _ (out.Ready end.NoCheckpoint) (to_release id i is) made = tt
      by _ c _ out.Memory (to_release id i is) made = tt
      by _ c _ x (to_release id i is) made = absurd made
      by _ c _ (out.Ready (end.Pinned pin)) (to_observe q deep mask within) made = tt
      by _ c _ out.Memory (to_observe q deep mask within) made = tt
      by _ c _ x (to_observe q deep mask within) made = absurd made
      by _ c _ (out.Ready (end.Pinned pin)) to_show made = tt
      by _ c _ out.Memory to_show made = tt
      by _ c _ x to_show made = absurd made

  refused_is : (x : StepOut) → x ≡ out.Memory → came_by x ≡ coming.Refused
  refused_is x memory = ap came_by memory

  -- what it came to is what this task may come to
  pub errand_may : (x : Came) → x ≡ came_by answer → (x ≡ coming.Refused → ⊥) → MayCome x e
  errand_may x is never = subst (λ (y : Came). MayCome y e) (sym is)
      (by here.1.command here.1.call old.work answer case_then here.1.kept steps.makes (λ memory. never (is ∙ refused_is answer memory)))
    where
      by : (m : Command) (c : Call) (w : Work) (x : StepOut) → WorkCase moment s c m w → IsKeptFor old.history c m e
          → Makes moment s w x steps.own new.work → (x ≡ out.Memory → ⊥) → MayCome (came_by x) e
      by _ c _ (out.Went k) case keeps made never = tt
      by _ c _ out.Memory case keeps made never = absurd (never refl)
      by _ c _ (out.Ready (end.Published o)) (publishing r all) keeps made never = may_write old.history c e keeps o
      by _ c _ (out.Ready (end.Learnt v)) (learning u all) keeps made never = may_read old.history c e keeps v
      by _ c _ (out.Ready (end.Swept o)) (sweeping r all has) keeps made never = may_sweep old.history c e keeps o
      by _ c _ (out.Ready (end.Set None)) (to_keep id named counted) keeps made never = may_keep old.history c e keeps
      by _ c _ (out.Ready (end.Set None)) (to_release id i same) keeps made never = (may_release old.history c id e keeps).0
      by _ c _ (out.Ready end.NoCheckpoint) (to_release id i same) keeps made never = (may_release old.history c id e keeps).1
      by _ c _ (out.Ready (end.Pinned pin)) (to_observe q deep mask within) keeps made never = may_observe old.history c q deep mask e keeps
      by _ c _ (out.Ready (end.Pinned pin)) to_show keeps made never = may_show old.history c e keeps
      by _ c _ x to_write keeps made never = absurd made
      by _ c _ x (publishing r all) keeps made never = absurd made
      by _ c _ x to_read keeps made never = absurd made
      by _ c _ x (learning u all) keeps made never = absurd made
      by _ c _ x to_sweep keeps made never = absurd made
      by _ c _ x (passing r all) keeps made never = absurd made
      by _ c _ x (sweeping r all has) keeps made never = absurd made
      by _ c _ x (to_keep id named counted) keeps made never = absurd made
      by _ c _ x (to_release id i same) keeps made never = absurd made
      by _ c _ x (to_observe q deep mask within) keeps made never = absurd made
      by _ c _ x to_show keeps made never = absurd made

  -- by what it came to
  pub errand_turned : (x : Came) → x ≡ came_by answer → (x ≡ coming.Refused → ⊥) → (now : SessionRun) → now ≡ record run
      { phase = phase_came x e } → (t : Turn) → t ≡ turn_came x → HasCounted law old new at now t
  errand_turned x is never now run_is t turn_is =
      subst (λ (y : Turn). HasCounted law old new at now y) (sym turn_is)
      (subst (λ (y : SessionRun). HasCounted law old new at y (turn_came x)) (sym run_is)
      (subst (λ (y : Came). HasCounted law old new at (record run { phase = phase_came y e }) (turn_came y)) (sym is)
      (errand_turns (λ memory. never (is ∙ refused_is answer memory)))))

  -- where memory was refused, the task has ended without effect
  pub refused_quiet : answer ≡ out.Memory → (steps.own ≡ []) × (new.work ≡ Idle)
  refused_quiet memory = by here.1.command here.1.call old.work case_then
      (subst (λ (x : StepOut). Makes moment s old.work x steps.own new.work) memory steps.makes)
    where
      by : (m : Command) (c : Call) (w : Work) → WorkCase moment s c m w → Makes moment s w out.Memory steps.own new.work →
          (steps.own ≡ []) × (new.work ≡ Idle)
      by _ c _ to_write made = made
      by _ c _ (publishing r all) made = made
      by _ c _ to_read made = made
      by _ c _ (learning u all) made = made
      by _ c _ to_sweep made = made
      by _ c _ (passing r all) made = made
      by _ c _ (sweeping r all has) made = made
      by _ c _ (to_keep id named counted) made = made
      by _ c _ (to_release id i is) made = made
      by _ c _ (to_observe q deep mask within) made = made
      by _ c _ to_show made = made

  pub refused_beside : answer ≡ out.Memory → IsBeside law old new
  refused_beside memory = record {
    others = steps.others;
    grows = subst (λ (own : Past). Grows (starts_of law) (says_of law) s old.history new.history steps.others own) (refused_quiet memory).0
        steps.grows;
    session = steps.session;
    beside = steps.beside;
    alone = steps.alone;
  }

  -- nothing was waited for
  unwaited : is_awaiting old.work ≡ false
  unwaited = by here.1.command here.1.call old.work case_then
    where
      by : (m : Command) (c : Call) (w : Work) → WorkCase moment s c m w → is_awaiting w ≡ false
      by _ c _ to_write = refl
      by _ c _ (publishing r all) = refl
      by _ c _ to_read = refl
      by _ c _ (learning u all) = refl
      by _ c _ to_sweep = refl
      by _ c _ (passing r all) = refl
      by _ c _ (sweeping r all has) = refl
      by _ c _ (to_keep id named counted) = refl
      by _ c _ (to_release id i is) = refl
      by _ c _ (to_observe q deep mask within) = refl
      by _ c _ to_show = refl

  -- want of memory may be answered
  pub refused_forgoes : answer ≡ out.Memory → MayForgo law new run false
  refused_forgoes memory = record {
    command = here.1.command;
    call = here.1.call;
    asked = record {
      inside = in_beside law old new beside here.0.nodes here.0;
      session = steps.session ∙ stands.session;
      few = stands.few;
      commands = stands.commands;
      index = stands.index ∙
          (ap (next_index old.history.past) (sym stands.session) ∙
          (sym (next_beside law old new beside) ∙ ap (next_index new.history.past) (steps.session ∙ stands.session)));
      rests = rest_idle new.session new.work (refused_quiet memory).1;
      unread = for.unread;
      still = for.fresh.idle;
      next = for.next;
      call = for.is;
    };
    unmoved = unmoved_beside law old new beside here.0.nodes here.1.unmoved;
    unpinned = unpinned_beside law old new beside here.0.nodes here.1.unpinned;
    drew_is = ap is_some for.fresh.first;
    uncommitted = ap (λ (o : Option Revision). option_map_or (is_committed new.history.past) o false) for.fresh.first;
    holds = for.holds;
  }
    where
      beside : IsBeside law old new
      beside = refused_beside memory

      for : IsOnCommand law new at here.1.command here.1.call
      for = command_beside law old new beside here.0.nodes at here.1.command here.1.call here.1.for

  -- there is a place for that
  pub refused_room : HasRoom new.room COMMIT_REPLY_BYTES
  refused_room = subst (λ (x : Option ℕ). HasRoom x COMMIT_REPLY_BYTES) (sym steps.room)
      (room_less old.room VECTOR_REPLY_BYTES COMMIT_REPLY_BYTES (let le : 40 ≤ 292 = omega arith in le) here.1.place.told)

  -- and that is its turn
  pub refused_turns : (later : JcrLaw) → later ≡ law → (newer : Shown) (now : SessionRun) (t : Turn) → answer ≡ out.Memory → IsReply t →
      HasCounted later new newer run now t → HasCounted law old newer at now t
  refused_turns later same newer now t memory reply turned =
      replied_like law old newer at run now t refl refl refl reply
      (replied_later law old new newer run now t here.0.nodes (refused_beside memory) (ap is_revision_written (refused_quiet memory).1) unwaited
      reply
      (subst (λ (l : JcrLaw). HasCounted l new newer run now t) same turned))

-- a task under way is something that is being done
pub errand_busy : (law : JcrLaw) (p : Shown) (run : SessionRun) (e : Errand) → Stands law p (record run { phase = phase.Working e }) →
    IsAtRest p.work → ⊥
errand_busy law p run e stands rests = by stands.at.1.command stands.at.1.call p.work
    (work_case p.history p.session stands.at.1.call stands.at.1.command p.work stands.at.1.works) rests
  where
    by : (m : Command) (c : Call) (w : Work) → WorkCase p.history p.session c m w → IsAtRest w → ⊥
    by _ c _ to_write is = is
    by _ c _ (publishing r all) is = is
    by _ c _ to_read is = is
    by _ c _ (learning u all) is = is
    by _ c _ to_sweep is = is
    by _ c _ (passing r all) is = is
    by _ c _ (sweeping r all has) is = is
    by _ c _ (to_keep id named counted) is = is
    by _ c _ (to_release id i same) is = is
    by _ c _ (to_observe q deep mask within) is = is
    by _ c _ to_show is = is

-- what a refusal is
pub memory_is : (answer : StepOut) → IsErrandAnswer answer → came_by answer ≡ coming.Refused → answer ≡ out.Memory
memory_is out.Memory is h = refl
memory_is (out.Went k) is h = absurd (false≢true (ap is_refused h))
memory_is (out.Ready (end.Published r)) is h = absurd (false≢true (ap is_refused h))
memory_is (out.Ready (end.Learnt v)) is h = absurd (false≢true (ap is_refused h))
memory_is (out.Ready (end.Swept r)) is h = absurd (false≢true (ap is_refused h))
memory_is (out.Ready (end.Set pin)) is h = absurd (false≢true (ap is_refused h))
memory_is (out.Ready end.NoCheckpoint) is h = absurd (false≢true (ap is_refused h))
memory_is (out.Ready (end.Pinned pin)) is h = absurd (false≢true (ap is_refused h))
memory_is a is h = absurd is
