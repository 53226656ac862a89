-- A session moves its base for its next command: by a refresh, an attach or a detach.
use Rattle.std.specs.declared.alloc.AllocError.{AllocError}
use Rattle.std.proofs.Common.{◌≡◌, inl, ℕ, ◌≤◌, Result, Ok, Err, IfOk, Bool, true, false, cond, Some, None, Option, [], ◌∷◌, ◌++◌, is_some, refl, sym, ap, ◌∙◌, subst, arith}
use Rattle.std.specs.Prelude.{Contains, option_map, reverse, slice_get, string_bytes}
use Rattle.std.specs.Option.{unwrap_or}
use mathlib.Core.Bool.{false≢true}
use Rattle.jr_path.specs.Lists.{Text}
use Rattle.jr_rev.specs.declared.vector.Pin.{Pin}
use Rattle.jr_rev.specs.declared.vector.RevVec.{RevVec}
use Rattle.jr_tree.specs.Trees.{IsTree, Nodes}
use Rattle.jr_items.specs.Refusals.{no_checkpoint}
use Rattle.oak_machine.specs.declared.event.Event.{Event}
use Rattle.oak_machine.specs.declared.event.Event.TheVariants as event
use Rattle.oak_machine.specs.declared.event.StepKind.{StepKind}
use Rattle.oak_machine.specs.declared.event.StepKind.TheVariants as kind
use Rattle.oak_machine.specs.History.{History, Past}
use Rattle.oak_machine.specs.Laws.{after}
use Rattle.oak_machine.specs.Runs.{IsRun}
use Rattle.oak_machine.specs.Sessions.{base_of, is_attached, kept_checkpoint, next_index, refreshed_among, refreshed_since, since}
use Rattle.oak_machine.specs.Steps.{is_appended_by}
use Rattle.oak_port.specs.Ports.{Appends, AreOfStep, Detaching, Grows, HasRoom, Idle, IsAskedOf, IsAtRest, Makes, MayBegin, OthersAlone, Shown, Starting}
use Rattle.oak_port.specs.Ports.{Steps, Work, is_by_due}
use Rattle.oak_port.specs.declared.task.StepOut.{StepOut}
use Rattle.oak_port.specs.declared.task.StepOut.TheVariants as out
use Rattle.oak_port.specs.declared.task.Task.{Task}
use Rattle.oak_port.specs.declared.task.Task.TheVariants as task
use Rattle.oak_port.specs.declared.task.TaskEnd.TheVariants as end
use Rattle.jcr_trans.specs.Answers.{Refused, ShowsVector}
use Rattle.jcr_trans.specs.Texts.{answer_text, memory_text}
use Rattle.jcr_trans.specs.declared.command.Command.{Command}
use Rattle.jcr_trans.specs.declared.command.Command.TheVariants as command
use Rattle.jcr_law.specs.declared.law.JcrLaw.{JcrLaw}
use Rattle.jcr_law.specs.Built.{Allowed, Asked}
use Rattle.jcr_law.specs.Calls.{call_after, call_moved}
use Rattle.jcr_law.specs.Lasting.{says_of, starts_of}
use Rattle.jcr_law.specs.Law.{MaySay, SaysBy, attached, detached, half_detached, refreshed, unattached}
use Rattle.jcr_law.specs.Makes.{IsAskedAt}
use Rattle.jcr_law.specs.Since.{detached_among, is_unpinned}
use Rattle.jcr_law.specs.State.{Call, call_of, command_at, is_ok_text}
use Rattle.jcr_law.specs.Starting.{call_has_base}
use Rattle.jcr_held.specs.Holds.{Holds}
use Rattle.jcr_held.specs.declared.held.Held.{Held}
use Rattle.core_heads.proofs.Passing.{among_same}
use Rattle.core_calls.proofs.Accepting.{answer_accepts}
use Rattle.core_calls.proofs.Called.{call_stays}
use Rattle.core_calls.proofs.Unmoved.{attached_stands, undetached}
use Rattle.jcr_steps.specs.declared.errand.Told.TheVariants as told
use Rattle.jcr_steps.specs.declared.limits.TheConstants.{COMMIT_REPLY_BYTES, VECTOR_REPLY_BYTES}
use Rattle.jcr_steps.specs.Answered.{IsPinAnswer}
use Rattle.jcr_steps.specs.Kept.{HasPlace}
use Rattle.jcr_session.specs.declared.moves.Target.{Target}
use Rattle.jcr_run.specs.declared.next.Due.TheVariants as due
use Rattle.jcr_run.specs.declared.run.Phase.{Phase}
use Rattle.jcr_run.specs.declared.run.Phase.TheVariants as phase
use Rattle.jcr_run.specs.declared.run.SessionRun.{SessionRun}
use Rattle.jcr_run.specs.declared.turn.Turn.{Turn}
use Rattle.jcr_run.specs.declared.turn.Turn.TheVariants as turn
use Rattle.jcr_run.specs.Nearing.{IsReply}
use Rattle.jcr_run.specs.Asked.{IsAsked, MayAnswer, Settles, has_drawn, history_told}
use Rattle.jcr_session.specs.Begins.{IsTargetNext, IsTargetOf, MayStayHalf}
use Rattle.jcr_run.specs.Standing.{HasAwaited, HasCounted, IsBeside, IsBetweenCommands, IsDetaching, IsFresh, IsHalfDetached, IsIn}
use Rattle.jcr_run.specs.Standing.{AreInStageOrder, IsBaseMoved, Stands, StandsAt, due_for, is_allowed, is_attaching, is_moving, is_told_for}
use Rattle.jcr_run.specs.Standing.{is_revision_written, stage_at}
use Rattle.jcr_run.proofs.Lawful.{asks_of}
use Rattle.jcr_run.proofs.Telling.{rest_idle}
use Rattle.jcr_session.proofs.Bases.{IsBased, attached_base, based_attached, by_event, first_of, first_turn, looked_on, missed_came, refreshed_base}
use Rattle.jcr_session.proofs.Bases.{says_event, unmoved_then}
use Rattle.jcr_run.proofs.Committing.{own}
use Rattle.jcr_run.proofs.Cursors.{cursor_refused}
use Rattle.jcr_run.proofs.Lawful.{asked_allowed, at_between, refused_text, says_idle, settled_leaves}
use Rattle.jcr_run.proofs.Nexts.{allowed_due, due_at, next_due, only_attach, only_detach, only_refresh, unattached_runs, detaches_attached}
use Rattle.jcr_run.proofs.Saying.{asked_like, room_less}
use Rattle.jcr_run.proofs.Stages.{inside_order, next_is}
use Rattle.jcr_run.proofs.Starting.{made, of_step}
use Rattle.jcr_session.proofs.Stepping.{inside_moment, inside_quiet, moved, run_moment, run_new, turned_with}
use Rattle.jcr_run.proofs.Turning.{IsQuiet, is_awaiting, quiet_by, replied_later, unawaited}
use Rattle.jcr_run.proofs.Waiting.{half_beside, in_beside, next_beside}

-- ---- which command it is

module _ (run : SessionRun) where
  pub refresh_next : due_for run ≡ due.Refresh → (keep : Bool) × (slice_get run.commands run.index ≡ Some (command.Refresh keep)) × (is_allowed run.attached (command.Refresh keep) ≡ true)
  refresh_next next =
      let m = next_due run due.Refresh next refl in
      let a = allowed_due run.attached m.0 due.Refresh m.2 refl in
      let k = only_refresh m.0 a.1 in
      (k.0, m.1 ∙ ap (λ (x : Command). Some x) k.1, subst (λ (x : Command). is_allowed run.attached x ≡ true) k.1 a.0)

  pub attach_next : due_for run ≡ due.Attach → (id : Text) × (slice_get run.commands run.index ≡ Some (command.Attach id)) × (is_allowed run.attached (command.Attach id) ≡ true)
  attach_next next =
      let m = next_due run due.Attach next refl in
      let a = allowed_due run.attached m.0 due.Attach m.2 refl in
      let k = only_attach m.0 a.1 in
      (k.0, m.1 ∙ ap (λ (x : Command). Some x) k.1, subst (λ (x : Command). is_allowed run.attached x ≡ true) k.1 a.0)

  pub detach_next : due_for run ≡ due.Detach → (slice_get run.commands run.index ≡ Some command.Detach) × (is_allowed run.attached command.Detach ≡ true)
  detach_next next =
      let m = next_due run due.Detach next refl in
      let a = allowed_due run.attached m.0 due.Detach m.2 refl in
      let k = only_detach m.0 a.1 in
      (m.1 ∙ ap (λ (x : Command). Some x) k, subst (λ (x : Command). is_allowed run.attached x ≡ true) k a.0)

-- the checkpoint that an attach asks for
pub target_by : (run : SessionRun) (id : Text) (made : Result Target AllocError) → slice_get run.commands run.index ≡ Some (command.Attach id) → IfOk made (IsTargetOf id) → IfOk made (IsTargetNext run)
target_by run id (Ok t) next h = record { id = id; next = next; target = h }
target_by run id (Err e) next h = tt

-- ---- what its task needs

module _ (law : JcrLaw) (p : Shown) (run : SessionRun) (stands : Stands law p run) (between : run.phase ≡ phase.Between) where
  abbrev begins_in : IsIn law p run.attached
  begins_in = (at_between law p run stands between).0

  attached_now : is_attached p.history.past p.session ≡ run.attached
  attached_now = attached_stands p.history.past p.session (at_between law p run stands between).1.unmoved ∙ begins_in.began

  pub refresh_begins : due_for run ≡ due.Refresh → MayBegin (starts_of law) p.history p.session task.Refresh
  refresh_begins next =
      let k = refresh_next run next in (begins_in.login, begins_in.stays, attached_now ∙ unattached_runs run.attached (command.Refresh k.0) refl k.2)

  pub attach_begins : (i : Text) → due_for run ≡ due.Attach → MayBegin (starts_of law) p.history p.session (task.Attach i)
  attach_begins i next =
      let k = attach_next run next in (begins_in.login, begins_in.stays, attached_now ∙ unattached_runs run.attached (command.Attach k.0) refl k.2)

  pub detach_begins : due_for run ≡ due.Detach → MayBegin (starts_of law) p.history p.session task.Detach
  detach_begins next = (begins_in.login, begins_in.stays, attached_now ∙ detaches_attached run.attached (detach_next run next).1)

module _ (law : JcrLaw) (p : Shown) (run : SessionRun) (stands : Stands law p run) where
  pub refresh_asked : due_for run ≡ due.Refresh → IsAskedOf (asks_of law) p.history p.session task.Refresh
  refresh_asked next e appends = by e appends
    where
      k : (keep : Bool) × (slice_get run.commands run.index ≡ Some (command.Refresh keep)) × (is_allowed run.attached (command.Refresh keep) ≡ true)
      k = refresh_next run next

      by : (e : Event) → Appends task.Refresh e → IsAskedAt law p.session (next_index p.history.past p.session) e
      by (event.Refresh t v) m = (command.Refresh k.0, next_is law p run stands ∙ k.1, refl, tt)
      by e m = absurd m

  pub attach_asked : (target : Target) → IsTargetNext run target → IsAskedOf (asks_of law) p.history p.session (task.Attach target.id)
  attach_asked target is e appends = by e appends
    where
      by : (e : Event) → Appends (task.Attach target.id) e → IsAskedAt law p.session (next_index p.history.past p.session) e
      by (event.Attach t id) m = (command.Attach is.id, next_is law p run stands ∙ is.next, refl, m ∙ is.target.named)
      by (event.Went t kind.Settings) m = (command.Attach is.id, next_is law p run stands ∙ is.next, refl, tt)
      by e m = absurd m

  pub detach_asked : due_for run ≡ due.Detach → IsAskedOf (asks_of law) p.history p.session task.Detach
  detach_asked next e appends = by e appends
    where
      by : (e : Event) → Appends task.Detach e → IsAskedAt law p.session (next_index p.history.past p.session) e
      by (event.Refresh t v) m = (command.Detach, next_is law p run stands ∙ (detach_next run next).0, refl, tt)
      by (event.Detach t) m = (command.Detach, next_is law p run stands ∙ (detach_next run next).0, refl, tt)
      by e m = absurd m

-- ---- the base has moved

-- the session stands where it answers with that
moved_is : (law : JcrLaw) (new : Shown) (run : SessionRun) (held : Held) (m : Command) (c : Call) (v : RevVec) (b : IsBased law new run c v) → new.work ≡ Idle → run.fetch ≡ None → slice_get run.commands run.index ≡ Some m
    → Holds (call_moved c v b.tree) held → is_moving (due_for run) ≡ true → is_attached new.history.past new.session ≡ is_attaching (due_for run)
    → SaysBy law new.history new.session run.index (answer_text (ShowsVector v)) → HasRoom new.room VECTOR_REPLY_BYTES
    → StandsAt law new (record run { held = held; phase = phase.Moved v }) (phase.Moved v)
moved_is law new run held m c v b idle unread next holds moves stands says place = (
  b.inside,
  record {
    idle = idle;
    command = m;
    call = call_moved c v b.tree;
    for = record { unread = unread; next = next; is = b.called; holds = holds; fresh = b.fresh };
    moves = moves;
    unpinned = b.unpinned;
    stands = stands;
    says = says;
    eight = b.eight;
    place = place;
  },
)

module _ (law : JcrLaw) (old mid new : Shown) (room : Option ℕ) (run : SessionRun) (stands : Stands law old run) (between : run.phase ≡ phase.Between) (unread : run.fetch ≡ None) where
  abbrev here : IsBetweenCommands law old run
  here = (at_between law old run stands between).1

  abbrev Waits : Task → Type 0
  Waits t = OthersAlone (starts_of law) (says_of law) old mid (Starting t) room

  abbrev MakesStep : StepOut → Type 0
  MakesStep answer = Steps (starts_of law) (says_of law) mid new answer

  abbrev Moves : RevVec → Held → Type 0
  Moves v held = (c : Call) (t : Nodes) → Holds c run.held → IsTree t → Holds (call_moved c v t) held

  -- the session is attached to no checkpoint behind a move to the head
  detached_at : (t : Task) (answer : StepOut) (v : RevVec) (waits : Waits t) (steps : MakesStep answer) → steps.own ≡ event.Refresh mid.session v ∷ [] → is_attached new.history.past new.session ≡ false
  detached_at t answer v waits steps mine =
      by_event law old mid new t answer room run stands between waits steps (event.Refresh mid.session v) mine (λ h n. is_attached h.past n ≡ false)
      (ap (λ b. cond b false (is_attached (steps.others ++ mid.history.past) mid.session)) (own mid.session))

  -- ---- for a refresh

  pub moves_base : (pin : Pin) → due_for run ≡ due.Refresh → HasRoom room VECTOR_REPLY_BYTES → Waits task.Refresh → MakesStep (out.Ready (end.Pinned pin)) → (held : Held) → Moves pin.base held
      → HasCounted law old new run (record run { held = held; phase = phase.Moved pin.base }) (turn.Stepped kind.Pin)
  moves_base pin next place waits steps held holds =
      let answer = out.Ready (end.Pinned pin) in
      let inside = (at_between law old run stands between).0 in
      let k = refresh_next run next in
      let m = made law old mid new task.Refresh answer room inside waits steps in
      let e = event.Refresh mid.session pin.base in
      let b = refreshed_base law old mid new task.Refresh answer room run stands between waits steps pin.base m.0 in
      let behind = steps.others ++ mid.history.past in
      first_turn law old mid new task.Refresh answer room run stands between waits steps e m.0 unread kind.Pin (command.Refresh k.0) (kind.Pin ∷ []) (record run { held = held; phase = phase.Moved pin.base })
      refl (of_step law old mid new task.Refresh answer room inside waits steps) refl tt refl k.1 refl refl refl refl refl
      (moved_is law new run held (command.Refresh k.0) here.call pin.base b m.1 unread k.1 (holds here.call b.tree here.holds b.tree_is) (ap is_moving next)
      (detached_at task.Refresh answer pin.base waits steps m.0 ∙ sym (ap is_attaching next))
      (says_event law old mid new task.Refresh answer room run stands between waits steps e m.0 (command.Refresh k.0) k.1 k.2 refl (answer_text (ShowsVector pin.base))
      (refreshed k.0 pin.base (ap (λ b. cond b (Some pin.base) (refreshed_since behind mid.session)) (own mid.session))))
      (subst (λ (x : Option ℕ). HasRoom x VECTOR_REPLY_BYTES) (sym (steps.room ∙ waits.room_is)) place))

  -- ---- for an attach

  module _ (target : Target) (is : IsTargetNext run target) (next : due_for run ≡ due.Attach) (place : HasPlace room (string_bytes target.missing)) (waits : Waits (task.Attach target.id)) where
    allowed : is_allowed run.attached (command.Attach is.id) ≡ true
    allowed = (allowed_due run.attached (command.Attach is.id) due.Attach (sym (due_at run (command.Attach is.id) is.next) ∙ next) refl).0

    pub attaches : (pin : Pin) → MakesStep (out.Ready (end.Set (Some pin))) → (held : Held) → Moves pin.base held
        → HasCounted law old new run (record run { held = held; phase = phase.Moved pin.base }) (turn.Stepped kind.Settings)
    attaches pin steps held holds =
        let t = task.Attach target.id in
        let answer = out.Ready (end.Set (Some pin)) in
        let inside = (at_between law old run stands between).0 in
        let m = made law old mid new t answer room inside waits steps in
        let e = event.Attach mid.session target.id in
        let b = attached_base law old mid new t answer room run stands between waits steps target.id pin.base m.0 m.1 in
        let behind = steps.others ++ mid.history.past in
        first_turn law old mid new t answer room run stands between waits steps e m.1 unread kind.Settings (command.Attach is.id) (kind.Settings ∷ []) (record run { held = held; phase = phase.Moved pin.base })
        refl (of_step law old mid new t answer room inside waits steps) refl tt refl is.next refl refl refl refl refl
        (moved_is law new run held (command.Attach is.id) here.call pin.base b m.2 unread is.next (holds here.call b.tree here.holds b.tree_is) (ap is_moving next)
        (attached_at t answer target.id waits steps m.1 ∙ sym (ap is_attaching next))
        (says_event law old mid new t answer room run stands between waits steps e m.1 (command.Attach is.id) is.next allowed refl (answer_text (ShowsVector pin.base))
        (attached is.id pin.base
        (subst (λ (i : Text). Contains (since (event.Attach mid.session target.id ∷ behind) mid.session) (event.Attach mid.session i)) is.target.named
        (first_of (event.Attach mid.session target.id) (since behind mid.session)))
        (based_attached law old mid new t answer room run stands between waits steps target.id pin.base m.0 m.1)))
        (subst (λ (x : Option ℕ). HasRoom x VECTOR_REPLY_BYTES) (sym (steps.room ∙ waits.room_is)) place.told))
      where
        attached_at : (t : Task) (answer : StepOut) (id : Text) (waits : Waits t) (steps : MakesStep answer) → steps.own ≡ event.Attach mid.session id ∷ [] → is_attached new.history.past new.session ≡ true
        attached_at t answer id waits steps mine =
            by_event law old mid new t answer room run stands between waits steps (event.Attach mid.session id) mine (λ h n. is_attached h.past n ≡ true)
            (ap (λ b. cond b true (is_attached (steps.others ++ mid.history.past) mid.session)) (own mid.session))

    -- there is no such checkpoint
    pub misses : MakesStep (out.Ready end.NoCheckpoint) → HasCounted law old new run (record run { phase = phase.Told (told.Text target.missing) }) (turn.Stepped kind.Settings)
    misses steps =
        let t = task.Attach target.id in
        let answer = out.Ready end.NoCheckpoint in
        let inside = (at_between law old run stands between).0 in
        let m = made law old mid new t answer room inside waits steps in
        let e = event.Went mid.session kind.Settings in
        let l = looked_on law old mid new t answer room run stands between waits steps m.1 in
        let behind = steps.others ++ mid.history.past in
        first_turn law old mid new t answer room run stands between waits steps e m.1 unread kind.Settings (command.Attach is.id) (kind.Settings ∷ []) (record run { phase = phase.Told (told.Text target.missing) })
        refl (of_step law old mid new t answer room inside waits steps) refl tt refl is.next refl refl refl refl refl (
          l.inside,
          record {
            idle = m.2;
            command = command.Attach is.id;
            call = here.call;
            for = record { unread = unread; next = is.next; is = l.called; holds = here.holds; fresh = l.fresh };
            tells = ap is_told_for next;
            unmoved = l.unmoved;
            by = tt;
            says = says_event law old mid new t answer room run stands between waits steps e m.1 (command.Attach is.id) is.next allowed refl (string_bytes target.missing)
                (subst (λ (x : Text). MaySay law (record mid.history { past = e ∷ behind }) mid.session (Allowed (command.Attach is.id)) x) (sym is.target.told)
                (unattached is.id
                (missed_came behind mid.session is.id (subst (λ (i : Text). kept_checkpoint behind i ≡ None) is.target.named m.0))
                (unmoved_then law old mid new t answer room run stands between waits steps)));
            cursor = cursor_refused new.history.past new.session (string_bytes target.missing) false here.call (command.Attach is.id)
                (ap is_ok_text is.target.told ∙ refused_text (no_checkpoint is.id)) l.cursor;
            place = subst (λ (x : Option ℕ). HasPlace x (string_bytes target.missing)) (sym (steps.room ∙ waits.room_is)) place;
            eight = tt;
          },
        )

  -- ---- for a detach

  pub detaches : due_for run ≡ due.Detach → HasRoom room VECTOR_REPLY_BYTES → run.held.is_kept ≡ false → Waits task.Detach → (k : StepKind) → MakesStep (out.Went k)
      → HasCounted law old new run (record run { phase = phase.Detaching }) (turn.Stepped kind.Pin)
  detaches next place settled waits k steps =
      let t = task.Detach in
      let answer = out.Went k in
      let inside = (at_between law old run stands between).0 in
      let d = detach_next run next in
      let m = made law old mid new t answer room inside waits steps in
      let v = m.0 in
      let e = event.Refresh mid.session v in
      let by = by_event law old mid new t answer room run stands between waits steps e m.2 in
      let b = refreshed_base law old mid new t answer room run stands between waits steps v m.2 in
      let behind = steps.others ++ mid.history.past in
      first_turn law old mid new t answer room run stands between waits steps e m.2 unread kind.Pin command.Detach (kind.Pin ∷ []) (record run { phase = phase.Detaching })
      refl (subst (λ (x : StepKind). is_appended_by (after steps.others mid.history) mid.session x (reverse steps.own) ≡ true) m.1 (of_step law old mid new t answer room inside waits steps)) refl tt refl d.0 refl refl refl refl refl (
        b.inside,
        record {
          vector = v;
          works = m.3;
          half = record {
            unread = unread;
            command = command.Detach;
            next = d.0;
            detaches = next;
            fresh = b.fresh;
            call = here.call;
            holds = here.holds;
            settled = settled;
            tree = b.tree;
            tree_is = b.tree_is;
            is = b.called;
            unpinned = b.unpinned;
            stands = detached_at t answer v waits steps m.2;
            moved = by (λ h n. refreshed_since h.past n ≡ Some v) (ap (λ b. cond b (Some v) (refreshed_since behind mid.session)) (own mid.session));
            whole = by (λ h n. detached_among (since h.past n) n ≡ None) (undetached behind mid.session (unmoved_then law old mid new t answer room run stands between waits steps));
            eight = b.eight;
            place = subst (λ (x : Option ℕ). HasRoom x VECTOR_REPLY_BYTES) (sym (steps.room ∙ waits.room_is)) place;
          };
        },
      )

-- ---- the second step of a detach

-- it is to be made
pub detaching_busy : (law : JcrLaw) (p : Shown) (run : SessionRun) → Stands law p run → run.phase ≡ phase.Detaching → IsAtRest p.work → ⊥
detaching_busy law p run stands detaching rests =
    let half : IsIn law p run.attached × IsDetaching law p run = subst (λ (f : Phase). StandsAt law p run f) detaching stands.at in
    subst (λ (w : Work). IsAtRest w) half.1.works rests

quiet_detach : (s : ℕ) → IsQuiet s (event.Detach s ∷ [])
quiet_detach s = record { left = λ q. refl; next = λ q. refl; attached = λ q. refl; begins = λ q. refl; calls = refl; draws = λ q. refl; pins = λ q h. h; cursor = λ q h. refl }

module _ (law : JcrLaw) (old new : Shown) (answer : StepOut) (run : SessionRun) (stands : Stands law old run) (detaching : run.phase ≡ phase.Detaching) (steps : Steps (starts_of law) (says_of law) old new answer) where
  abbrev halfway : IsIn law old run.attached × IsDetaching law old run
  halfway = subst (λ (f : Phase). StandsAt law old run f) detaching stands.at

  abbrev half : IsHalfDetached law old run halfway.1.vector
  half = halfway.1.half

  abbrev v : RevVec
  v = halfway.1.vector

  abbrev s : ℕ
  s = old.session

  abbrev moment : History
  moment = after steps.others old.history

  makes_half : Makes moment s (Detaching v) answer steps.own new.work
  makes_half = subst (λ (w : Work). Makes moment s w answer steps.own new.work) halfway.1.works steps.makes

  pub detach_comes : IsPinAnswer answer
  detach_comes = by answer makes_half
    where
      by : (a : StepOut) → Makes moment s (Detaching v) a steps.own new.work → IsPinAnswer a
      by (out.Ready (end.Pinned pin)) m = tt
      by out.Memory m = tt
      by a m = absurd m

  pub detaching_settled : run.held.is_kept ≡ false
  detaching_settled = half.settled

  -- it is made
  module _ (pin : Pin) (is : answer ≡ out.Ready (end.Pinned pin)) (held : Held) (holds : (c : Call) (t : Nodes) → Holds c run.held → IsTree t → Holds (call_moved c pin.base t) held) where
    made_it : Makes moment s (Detaching v) (out.Ready (end.Pinned pin)) steps.own new.work
    made_it = subst (λ (a : StepOut). Makes moment s (Detaching v) a steps.own new.work) is makes_half

    told_it : AreOfStep moment s (Detaching v) (out.Ready (end.Pinned pin)) steps.own
    told_it = subst (λ (a : StepOut). AreOfStep moment s (Detaching v) a steps.own) is (subst (λ (w : Work). AreOfStep moment s w answer steps.own) halfway.1.works steps.of_step)

    mine : steps.own ≡ event.Detach s ∷ []
    mine = made_it.1

    quiet : IsQuiet s steps.own
    quiet = quiet_by s steps.own (event.Detach s ∷ []) mine (quiet_detach s)

    waited : IsBeside law old (record old { history = moment })
    waited = record { others = steps.others; grows = record { grown = refl; theirs = steps.grows.theirs; run = run_moment law old new answer run stands halfway.0 steps }; session = refl; beside = refl; alone = steps.alone }

    abbrev half_then : IsHalfDetached law (record old { history = moment }) run v
    half_then = half_beside law old (record old { history = moment }) waited halfway.0.nodes run v refl half

    by_detach : (F : History → ℕ → Type 0) → F (record old.history { past = event.Detach s ∷ moment.past }) s → F new.history new.session
    by_detach F x = moved law old new answer run stands halfway.0 steps F (subst (λ (p : Past). F (after p moment) s) (sym mine) x)

    called_then : call_of law old.history.begin (event.Detach s ∷ moment.past) s ≡ Some (call_moved half.call v half.tree)
    called_then = call_stays law old.history.begin (starts_of law) (says_of law) old.history.clusters old.history.sessions halfway.0.nodes (event.Detach s ∷ []) moment.past s
        (subst (λ (p : Past). IsRun (starts_of law) (says_of law) (after p moment)) mine (run_new law old new answer run stands halfway.0 steps)) refl ∙ half_then.is

    d : (slice_get run.commands run.index ≡ Some command.Detach) × (is_allowed run.attached command.Detach ≡ true)
    d = detach_next run half.detaches

    abbrev run_now : SessionRun
    run_now = record run { held = held; phase = phase.Moved pin.base }

    at_moved : (w : RevVec) → w ≡ v → IsBaseMoved law new (record run { held = held; phase = phase.Moved w }) w
    at_moved w same = subst (λ (x : RevVec). IsBaseMoved law new (record run { held = held; phase = phase.Moved x }) x) (sym same) record {
      idle = made_it.2;
      command = command.Detach;
      call = call_moved half.call v half.tree;
      for = record {
        unread = half.unread;
        next = d.0;
        is = by_detach (λ h n. call_of law h.begin h.past n ≡ Some (call_moved half.call v half.tree)) called_then;
        holds = subst (λ (x : RevVec). Holds (call_moved half.call x half.tree) held) made_it.0 (holds half.call half.tree half.holds half.tree_is);
        fresh = by_detach (λ h n. IsFresh h.past n) record {
          first = half_then.fresh.first;
          idle = among_same moment.past (event.Detach s) (λ r. refl) moment.past s ∙ half_then.fresh.idle;
        };
      };
      moves = ap is_moving half.detaches;
      unpinned = by_detach (λ h n. is_unpinned h.past n ≡ true) half_then.unpinned;
      stands = by_detach (λ h n. is_attached h.past n ≡ is_attaching (due_for run)) (half_then.stands ∙ sym (ap is_attaching half.detaches));
      says = by_detach (λ h n. SaysBy law h n run.index (answer_text (ShowsVector v))) (
        command.Detach,
        ap (λ (n : ℕ). command_at law n run.index) stands.session ∙ (stands.commands run.index ∙ d.0),
        subst (λ (x : Asked). MaySay law (record old.history { past = event.Detach s ∷ moment.past }) s x (answer_text (ShowsVector v)))
            (sym (asked_allowed (record old.history { past = event.Detach s ∷ moment.past }) s run.attached command.Detach
            (inside_moment law old new answer run stands halfway.0 steps).began d.1))
            (detached v (ap (λ b. cond b (refreshed_among (since moment.past s) s) (detached_among (since moment.past s) s)) (own s) ∙ half_then.moved)),
      );
      eight = half.eight;
      place = subst (λ (x : Option ℕ). HasRoom x VECTOR_REPLY_BYTES) (sym steps.room) half.place;
    }

    order_it : AreInStageOrder law old new run run_now (turn.Stepped kind.Settings)
    order_it = inside_order law old new run run_now kind.Settings halfway.0.login (Some command.Detach) (next_is law old run stands ∙ d.0) record {
      place = 1;
      kinds = kind.Settings ∷ [];
      there = refl;
      among = refl;
      behind = subst (λ (n : ℕ). n ≤ 1) (sym (ap (λ (f : Phase). stage_at f old.work) detaching)) (let le : 1 ≤ 1 = omega arith in le);
      before = let le : 1 ≤ 1 = omega arith in le;
    }

    pub leaves_checkpoint : HasCounted law old new run (record run { held = held; phase = phase.Moved pin.base }) (turn.Stepped kind.Settings)
    leaves_checkpoint = turned_with law old new answer run stands halfway.0 steps held (phase.Moved pin.base) (turn.Stepped kind.Settings)
        (told_it, inl (event.Detach s, mine, refl))
        record {
          stays = (inside_moment law old new answer run stands halfway.0 steps).stays;
          seen = unawaited moment old.work (ap is_awaiting halfway.1.works);
          as_due = steps.as_due;
          quiet = λ still. subst (λ (p : Past). is_by_due None p ≡ true) (sym mine) refl;
          ended = subst (λ (p : Past). HasAwaited moment.past p new.work) (sym mine) tt;
        }
        order_it (quiet.next moment.past) (inside_quiet law old new answer run stands halfway.0 steps quiet, at_moved pin.base made_it.0)

  -- memory was refused for it
  module _ (memory : answer ≡ out.Memory) where
    refused_it : (steps.own ≡ []) × (new.work ≡ Idle)
    refused_it = subst (λ (a : StepOut). Makes moment s (Detaching v) a steps.own new.work) memory makes_half

    pub half_beside_it : IsBeside law old new
    half_beside_it = record {
      others = steps.others;
      grows = subst (λ (p : Past). Grows (starts_of law) (says_of law) s old.history new.history steps.others p) refused_it.0 steps.grows;
      session = steps.session;
      beside = steps.beside;
      alone = steps.alone;
    }

    pub stays_half : MayStayHalf law new run
    stays_half = record {
      inside = in_beside law old new half_beside_it halfway.0.nodes halfway.0;
      session = steps.session ∙ stands.session;
      few = stands.few;
      commands = stands.commands;
      index = stands.index ∙ (ap (next_index old.history.past) (sym stands.session) ∙ (sym (next_beside law old new half_beside_it) ∙ ap (next_index new.history.past) (steps.session ∙ stands.session)));
      idle = refused_it.1;
      vector = v;
      half = half_beside law old new half_beside_it halfway.0.nodes run v steps.room half;
    }

    -- and that is its turn
    pub half_turns : (later : JcrLaw) → later ≡ law → (newer : Shown) (now : SessionRun) (t : Turn) → IsReply t → HasCounted later new newer run now t → HasCounted law old newer run now t
    half_turns later same newer now t reply turned =
        replied_later law old new newer run now t halfway.0.nodes half_beside_it (ap is_revision_written refused_it.1) (ap is_awaiting halfway.1.works) reply
        (subst (λ (l : JcrLaw). HasCounted l new newer run now t) same turned)

-- ---- a detach that stays half made

module _ (law : JcrLaw) (p : Shown) (run : SessionRun) (may : MayStayHalf law p run) where
  abbrev c : Call
  c = call_moved may.half.call may.vector may.half.tree

  -- where the pin is
  pub half_pin : (o : Option Pin) (pin : Pin) → o ≡ Some pin → (Rattle.oak_machine.specs.Sessions.has_left p.history.past p.session ≡ false → option_map (λ x. x.base) o ≡ base_of p.history.past p.session) → pin.base ≡ may.vector
  half_pin o pin is told =
      ap (λ (x : Option RevVec). unwrap_or x pin.base)
      (sym (ap (option_map (λ (x : Pin). x.base)) is) ∙ (told may.inside.stays ∙ call_has_base law p.history.begin p.history.past p.session c may.half.is))

  pub half_pinned : {A : Type 0} (o : Option Pin) → o ≡ None → (Rattle.oak_machine.specs.Sessions.has_left p.history.past p.session ≡ false → option_map (λ x. x.base) o ≡ base_of p.history.past p.session) → A
  half_pinned o none told = absurd (false≢true (ap is_some (sym (ap (option_map (λ (x : Pin). x.base)) none) ∙ (told may.inside.stays ∙ call_has_base law p.history.begin p.history.past p.session c may.half.is))))

  pub half_next : is_some (slice_get run.commands run.index) ≡ true
  half_next = ap is_some may.half.next

  pub half_room : HasRoom p.room COMMIT_REPLY_BYTES
  half_room = room_less p.room VECTOR_REPLY_BYTES COMMIT_REPLY_BYTES (let le : 40 ≤ 292 = omega arith in le) may.half.place

  -- what is held there
  pub half_holds : (v : RevVec) (held : Held) → v ≡ may.vector → ((x : Call) (t : Nodes) → Holds x run.held → run.held.is_kept ≡ false → IsTree t → Holds (call_moved x v t) held) → Holds (call_moved may.half.call may.vector may.half.tree) held
  half_holds v held same moves = subst (λ (x : RevVec). Holds (call_moved may.half.call x may.half.tree) held) same (moves may.half.call may.half.tree may.half.holds may.half.settled may.half.tree_is)

  asked_half : IsAsked law p run may.half.command c
  asked_half = record {
    inside = may.inside;
    session = may.session;
    few = may.few;
    commands = may.commands;
    index = may.index;
    rests = rest_idle p.session p.work may.idle;
    unread = may.half.unread;
    still = may.half.fresh.idle;
    next = may.half.next;
    call = may.half.is;
  }

  says_half : SaysBy law p.history p.session run.index memory_text
  says_half = (
    command.Detach,
    ap (λ (n : ℕ). command_at law n run.index) may.session ∙ (may.commands run.index ∙ (detach_next run may.half.detaches).0),
    subst (λ (x : Asked). MaySay law p.history p.session x memory_text)
        (sym (asked_allowed p.history p.session run.attached command.Detach may.inside.began (detach_next run may.half.detaches).1))
        (half_detached may.vector may.half.fresh.idle may.half.moved may.half.whole),
  )

  -- want of memory is answered there, and the session is attached to no checkpoint
  pub half_answers : (held : Held) (settled now : SessionRun) → Holds (call_moved may.half.call may.vector may.half.tree) held → Settles (record run { held = held }) settled false false None → now ≡ record settled { attached = false } → MayAnswer law p now memory_text
  half_answers held settled now holds settles same =
      let index : now.index ≡ run.index = ap (λ (r : SessionRun). r.index) same ∙ ap (λ (r : SessionRun). r.index) settles.same in record {
        began = run.attached;
        command = may.half.command;
        call = c;
        asked = asked_like law may.half.command c p run (record now { attached = run.attached })
            (ap (λ (r : SessionRun). r.session) same ∙ ap (λ (r : SessionRun). r.session) settles.same)
            (ap (λ (r : SessionRun). r.commands) same ∙ ap (λ (r : SessionRun). r.commands) settles.same)
            index
            (ap (λ (r : SessionRun). r.fetch) same ∙ ap (λ (r : SessionRun). r.fetch) settles.same)
            refl asked_half;
        says = subst (λ (i : ℕ). SaysBy law (history_told p) p.session i memory_text) (sym index)
            (says_idle law p run may.half.command c asked_half may.idle memory_text says_half);
        leaves = subst (λ (h : Held). Holds (call_after (is_ok_text memory_text) (has_drawn p) c may.half.command) h) (sym (ap (λ (r : SessionRun). r.held) same))
            (settled_leaves law p (record run { held = held }) settled false false None settles may.half.command c memory_text may.half.next holds (λ ok. absurd (false≢true ok))
            (answer_accepts (Refused 16 [])) (ap is_some may.half.fresh.first));
        stands = may.half.stands ∙ sym (ap (λ (r : SessionRun). r.attached) same);
        cursor = cursor_refused p.history.past p.session memory_text (has_drawn p) c may.half.command (answer_accepts (Refused 16 []))
            (may.inside.cursor c may.half.is may.half.unpinned);
      }
