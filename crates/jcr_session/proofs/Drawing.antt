-- A session begins to commit.
use Rattle.std.proofs.Common.{◌≡◌, inl, ℕ, ◌≤◌, Bool, true, false, cond, Some, None, Option, List, [], ◌∷◌, ◌++◌, is_some, Result, ◌<◌, length, arith, refl, sym, ap, ◌∙◌, subst}
use Rattle.std.specs.Prelude.{◌==◌, reverse, slice_get}
use Rattle.std.specs.Option.{option_map_or}
use mathlib.Core.Bool.{false≢true}
use Rattle.jr_rev.specs.declared.revision.Revision.{Revision}
use Rattle.jr_rev.proofs.Order.{same_revision}
use Rattle.jr_tree.specs.declared.edit.Edit.{Edit}
use Rattle.jr_tree.specs.declared.edit.Write.{Write}
use Rattle.jr_tree.specs.declared.shared.Who.{Who}
use Rattle.jr_tree.specs.Edits.{IsProper, applied}
use Rattle.jr_tree.specs.declared.shared.Refusal.{Refusal}
use Rattle.oak_machine.specs.declared.event.Draw.{Draw}
use Rattle.oak_machine.specs.declared.event.Event.TheVariants as event
use Rattle.oak_machine.specs.declared.event.StepKind.{StepKind}
use Rattle.oak_machine.specs.declared.event.StepKind.TheVariants as kind
use Rattle.oak_machine.specs.History.{History, Past}
use Rattle.oak_machine.specs.Commits.{is_committed}
use Rattle.oak_machine.specs.Laws.{after}
use Rattle.oak_machine.specs.Runs.{AreNodes, IsRun}
use Rattle.oak_machine.specs.Sessions.{base_of, has_left, has_login, is_attached, next_index}
use Rattle.oak_machine.specs.Steps.{is_appended_by}
use Rattle.oak_machine.proofs.Induction.{committed_is_drawn}
use Rattle.oak_port.specs.Ports.{AreOfStep, Idle, Makes, MayBegin, OthersAlone, Shown, Starting, Steps, Work, Writing}
use Rattle.oak_port.specs.declared.task.StepOut.TheVariants as out
use Rattle.oak_port.specs.declared.task.Task.TheVariants as task
use Rattle.core_heads.proofs.Runs.{fresh_run}
use Rattle.jcr_plan.specs.declared.plans.Plan.{Plan}
use Rattle.jcr_ref.specs.References.{ReferencesOk}
use Rattle.jcr_trans.specs.declared.command.Command.{Command}
use Rattle.jcr_law.specs.declared.law.JcrLaw.{JcrLaw}
use Rattle.jcr_law.specs.Lasting.{says_of, starts_of}
use Rattle.jcr_law.specs.Law.{MayStart}
use Rattle.jcr_law.specs.Since.{before_turn, draw_since, is_unmoved, is_unpinned}
use Rattle.jcr_law.specs.Makes.{commits as does_commit}
use Rattle.jcr_law.specs.Starting.{call_has_base}
use Rattle.jcr_law.specs.State.{Call, call_of, command_at}
use Rattle.jcr_call.specs.declared.coming.Coming.TheVariants as coming
use Rattle.core_calls.specs.Seeing.{SeesTrees, SeesTyped}
use Rattle.core_calls.proofs.Called.{call_stays}
use Rattle.core_calls.proofs.Unmoved.{attached_stands}
use Rattle.jcr_run.specs.declared.next.Due.TheVariants as due
use Rattle.jcr_run.specs.declared.run.Pledge.{Pledge}
use Rattle.jcr_run.specs.declared.run.Phase.{Phase}
use Rattle.jcr_run.specs.declared.run.Phase.TheVariants as phase
use Rattle.jcr_run.specs.declared.run.SessionRun.{SessionRun}
use Rattle.jcr_run.specs.declared.turn.Turn.TheVariants as turn
use Rattle.jcr_run.specs.Asked.{ComesNext, IsAsked, MayForgo}
use Rattle.jcr_session.specs.Begins.{MayDrawFor}
use Rattle.jcr_run.specs.Standing.{HasDrawnFor, HasCounted, IsBeside, IsCalled, IsCommitting, IsFresh, IsIn, AreInStageOrder, IsPlace, IsPrepared, IsTurned, KeepsCursor, Stands, StandsAt, due_for, due_to, is_allowed, is_revision_written, stage_at, stage_of}
use Rattle.jcr_run.specs.Standing.{is_events, reads_for}
use Rattle.jcr_run.proofs.Readying.{ready_by}
use Rattle.jcr_run.proofs.Committing.{committing_drawn, own as same_number}
use Rattle.jcr_run.proofs.Lawful.{asked_allowed, at_between, between_asked, called_typed}
use Rattle.jcr_run.proofs.Cursors.{cursor_of_call, has_cursor_over}
use Rattle.jcr_run.proofs.Nexts.{allowed_due, commits_due, commits_forbidden, due_at, next_due, unattached_runs}
use Rattle.jcr_run.proofs.Stages.{commit_order, next_later}
use Rattle.jcr_run.proofs.Starting.{some_is}
use Rattle.jcr_run.proofs.Saying.{asked_like, asked_waits, drawn_waits, get_within}
use Rattle.jcr_run.proofs.Telling.{rest_idle}
use Rattle.jcr_run.proofs.Turning.{is_awaiting, not_ended, plain_step, started, turned_later}
use Rattle.jcr_run.proofs.Waiting.{by_waits, called_beside, in_beside, next_beside, unmoved_beside, unpinned_beside}

-- by a law that stays the plan may still be drawn for
pub draws_law : (law later : JcrLaw) → later ≡ law → (p : Shown) (run : SessionRun) (plan : Plan) → MayDrawFor law p run plan → MayDrawFor later p run plan
draws_law law later laws p run plan may = subst (λ (l : JcrLaw). MayDrawFor l p run plan) (sym laws) may

-- a command for which a commit is due may be run
pub commit_allowed : (run : SessionRun) (m : Command) → slice_get run.commands run.index ≡ Some m → due_for run ≡ due.Commit → is_allowed run.attached m ≡ true
commit_allowed run m next commits = (allowed_due run.attached m due.Commit (sym (due_at run m next) ∙ commits) refl).0

-- and it commits
pub commit_commits : (run : SessionRun) (m : Command) → slice_get run.commands run.index ≡ Some m → due_for run ≡ due.Commit → does_commit m ≡ true
commit_commits run m next commits = commits_due m (allowed_due run.attached m due.Commit (sym (due_at run m next) ∙ commits) refl).1

-- so the session isn't attached to a checkpoint
pub commit_detached : (run : SessionRun) (m : Command) → slice_get run.commands run.index ≡ Some m → due_for run ≡ due.Commit → run.attached ≡ false
commit_detached run m next commits = unattached_runs run.attached m (commits_forbidden m (commit_commits run m next commits)) (commit_allowed run m next commits)

-- ---- what a plan lets begin

module _ (law : JcrLaw) (p : Shown) (run : SessionRun) (stands : Stands law p run) (between : run.phase ≡ phase.Between) (ready : IsPrepared run) (commits : due_for run ≡ due.Commit) (plan : Plan) (kept : Pledge) (comes : ComesNext run (coming.Planned plan kept.accepted)) where
  abbrev m : (m : Command) × (slice_get run.commands run.index ≡ Some m) × (due_to run.attached m ≡ due.Commit)
  m = next_due run due.Commit commits refl

  abbrev c : Call
  c = (at_between law p run stands between).1.call

  abbrev planned_run : SessionRun
  planned_run = record run { phase = phase.Committing kept }

  asked_planned : IsAsked law p planned_run m.0 c
  asked_planned = asked_like law m.0 c p run planned_run refl refl refl refl refl (between_asked law p run stands between m.0 m.1 ready.done)

  pub planned_forgoes : MayForgo law p planned_run false
  planned_forgoes = let here = (at_between law p run stands between).1 in record {
    command = m.0;
    call = c;
    asked = asked_planned;
    unmoved = here.unmoved;
    unpinned = here.unpinned;
    drew_is = ap is_some here.fresh.first;
    uncommitted = ap (λ (o : Option Revision). option_map_or (is_committed p.history.past) o false) here.fresh.first;
    holds = here.holds;
  }

  -- once its place is kept
  pub planned_draws : (mid : Shown) → IsBeside law p mid → mid.work ≡ Idle → IsPlace mid.room kept.accepted → kept.edit ≡ plan.edit → MayDrawFor law mid planned_run plan
  planned_draws mid beside idle place copied =
      let here = (at_between law p run stands between).1 in
      let x = comes m.0 c m.1 here.holds (called_typed law p c (at_between law p run stands between).0 here.is) in record {
        command = m.0;
        call = c;
        asked = asked_waits law m.0 c p mid planned_run asked_planned beside (rest_idle mid.session mid.work idle);
        idle = idle;
        first = drawn_waits law m.0 c p mid planned_run asked_planned beside ∙ here.fresh.first;
        unmoved = unmoved_beside law p mid beside asked_planned.inside.nodes here.unmoved;
        unpinned = unpinned_beside law p mid beside asked_planned.inside.nodes here.unpinned;
        commits = commits;
        holds = here.holds;
        settled = (ready_by run m.0 m.1 (ap reads_for commits) (ap is_events commits) ready.ready).settled;
        pledge = kept;
        phase_is = refl;
        accepts = x.comes.3;
        place = place;
        edit_is = copied;
        due = x.is_due ∙ ap (λ (d : Result (List Write) Refusal). Some d) x.comes.0;
        some = x.comes.1;
        ok = x.comes.2;
      }

-- ---- its begin

module _ (law : JcrLaw) (mid : Shown) (run : SessionRun) (plan : Plan) (may : MayDrawFor law mid run plan) where
  pub next_mid : command_at law mid.session (next_index mid.history.past mid.session) ≡ Some may.command
  next_mid =
      ap (command_at law mid.session) (ap (next_index mid.history.past) may.asked.session ∙ sym may.asked.index)
      ∙ (ap (λ (s : ℕ). command_at law s run.index) may.asked.session ∙ (may.asked.commands run.index ∙ may.asked.next))

  starts_mid : MayStart law mid.history mid.session plan.edit plan.marks
  starts_mid = record {
    command = may.command;
    call = may.call;
    next = record {
      next = next_mid;
      call = may.asked.call;
    };
    allowed = asked_allowed mid.history mid.session run.attached may.command may.asked.inside.began (commit_allowed run may.command may.asked.next may.commits);
    first = may.first;
    unmoved = may.unmoved;
    due = may.due;
    some = may.some;
    plan = may.ok;
  }

  pub draw_begins : MayBegin (starts_of law) mid.history mid.session (task.Commit plan.edit plan.marks)
  draw_begins = (
    may.asked.inside.login,
    may.asked.inside.stays,
    attached_stands mid.history.past mid.session may.unmoved ∙ (may.asked.inside.began ∙ commit_detached run may.command may.asked.next may.commits),
    starts_mid,
  )

  pub draw_forgoes : MayForgo law mid run false
  draw_forgoes = record {
    command = may.command;
    call = may.call;
    asked = may.asked;
    unmoved = may.unmoved;
    unpinned = may.unpinned;
    drew_is = ap is_some may.first;
    uncommitted = ap (λ (o : Option Revision). option_map_or (is_committed mid.history.past) o false) may.first;
    holds = may.holds;
  }

  module _ (begun new : Shown) (begins : OthersAlone (starts_of law) (says_of law) mid begun (Starting (task.Commit plan.edit plan.marks)) mid.room) (k : StepKind) (steps : Steps (starts_of law) (says_of law) begun new (out.Went k)) where
    abbrev s : ℕ
    s = begun.session

    abbrev behind : Past
    behind = steps.others ++ begun.history.past

    abbrev moment : History
    moment = after steps.others begun.history

    made : Makes moment s (Starting (task.Commit plan.edit plan.marks)) (out.Went k) steps.own new.work
    made = subst (λ (w : Work). Makes moment s w (out.Went k) steps.own new.work) begins.work_is steps.makes

    abbrev drawn : History
    drawn = record begun.history { past = event.Draw made.0 ∷ behind }

    grown : new.history ≡ drawn
    grown = steps.grows.grown ∙ ap (λ (own : Past). after own moment) made.3

    run_drawn : IsRun (starts_of law) (says_of law) drawn
    run_drawn = subst (λ (h : History). IsRun (starts_of law) (says_of law) h) grown steps.grows.run

    abbrev first_beside : IsBeside law mid begun
    first_beside = by_waits law mid begun (Starting (task.Commit plan.edit plan.marks)) mid.room begins

    in_begun : IsIn law begun run.attached
    in_begun = in_beside law mid begun first_beside may.asked.inside.nodes may.asked.inside

    abbrev waiting : Shown
    waiting = record begun { history = moment }

    waited : IsBeside law begun waiting
    waited = record { others = steps.others; grows = record { grown = refl; theirs = steps.grows.theirs; run = run_drawn.1 }; session = refl; beside = refl; alone = steps.alone }

    in_behind : IsIn law waiting run.attached
    in_behind = in_beside law begun waiting waited in_begun.nodes in_begun

    fresh_mid : IsFresh mid.history.past mid.session
    fresh_mid = record { first = may.first; idle = may.asked.still }

    fresh_behind : IsFresh behind s
    fresh_behind = Rattle.jcr_run.proofs.Waiting.fresh_beside law begun waiting waited in_begun.nodes
        (Rattle.jcr_run.proofs.Waiting.fresh_beside law mid begun first_beside may.asked.inside.nodes fresh_mid)

    unmoved_behind : is_unmoved behind s ≡ true
    unmoved_behind = unmoved_beside law begun waiting waited in_begun.nodes (unmoved_beside law mid begun first_beside may.asked.inside.nodes may.unmoved)

    unpinned_behind : is_unpinned behind s ≡ true
    unpinned_behind = unpinned_beside law begun waiting waited in_begun.nodes
        (unpinned_beside law mid begun first_beside may.asked.inside.nodes may.unpinned)

    called_behind : call_of law begun.history.begin behind s ≡ Some may.call
    called_behind = called_beside law begun waiting waited in_begun.nodes may.call (called_beside law mid begun first_beside may.asked.inside.nodes may.call may.asked.call)

    unmade : is_committed behind made.0.revision ≡ false
    unmade = by (is_committed behind made.0.revision) refl
      where
        by : (b : Bool) → is_committed behind made.0.revision ≡ b → b ≡ false
        by true h = absurd (false≢true (sym (ap is_some (fresh_run begun.history.clusters begun.history.sessions in_begun.nodes begun.history.begin (starts_of law) (says_of law) made.0 behind run_drawn).fresh)
            ∙ committed_is_drawn (starts_of law) (says_of law) begun.history.clusters begun.history.sessions begun.history.begin (λ q r same. sym (same_revision r q same)) behind made.0.revision run_drawn.1 h))
        by false h = refl

    moved : (F : History → ℕ → Type 0) → F drawn s → F new.history new.session
    moved F x = subst (λ (h : History). F h new.session) (sym grown) (subst (λ (n : ℕ). F drawn n) (sym steps.session) x)

    called_drawn : call_of law begun.history.begin (event.Draw made.0 ∷ behind) s ≡ Some may.call
    called_drawn = call_stays law begun.history.begin (starts_of law) (says_of law) begun.history.clusters begun.history.sessions in_begun.nodes (event.Draw made.0 ∷ []) behind s run_drawn refl ∙ called_behind

    in_new : IsIn law new run.attached
    in_new = record {
      nodes = moved (λ h n. AreNodes h.clusters h.sessions) in_behind.nodes;
      trees = moved (λ h n. SeesTrees law h.clusters h.sessions h.begin) in_behind.trees;
      typed = moved (λ h n. SeesTyped law h.clusters h.sessions h.begin) in_behind.typed;
      run = steps.grows.run;
      login = moved (λ h n. has_login h.past n ≡ true) in_behind.login;
      stays = moved (λ h n. has_left h.past n ≡ false) in_behind.stays;
      began = moved (λ h n. is_attached (before_turn h.past n) n ≡ run.attached) in_behind.began;
      cursor = moved (λ h n. KeepsCursor law h n)
          (cursor_of_call law drawn s may.call called_drawn
          (λ unpinned. has_cursor_over behind (event.Draw made.0 ∷ behind) s may.call refl (in_behind.cursor may.call called_behind unpinned)));
    }

    session_new : new.session ≡ run.session
    session_new = steps.session ∙ (begins.session ∙ may.asked.session)

    index_new : run.index ≡ next_index new.history.past run.session
    index_new =
        may.asked.index ∙ (ap (next_index mid.history.past) (sym may.asked.session) ∙ (sym (next_beside law mid begun first_beside)
        ∙ (sym (next_beside law begun waiting waited)
        ∙ (sym (moved (λ h n. next_index h.past n ≡ next_index behind s) refl) ∙ ap (next_index new.history.past) session_new))))

    called_new : IsCalled law new may.call
    called_new = moved (λ h n. call_of law h.begin h.past n ≡ Some may.call) called_drawn

    -- the draw is of the edit that is kept, on the base that is held
    draw_new : draw_since new.history.past new.session ≡ Some made.0
    draw_new = moved (λ h n. draw_since h.past n ≡ Some made.0) (ap (λ b. cond b (Some made.0) (draw_since behind s)) (ap (λ n. n == s) made.1.session ∙ same_number s))

    base_new : made.0.base ≡ run.held.who.base
    base_new = some_is (sym (subst (λ (n : ℕ). base_of behind n ≡ Some made.0.base) made.1.session run_drawn.0.base) ∙ call_has_base law begun.history.begin behind s may.call called_behind)
        ∙ ap (λ (w : Who). w.base) (sym may.holds.who)

    drew_new : HasDrawnFor new run may.pledge.edit
    drew_new = λ d is. subst (λ (e : Draw). (e.base ≡ run.held.who.base) × (e.edit ≡ may.pledge.edit)) (some_is (sym draw_new ∙ is)) (base_new, made.1.edit_is ∙ sym may.edit_is)

    stands_new : Stands law new run
    stands_new = record {
      nodes = in_new.nodes;
      trees = in_new.trees;
      typed = in_new.typed;
      run_is = steps.grows.run;
      session = session_new;
      few = may.asked.few;
      within = let w : run.index < length run.commands = get_within run.commands run.index may.command may.asked.next in omega arith;
      commands = may.asked.commands;
      index = index_new;
      at = subst (λ (f : Phase). StandsAt law new run f) (sym may.phase_is) (
        in_new,
        record {
          unread = may.asked.unread;
          call = may.call;
          is = called_new;
          for = record {
            command = may.command;
            next = may.asked.next;
            commits = may.commits;
            holds = may.holds;
            settled = may.settled;
            accepts = may.accepts;
            place = subst (λ (x : Option ℕ). IsPlace x may.pledge.accepted) (sym (steps.room ∙ begins.room_is)) may.place;
            proper = subst (λ (e : Edit). IsProper may.call.base e.writes) (sym may.edit_is) may.ok.proper;
            referring = subst (λ (e : Edit). ReferencesOk (applied None may.call.base e.writes)) (sym may.edit_is) may.ok.referring;
            drew = drew_new;
          };
          commits = subst (λ (w : Work). IsCommitting new.history.past new.session w) (sym made.4)
              (moved (λ h n. IsCommitting h.past n (Writing made.0.revision))
              (committing_drawn behind s made.0.revision made.0 made.1.session refl fresh_behind unmoved_behind unpinned_behind
              (subst (λ (n : ℕ). base_of behind n ≡ Some made.0.base) made.1.session run_drawn.0.base) unmade));
        },
      );
    }

    told : is_appended_by moment s kind.Draw (reverse steps.own) ≡ true
    told = subst (λ (x : StepKind). is_appended_by moment s x (reverse steps.own) ≡ true) made.2
        (subst (λ (w : Work). AreOfStep moment s w (out.Went k) steps.own) begins.work_is steps.of_step)

    none_behind : stage_at run.phase begun.work ≡ 0
    none_behind = ap (λ (f : Phase). stage_at f begun.work) may.phase_is ∙ ap stage_of begins.work_is

    order_new : AreInStageOrder law begun new run run (turn.Stepped kind.Draw)
    order_new = commit_order law begun new run run kind.Draw in_begun.login may.command (commit_commits run may.command may.asked.next may.commits) (next_later law mid begun first_beside ∙ next_mid) 0 (kind.Draw ∷ []) refl refl
        (subst (λ (n : ℕ). n ≤ 0) (sym none_behind) (let le : 0 ≤ 0 = omega arith in le)) (let le : 0 ≤ stage_at run.phase new.work = omega arith in le)

    draws_new : IsTurned law begun new run run (turn.Stepped kind.Draw)
    draws_new = record {
      others = steps.others;
      own = steps.own;
      grows = steps.grows;
      beside = steps.beside;
      alone = steps.alone;
      tells = (told, inl (event.Draw made.0, made.3, refl));
      made = plain_step moment begun new steps.own (event.Draw made.0 ∷ []) made.3 in_behind.stays (ap is_awaiting begins.work_is) refl tt;
      in_order = order_new;
      same = (refl, refl);
      stands = stands_new;
    }

    -- it draws, and the session is in its commit
    pub draw_turns : HasCounted law mid new run run (turn.Stepped kind.Draw)
    draw_turns = turned_later law mid begun new run run (turn.Stepped kind.Draw) may.asked.inside.nodes (started mid begun (ap is_revision_written begins.work_is) (ap is_awaiting begins.work_is) may.idle) first_beside
        (not_ended (turn.Stepped kind.Draw) refl) draws_new

  -- memory was refused for its draw
  pub record HasStopped (new : Shown) : Type 0 where
    pub beside : IsBeside law mid new
    pub idle : new.work ≡ Idle
    pub room : Rattle.oak_port.specs.Ports.HasRoom new.room Rattle.jcr_steps.specs.declared.limits.TheConstants.COMMIT_REPLY_BYTES

  pub draw_stops : (begun new : Shown) (begins : OthersAlone (starts_of law) (says_of law) mid begun (Starting (task.Commit plan.edit plan.marks)) mid.room) (answer : Rattle.oak_port.specs.declared.task.StepOut.StepOut)
      (steps : Steps (starts_of law) (says_of law) begun new answer) → answer ≡ out.Memory → HasStopped new
  draw_stops begun new begins answer steps memory =
      let made : (steps.own ≡ []) × (new.work ≡ Idle) = subst (λ (w : Work). Makes (after steps.others begun.history) begun.session w out.Memory steps.own new.work) begins.work_is
      (subst (λ (a : Rattle.oak_port.specs.declared.task.StepOut.StepOut). Makes (after steps.others begun.history) begun.session begun.work a steps.own new.work) memory steps.makes) in record {
        beside = Rattle.jcr_run.proofs.Starting.stopped_beside law mid begun new (Starting (task.Commit plan.edit plan.marks)) mid.room answer may.asked.inside.nodes begins steps made.0;
        idle = made.1;
        room = subst (λ (x : Option Rattle.std.proofs.Common.ℕ). Rattle.oak_port.specs.Ports.HasRoom x 40) (sym (steps.room ∙ begins.room_is)) may.place.told;
      }
