-- Each step of a commit leaves its session where the history says.
use Rattle.std.proofs.Common.{◌≡◌, ◌⊎◌, ◌||◌, inl, inr, ℕ, ◌≤◌, Bool, true, false, cond, None, Some, Option, List, [], ◌∷◌, ◌++◌, refl, sym, ap, ◌∙◌, subst, arith}
use Rattle.std.specs.Prelude.{reverse, slice_get}
use Rattle.std.specs.List.{list_any}
use mathlib.Core.Bool.{false≢true}
use Rattle.jr_rev.specs.declared.revision.Revision.{Revision}
use Rattle.jr_rev.specs.declared.vector.RevVec.{RevVec}
use Rattle.jr_rev.specs.Vectors.{sees}
use Rattle.oak_machine.specs.declared.event.Event.TheVariants as event
use Rattle.oak_machine.specs.declared.event.StepKind.{StepKind}
use Rattle.oak_machine.specs.declared.event.StepKind.TheVariants as kind
use Rattle.oak_machine.specs.History.{History, Past}
use Rattle.oak_machine.specs.Commits.{tree_at}
use Rattle.oak_machine.specs.Laws.{after}
use Rattle.oak_machine.specs.Runs.{AreNodes, IsRun}
use Rattle.oak_machine.specs.Sessions.{base_of, has_left, has_login, is_attached, is_login_of, next_index, refreshed_since}
use Rattle.oak_machine.specs.Steps.{is_appended_by, is_kind}
use Rattle.oak_machine.proofs.Stays.{any_later}
use Rattle.oak_port.specs.Ports.{AreOfStep, Awaiting, Collecting, Deciding, Detaching, Grows, Idle, IsAtRest, IsFinish, Learning, Makes, Passing, Publishing, Shown, Sweeping}
use Rattle.oak_port.specs.Ports.{ReadsAsDue, Starting, Steps, Telling, Undoing, Work, Writing, WritesOn, is_by_due, is_due}
use Rattle.oak_commit.specs.declared.outcome.CommitEnd.{CommitEnd}
use Rattle.oak_commit.specs.declared.outcome.CommitEnd.TheVariants as commit
use Rattle.oak_port.specs.declared.task.StepOut.{StepOut}
use Rattle.oak_port.specs.declared.task.StepOut.TheVariants as out
use Rattle.oak_port.specs.declared.task.TaskEnd.TheVariants as end
use Rattle.core_heads.proofs.Passing.{next_stays}
use Rattle.jcr_law.specs.declared.law.JcrLaw.{JcrLaw}
use Rattle.jcr_law.specs.Lasting.{says_of, starts_of}
use Rattle.jcr_law.specs.Makes.{commit_stages}
use Rattle.jcr_law.specs.Since.{before_turn, draw_since}
use Rattle.jcr_law.specs.State.{Call, call_of}
use Rattle.jcr_held.specs.declared.held.Held.{Held}
use Rattle.core_calls.specs.Seeing.{SeesTrees, SeesTyped}
use Rattle.core_calls.proofs.Called.{call_stays, refresh_call}
use Rattle.jcr_run.specs.declared.run.Pledge.{Pledge}
use Rattle.jcr_run.specs.declared.run.Phase.{Phase}
use Rattle.jcr_run.specs.declared.run.Phase.TheVariants as phase
use Rattle.jcr_run.specs.declared.run.SessionRun.{SessionRun}
use Rattle.jcr_run.specs.declared.turn.Turn.{Turn}
use Rattle.jcr_run.specs.declared.turn.Turn.TheVariants as turn
use Rattle.jcr_steps.specs.Answered.{kind_of_end}
use Rattle.jcr_session.specs.Phases.{phase_by, turn_by}
use Rattle.jcr_run.specs.Standing.{HasAwaited, HasCommitted, HasDrawnFor, HasCounted, HasLookedBack, HasTurned, IsBeside, IsCalled, IsCommitting, IsFor, IsIn, IsInCommit, AreInStageOrder, is_tidying, IsMade, IsMadeFor, IsPlace, IsSeenFor, IsStep, IsToldEnd, IsTurned, KeepsCursor, Stands, StandsAt, Tells, is_between, is_committing, is_revision_written, may_read, stage_at, stage_of}
use Rattle.jcr_run.proofs.Cursors.{cursor_moved, has_cursor_over}
use Rattle.jcr_run.proofs.Committing.{clash_end, committing_finish, committing_undo, committing_write, own, still_moved, unmade_end}
use Rattle.jcr_session.proofs.Drawing.{commit_commits}
use Rattle.jcr_run.proofs.Reading.{tree_called}
use Rattle.jcr_run.proofs.Nexts.{reads_between}
use Rattle.jcr_run.proofs.Stages.{commit_order, next_is}
use Rattle.jcr_run.proofs.Turning.{IsQuiet, Link, awaited_finish, awaited_write, due_finish, free, has_turned_later, is_awaiting, never_ends, none_read, one_finish, one_write, quiet_by, quiet_finish, quiet_write}
use Rattle.jcr_run.proofs.Waiting.{all_same, call_still, committing_still, in_beside}

-- ---- a step

module _ (law : JcrLaw) (old new : Shown) (answer : StepOut) (run : SessionRun) (stands : Stands law old run) (inside : IsIn law old run.attached) (steps : Steps (starts_of law) (says_of law) old new answer) where
  abbrev moment : History
  moment = after steps.others old.history

  pub run_new : IsRun (starts_of law) (says_of law) (after steps.own moment)
  run_new = subst (λ (h : History). IsRun (starts_of law) (says_of law) h) steps.grows.grown steps.grows.run

  pub run_moment : IsRun (starts_of law) (says_of law) moment
  run_moment = dropped steps.own moment run_new
    where
      dropped : (own : Past) (h : History) → IsRun (starts_of law) (says_of law) (after own h) → IsRun (starts_of law) (says_of law) h
      dropped [] h run = run
      dropped (e ∷ own) h run = dropped own h run.1

  pub inside_moment : IsIn law (record old { history = moment }) run.attached
  inside_moment = in_beside law old (record old { history = moment }) (record { others = steps.others; grows = record { grown = refl; theirs = steps.grows.theirs; run = run_moment }; session = refl; beside = refl; alone = steps.alone }) inside.nodes inside

  -- what holds of the history after the step holds of what is shown
  pub moved : (F : History → ℕ → Type 0) → F (after steps.own moment) old.session → F new.history new.session
  moved F x = subst (λ (h : History). F h new.session) (sym steps.grows.grown) (subst (λ (s : ℕ). F (after steps.own moment) s) (sym steps.session) x)

  login_then : has_login (steps.own ++ moment.past) old.session ≡ true
  login_then = any_later (is_login_of old.session) steps.own moment.past inside_moment.login

  -- the cursor stands where it stood
  cursor_quiet : IsQuiet old.session steps.own → KeepsCursor law (after steps.own moment) old.session
  cursor_quiet quiet c is unpinned =
      has_cursor_over moment.past (steps.own ++ moment.past) old.session c (quiet.cursor moment.past unpinned)
      (inside_moment.cursor c
      (sym (call_stays law old.history.begin (starts_of law) (says_of law) old.history.clusters old.history.sessions inside.nodes steps.own moment.past old.session run_new quiet.calls) ∙ is)
      (quiet.pins moment.past unpinned))

  pub inside_quiet : IsQuiet old.session steps.own → IsIn law new run.attached
  inside_quiet quiet = record {
    nodes = moved (λ h s. AreNodes h.clusters h.sessions) inside.nodes;
    trees = moved (λ h s. SeesTrees law h.clusters h.sessions h.begin) inside.trees;
    typed = moved (λ h s. SeesTyped law h.clusters h.sessions h.begin) inside.typed;
    run = steps.grows.run;
    login = moved (λ h s. has_login h.past s ≡ true) login_then;
    stays = moved (λ h s. has_left h.past s ≡ false) (quiet.left moment.past ∙ inside_moment.stays);
    began = moved (λ h s. is_attached (before_turn h.past s) s ≡ run.attached) (ap (λ (p : Past). is_attached p old.session) (quiet.begins moment.past) ∙ inside_moment.began);
    cursor = moved (λ h s. KeepsCursor law h s) (cursor_quiet quiet);
  }

  stands_with : (held : Held) (f : Phase) → next_index (steps.own ++ moment.past) old.session ≡ next_index moment.past old.session → StandsAt law new (record run { held = held; phase = f }) f → Stands law new (record run { held = held; phase = f })
  stands_with held f next at = record {
    nodes = moved (λ h s. AreNodes h.clusters h.sessions) inside.nodes;
    trees = moved (λ h s. SeesTrees law h.clusters h.sessions h.begin) inside.trees;
    typed = moved (λ h s. SeesTyped law h.clusters h.sessions h.begin) inside.typed;
    run_is = steps.grows.run;
    session = steps.session ∙ stands.session;
    few = stands.few;
    commands = stands.commands;
    index = stands.index ∙ sym (moved (λ h s. next_index h.past run.session ≡ next_index old.history.past run.session)
        (subst (λ (s : ℕ). next_index (steps.own ++ moment.past) s ≡ next_index old.history.past s) stands.session
        (next ∙ next_stays moment.past steps.others old.history.past old.session steps.grows.theirs)));
    within = stands.within;
    at = at;
  }

  pub stands_quiet : (f : Phase) → next_index (steps.own ++ moment.past) old.session ≡ next_index moment.past old.session → StandsAt law new (record run { phase = f }) f → Stands law new (record run { phase = f })
  stands_quiet f next at = stands_with run.held f next at

  -- the step is a turn, behind which this is held
  pub turned_with : (held : Held) (f : Phase) (t : Turn) → Tells moment old.session run.index t steps.own → IsMade moment old new
      (record run { held = held; phase = f }) steps.own t → AreInStageOrder law old new run (record run { held = held; phase = f }) t → next_index
      (steps.own ++ moment.past) old.session ≡ next_index moment.past old.session → StandsAt law new (record run { held = held; phase = f }) f
      → IsTurned law old new run (record run { held = held; phase = f }) t
  turned_with held f t tells made order next at = record { others = steps.others; own = steps.own; grows = steps.grows; beside = steps.beside; alone = steps.alone; tells = tells; made = made; in_order = order; same = (refl, refl); stands = stands_with held f next at }

  pub turned_quiet : (f : Phase) (t : Turn) → Tells moment old.session run.index t steps.own → IsMade moment old new
      (record run { phase = f }) steps.own t → AreInStageOrder law old new run (record run { phase = f }) t → next_index
      (steps.own ++ moment.past) old.session ≡ next_index moment.past old.session → StandsAt law new (record run { phase = f }) f
      → IsTurned law old new run (record run { phase = f }) t
  turned_quiet f t tells made order next at = turned_with run.held f t tells made order next at

  -- ---- a step of a commit

  module _ (a : Pledge) (commits : run.phase ≡ phase.Committing a) where
    at_commit : IsInCommit law old run a
    at_commit = (subst (λ (f : Phase). StandsAt law old run f) commits stands.at).1

    abbrev c : Call
    c = at_commit.call

    -- by what was being done and is, a step of a stage between
    ordered : (f : Phase) (k : StepKind) (w v : Work) (n : ℕ) (kinds : List StepKind) → old.work ≡ w → new.work ≡ v → slice_get (commit_stages ++ (kind.Say ∷ []) ∷ []) n ≡ Some kinds → list_any (is_kind k) kinds ≡ true
        → stage_of w ≤ n → n ≤ stage_at f v → AreInStageOrder law old new run (record run { phase = f }) (turn.Stepped k)
    ordered f k w v n kinds was is there among behind before =
        commit_order law old new run (record run { phase = f }) k inside.login at_commit.for.command (commit_commits run at_commit.for.command at_commit.for.next at_commit.for.commits) (next_is law old run stands ∙ at_commit.for.next) n kinds there among
        (subst (λ (m : ℕ). m ≤ n) (sym (ap (λ (g : Phase). stage_at g old.work) commits ∙ ap stage_of was)) behind)
        (subst (λ (x : Work). n ≤ stage_at f x) (sym is) before)

    -- a step that writes
    write_order : (k : StepKind) (r : Revision) → (k ≡ kind.Read → ⊥) → old.work ≡ Writing r → WritesOn old.session r k steps.own new.work → is_appended_by moment old.session k (reverse steps.own) ≡ true → AreInStageOrder law old new run (record run { phase = phase.Committing a }) (turn.Stepped k)
    write_order k r counted was (inl (is, mine, inl work)) told = subst (λ (x : StepKind). AreInStageOrder law old new run (record run { phase = phase.Committing a }) (turn.Stepped x)) (sym is)
        (ordered (phase.Committing a) kind.Write (Writing r) (Writing r) 1 (kind.Write ∷ kind.Mark ∷ []) was work refl refl (let le : 1 ≤ 1 = omega arith in le) (let le : 1 ≤ 1 = omega arith in le))
    write_order k r counted was (inl (is, mine, inr work)) told = subst (λ (x : StepKind). AreInStageOrder law old new run (record run { phase = phase.Committing a }) (turn.Stepped x)) (sym is)
        (ordered (phase.Committing a) kind.Write (Writing r) (Undoing r commit.Memory) 1 (kind.Write ∷ kind.Mark ∷ []) was work refl refl (let le : 1 ≤ 1 = omega arith in le) (let le : 1 ≤ 3 = omega arith in le))
    write_order k r counted was (inr (inl (is, mine, work))) told = absurd (counted is)
    write_order k r counted was (inr (inr (inl (is, mine, work)))) told = subst (λ (x : StepKind). AreInStageOrder law old new run (record run { phase = phase.Committing a }) (turn.Stepped x)) (sym is)
        (ordered (phase.Committing a) kind.Mark (Writing r) (Writing r) 1 (kind.Write ∷ kind.Mark ∷ []) was work refl refl (let le : 1 ≤ 1 = omega arith in le) (let le : 1 ≤ 1 = omega arith in le))
    write_order k r counted was (inr (inr (inr (inl (is, mine, work))))) told = subst (λ (x : StepKind). AreInStageOrder law old new run (record run { phase = phase.Committing a }) (turn.Stepped x)) (sym is)
        (ordered (phase.Committing a) kind.Last (Writing r) (Deciding r) 2 (kind.Last ∷ []) was work refl refl (let le : 1 ≤ 2 = omega arith in le) (let le : 2 ≤ 4 = omega arith in le))
    write_order k r counted was (inr (inr (inr (inr (item, o, mark, mine, work))))) told = by mark
      where
        by : (k ≡ kind.Mark) ⊎ (k ≡ kind.Last) → AreInStageOrder law old new run (record run { phase = phase.Committing a }) (turn.Stepped k)
        by (inl is) = subst (λ (x : StepKind). AreInStageOrder law old new run (record run { phase = phase.Committing a }) (turn.Stepped x)) (sym is)
            (ordered (phase.Committing a) kind.Mark (Writing r) (Undoing r (commit.Clash item o)) 1 (kind.Write ∷ kind.Mark ∷ []) was work refl refl (let le : 1 ≤ 1 = omega arith in le) (let le : 1 ≤ 3 = omega arith in le))
        by (inr is) = subst (λ (x : StepKind). AreInStageOrder law old new run (record run { phase = phase.Committing a }) (turn.Stepped x)) (sym is)
            (ordered (phase.Committing a) kind.Last (Writing r) (Undoing r (commit.Clash item o)) 2 (kind.Last ∷ []) was work refl refl (let le : 1 ≤ 2 = omega arith in le) (let le : 2 ≤ 3 = omega arith in le))

    -- what the command is run with, before the step
    called_moment : call_of law old.history.begin moment.past old.session ≡ Some c
    called_moment = call_still law old.history old.session steps.others inside.nodes run_moment steps.grows.theirs ∙ at_commit.is

    called_quiet : IsQuiet old.session steps.own → IsCalled law new c
    called_quiet quiet = moved (λ h s. call_of law h.begin h.past s ≡ Some c)
        (call_stays law old.history.begin (starts_of law) (says_of law) old.history.clusters old.history.sessions inside.nodes steps.own moment.past old.session run_new quiet.calls ∙ called_moment)

    -- what was drawn for it is drawn still
    drew_now : draw_since (steps.own ++ moment.past) old.session ≡ draw_since moment.past old.session → HasDrawnFor new run a.edit
    drew_now same = λ d is. at_commit.for.drew d (sym (moved (λ h s. draw_since h.past s ≡ draw_since old.history.past old.session)
        (same ∙ (all_same law old.history old.session steps.others inside.nodes run_moment steps.grows.theirs).draw)) ∙ is)

    for_now : (f : Phase) → draw_since (steps.own ++ moment.past) old.session ≡ draw_since moment.past old.session → IsFor new (record run { phase = f }) c a
    for_now f same = record {
      command = at_commit.for.command;
      next = at_commit.for.next;
      commits = at_commit.for.commits;
      holds = at_commit.for.holds;
      settled = at_commit.for.settled;
      accepts = at_commit.for.accepts;
      place = subst (λ (x : Option ℕ). IsPlace x a.accepted) (sym steps.room) at_commit.for.place;
      proper = at_commit.for.proper;
      referring = at_commit.for.referring;
      drew = drew_now same;
    }

    still : (work : Work) → IsCommitting old.history.past old.session work → IsCommitting moment.past old.session work
    still = committing_still law old.history old.session steps.others inside.nodes run_moment steps.grows.theirs

    goes_on : IsQuiet old.session steps.own → IsCommitting (steps.own ++ moment.past) old.session new.work → StandsAt law new (record run { phase = phase.Committing a }) (phase.Committing a)
    goes_on quiet committing = (
      inside_quiet quiet,
      record {
        unread = at_commit.unread;
        call = c;
        is = called_quiet quiet;
        for = for_now (phase.Committing a) (quiet.draws moment.past);
        commits = moved (λ h s. IsCommitting h.past s new.work) committing;
      },
    )

    has_ended : (e : CommitEnd) → new.work ≡ Idle → IsIn law new run.attached → draw_since (steps.own ++ moment.past) old.session ≡ draw_since moment.past old.session → HasCommitted law new c e → StandsAt law new (record run { phase = phase.Committed e a }) (phase.Committed e a)
    has_ended e idle now same committed = (
      now,
      record { idle = idle; unread = at_commit.unread; call = c; for = for_now (phase.Committed e a) same; ended = committed },
    )

    -- the commit wasn't made
    undone : (r : Revision) (e : CommitEnd) → IsFinish r steps.own → IsCommitting moment.past old.session (Undoing r e) → HasCommitted law new c e
    undone r (commit.Clash item o) finish (has, unmade, told) = (
      r,
      called_quiet (quiet_finish old.session r steps.own finish),
      moved (λ h s. Rattle.jcr_run.specs.Standing.IsClash h.past s r (commit.Clash item o)) (clash_end moment.past old.session r (commit.Clash item o) steps.own finish has unmade told),
    )
    undone r commit.Memory finish (has, unmade, told) = (
      r,
      called_quiet (quiet_finish old.session r steps.own finish),
      moved (λ h s. Rattle.jcr_run.specs.Standing.IsUnmade h.past s r) (unmade_end moment.past old.session r steps.own finish has unmade),
    )
    undone r (commit.Committed q) finish (has, unmade, told) = absurd told

    -- the base moved
    module _ (v : RevVec) (same : steps.own ≡ event.Refresh old.session v ∷ []) where
      abbrev refreshed : Past
      refreshed = event.Refresh old.session v ∷ moment.past

      run_refreshed : IsRun (starts_of law) (says_of law) (record old.history { past = refreshed })
      run_refreshed = subst (λ (p : Past). IsRun (starts_of law) (says_of law) (after p moment)) same run_new

      moved_by : (F : History → ℕ → Type 0) → F (record old.history { past = refreshed }) old.session → F new.history new.session
      moved_by F x = moved F (subst (λ (p : Past). F (after p moment) old.session) (sym same) x)

      -- the session is in
      inside_moved : IsIn law new run.attached
      inside_moved = record {
        nodes = moved (λ h s. AreNodes h.clusters h.sessions) inside.nodes;
        trees = moved (λ h s. SeesTrees law h.clusters h.sessions h.begin) inside.trees;
        typed = moved (λ h s. SeesTyped law h.clusters h.sessions h.begin) inside.typed;
        run = steps.grows.run;
        login = moved (λ h s. has_login h.past s ≡ true) login_then;
        stays = moved_by (λ h s. has_left h.past s ≡ false) inside_moment.stays;
        began = moved_by (λ h s. is_attached (before_turn h.past s) s ≡ run.attached) inside_moment.began;
        cursor = moved_by (λ h s. KeepsCursor law h s)
            (cursor_moved law moment (record old.history { past = refreshed }) old.session c v (tree_at old.history.begin moment.past v) called_moment
            (refresh_call law old.history.begin moment.past old.session v c called_moment) refl (λ h. h) inside_moment.cursor);
      }

      -- the commit was made, and is seen
      done : (r : Revision) → IsCommitting moment.past old.session (Awaiting r) → sees v r ≡ true → HasCommitted law new c (commit.Committed r)
      done r (has, at, end) seen = moved_by (λ h s. IsMadeFor law h s c r) record {
        unpinned = has.unpinned;
        detached = ap (λ b. cond b false (is_attached moment.past old.session)) (own old.session);
        made = has.made;
        revision = has.revision;
        draw = has.draw;
        drawn = has.drawn;
        on =
            ap (λ (o : Option RevVec). Rattle.std.specs.Option.option_map_or (tree_at old.history.begin moment.past) o (Rattle.oak_machine.specs.History.begin_tree old.history.begin)) (sym has.base)
            ∙ tree_called law old.history.begin moment.past old.session c called_moment;
        ended = end;
        committed = at;
        base = v;
        tree = tree_at old.history.begin moment.past v;
        tree_is = inside.trees refreshed run_refreshed old.session v (ap (λ b. cond b (Some v) (base_of moment.past old.session)) (own old.session));
        moved = ap (λ b. cond b (Some v) (refreshed_since moment.past old.session)) (own old.session);
        seen = seen;
        idle = still_moved moment.past old.session r v has end;
        call = refresh_call law old.history.begin moment.past old.session v c called_moment;
      }

    abbrev Turned : StepOut → Type 0
    Turned x = HasTurned law old new run (record run { phase = phase_by x (phase.Committing a) }) (turn_by x)

    kind_undone : (past : Past) (r : Revision) (e f : CommitEnd) → f ≡ e → IsToldEnd past r e → kind.Finish ≡ kind_of_end f
    kind_undone past r e (commit.Clash item o) same told = refl
    kind_undone past r e commit.Memory same told = refl
    kind_undone past r e (commit.Committed q) same told = absurd (subst (λ (x : CommitEnd). IsToldEnd past r x) (sym same) told)

    -- the step, where it awaited what it needs, and writes where that is due
    made_by : (work : Work) → old.work ≡ work → IsSeenFor moment work → (is_revision_written work ≡ false → is_by_due None steps.own ≡ true) → HasAwaited moment.past steps.own new.work → IsStep moment old new steps.own
    made_by work at seen quiet ended = record {
      stays = inside_moment.stays;
      seen = subst (λ (w : Work). IsSeenFor moment w) (sym at) seen;
      as_due = steps.as_due;
      quiet = λ still. quiet (ap is_revision_written (sym at) ∙ still);
      ended = ended;
    }

    -- a look at a previous document
    looks_back : (r : Revision) → old.work ≡ Writing r → IsCommitting old.history.past old.session (Writing r) → WritesOn old.session r kind.Read steps.own new.work → ReadsAsDue (is_due kind.Read old.due) (out.Went kind.Read) steps.own → HasLookedBack law old new run (record run { phase = phase.Committing a })
    looks_back r at committing m reads =
        let quiet = quiet_write old.session r kind.Read steps.own new.work m in
        let none = none_read old.session r steps.own new.work m in record {
          commits = ap is_committing commits;
          writes = ap is_revision_written at;
          due = as_due (is_due kind.Read old.due) reads;
          stands = stands_quiet (phase.Committing a) (quiet.next moment.past) (goes_on quiet (committing_write moment.past old.session r kind.Read steps.own new.work (still (Writing r) committing) m));
          same = ap (λ (f : Phase). record run { phase = f }) (sym commits);
          beside = record { others = steps.others; grows = subst (λ (e : Past). Grows (starts_of law) (says_of law) old.session old.history new.history steps.others e) none steps.grows; session = steps.session; beside = steps.beside; alone = steps.alone };
        }
      where
        as_due : (b : Bool) → ReadsAsDue b (out.Went kind.Read) steps.own → b ≡ true
        as_due true h = refl
        as_due false h = absurd h

    step_by : (work : Work) (x : StepOut) → old.work ≡ work → IsCommitting old.history.past old.session work
        → Makes moment old.session work x steps.own new.work → AreOfStep moment old.session work x steps.own → ((r : Revision) → work ≡ Writing r → ReadsAsDue (is_due kind.Read old.due) x steps.own) → Turned x
    step_by (Writing r) (out.Went kind.Read) at committing m told reads = inr (inl (looks_back r at committing m (reads r refl)))
    step_by (Writing r) (out.Went k) at committing m told reads =
        let quiet = quiet_write old.session r k steps.own new.work m in
        turned_quiet (phase.Committing a) (turn.Stepped k) (told, one_write old.session r k steps.own new.work (λ e. cc) m)
        (made_by (Writing r) at tt (λ still. absurd (false≢true (sym still))) (awaited_write old.session r k steps.own new.work moment.past m))
        (write_order k r (λ e. cc) at m told)
        (quiet.next moment.past) (goes_on quiet (committing_write moment.past old.session r k steps.own new.work (still (Writing r) committing) m))
    step_by (Writing r) out.Memory at committing m told reads = tt
    step_by (Writing r) x at committing m told reads = absurd m
    step_by (Undoing r e) (out.Went kind.Read) at committing m told reads = let never : kind.Read ≡ kind.Undo = m.0 in cc
    step_by (Undoing r e) (out.Went k) at committing (is, mine, work) told reads =
        let quiet = quiet_by old.session steps.own (event.Went old.session kind.Undo ∷ []) mine record { left = λ q. refl; next = λ q. refl; attached = λ q. refl; begins = λ q. refl; calls = refl; draws = λ q. refl; pins = λ q h. h; cursor = λ q h. refl } in
        turned_quiet (phase.Committing a) (turn.Stepped k) (told, inl (event.Went old.session kind.Undo, mine, refl))
        (made_by (Undoing r e) at tt (λ still. subst (λ (p : Past). is_by_due None p ≡ true) (sym mine) refl) (subst (λ (p : Past). HasAwaited moment.past p new.work) (sym mine) tt))
        (ordered (phase.Committing a) k (Undoing r e) (Undoing r e) 3 (kind.Undo ∷ []) at work refl (subst (λ (x : StepKind). list_any (is_kind x) (kind.Undo ∷ []) ≡ true) (sym is) refl) (let le : 3 ≤ 3 = omega arith in le) (let le : 3 ≤ 3 = omega arith in le))
        (quiet.next moment.past) (goes_on quiet (committing_undo moment.past old.session r e steps.own new.work (still (Undoing r e) committing) mine work))
    step_by (Undoing r e) (out.Ready (end.Commit f)) at committing (end_is, finish, idle) told reads =
        let quiet = quiet_finish old.session r steps.own finish in
        let now = still (Undoing r e) committing in
        turned_quiet (phase.Committed f a) (turn.Stepped (kind_of_end f))
        (subst (λ (k : StepKind). is_appended_by moment old.session k (reverse steps.own) ≡ true) (kind_undone old.history.past r e f end_is committing.2) told, one_finish r steps.own finish)
        (made_by (Undoing r e) at tt (λ still. due_finish r steps.own finish) (awaited_finish r steps.own new.work moment.past finish (λ made. absurd (false≢true (sym now.1 ∙ made)))))
        (ordered (phase.Committed f a) (kind_of_end f) (Undoing r e) Idle 4 (kind.Finish ∷ []) at idle refl (subst (λ (x : StepKind). list_any (is_kind x) (kind.Finish ∷ []) ≡ true) (kind_undone old.history.past r e f end_is committing.2) refl) (let le : 3 ≤ 4 = omega arith in le) (let le : 4 ≤ 6 = omega arith in le))
        (quiet.next moment.past)
        (has_ended f idle (inside_quiet quiet) (quiet.draws moment.past) (subst (λ (y : CommitEnd). HasCommitted law new c y) (sym end_is) (undone r e finish now)))
    step_by (Undoing r e) x at committing m told reads = absurd m
    step_by (Deciding r) (out.Went kind.Read) at committing m told reads = let never : kind.Read ≡ kind.Finish = m.0 in cc
    step_by (Deciding r) (out.Went k) at committing (is, finish, work) told reads =
        let quiet = quiet_finish old.session r steps.own finish in
        turned_quiet (phase.Committing a) (turn.Stepped k) (told, one_finish r steps.own finish)
        (made_by (Deciding r) at tt (λ still. due_finish r steps.own finish) (awaited_finish r steps.own new.work moment.past finish (λ made. work)))
        (ordered (phase.Committing a) k (Deciding r) (Awaiting r) 4 (kind.Finish ∷ []) at work refl (subst (λ (x : StepKind). list_any (is_kind x) (kind.Finish ∷ []) ≡ true) (sym is) refl) (let le : 4 ≤ 4 = omega arith in le) (let le : 4 ≤ 5 = omega arith in le))
        (quiet.next moment.past) (goes_on quiet (committing_finish moment.past old.session r steps.own new.work (still (Deciding r) committing) finish work))
    step_by (Deciding r) x at committing m told reads = absurd m
    step_by (Awaiting r) (out.Wait q) at committing (mine, work, unseen, held) told reads =
        let quiet = quiet_by old.session steps.own [] mine record { left = λ q. refl; next = λ q. refl; attached = λ q. refl; begins = λ q. refl; calls = refl; draws = λ q. refl; pins = λ q h. h; cursor = λ q h. refl } in
        let now = still (Awaiting r) committing in
        turned_quiet (phase.Committing a) (turn.Waiting q) mine (r, at, work, record { theirs = now.0.theirs; committed = now.1; ended = now.2; unseen = unseen }, held) tt (quiet.next moment.past)
        (goes_on quiet (subst (λ (w : Work). IsCommitting (steps.own ++ moment.past) old.session w) (sym work)
        (subst (λ (e : Past). IsCommitting (e ++ moment.past) old.session (Awaiting r)) (sym mine) now)))
    step_by (Awaiting r) (out.Ready (end.Commit f)) at committing (end_is, head_sees, v, sees_it, mine, idle) told reads =
        turned_quiet (phase.Committed f a) (turn.Stepped (kind_of_end f))
        (subst (λ (y : CommitEnd). is_appended_by moment old.session (kind_of_end y) (reverse steps.own) ≡ true) (sym end_is) told, inl (event.Refresh old.session v, mine, refl))
        (made_by (Awaiting r) at head_sees (λ still. subst (λ (p : Past). is_by_due None p ≡ true) (sym mine) refl) (subst (λ (p : Past). HasAwaited moment.past p new.work) (sym mine) tt))
        (ordered (phase.Committed f a) (kind_of_end f) (Awaiting r) Idle 5 (kind.Pin ∷ []) at idle refl (subst (λ (y : CommitEnd). list_any (is_kind (kind_of_end y)) (kind.Pin ∷ []) ≡ true) (sym end_is) refl) (let le : 5 ≤ 5 = omega arith in le) (let le : 5 ≤ 6 = omega arith in le))
        (subst (λ (e : Past). next_index (e ++ moment.past) old.session ≡ next_index moment.past old.session) (sym mine) refl)
        (has_ended f idle (inside_moved v mine) (subst (λ (e : Past). draw_since (e ++ moment.past) old.session ≡ draw_since moment.past old.session) (sym mine) refl)
        (subst (λ (y : CommitEnd). HasCommitted law new c y) (sym end_is) (done v mine r (still (Awaiting r) committing) sees_it)))
    step_by (Awaiting r) x at committing m told reads = absurd m
    step_by Idle x at committing m told reads = absurd committing
    step_by (Starting t) x at committing m told reads = absurd committing
    step_by (Publishing r) x at committing m told reads = absurd committing
    step_by (Learning u) x at committing m told reads = absurd committing
    step_by (Passing r) x at committing m told reads = absurd committing
    step_by (Sweeping r) x at committing m told reads = absurd committing
    step_by Collecting x at committing m told reads = absurd committing
    step_by (Telling e) x at committing m told reads = absurd committing
    step_by (Detaching v) x at committing m told reads = absurd committing

    -- a step of a commit is a turn
    pub commit_turns : Turned answer
    commit_turns = step_by old.work answer refl at_commit.commits steps.makes steps.of_step steps.reads_due

    same_run : record run { phase = phase.Committing a } ≡ run
    same_run = ap (λ (f : Phase). record run { phase = f }) (sym commits)

    pub commit_step : (now : SessionRun) (t : Turn) → now ≡ record run { phase = phase_by answer run.phase } → t ≡ turn_by answer → HasTurned law old new run now t
    commit_step now t is told =
        subst (λ (x : Turn). HasTurned law old new run now x) (sym told)
        (subst (λ (x : SessionRun). HasTurned law old new run x (turn_by answer)) (sym (is ∙ ap (λ (f : Phase). record run { phase = phase_by answer f }) commits)) commit_turns)

    -- a step for which memory was refused leaves the session in its commit
    pub record IsRefusedStep (work : Work) : Type 0 where
      pub still_stands : Stands law new (record run { phase = phase.Committing a })
      pub none : steps.own ≡ []
      pub undoing : is_revision_written new.work ≡ false
      pub waitless : is_awaiting new.work ≡ false
      pub unawaited : is_awaiting work ≡ false
      pub further : stage_of work ≤ stage_of new.work

    refused_by : (work : Work) → IsCommitting old.history.past old.session work → Makes moment old.session work out.Memory steps.own new.work → IsRefusedStep work
    refused_by (Writing r) committing (mine, work) =
        let quiet = quiet_by old.session steps.own [] mine record { left = λ q. refl; next = λ q. refl; attached = λ q. refl; begins = λ q. refl; calls = refl; draws = λ q. refl; pins = λ q h. h; cursor = λ q h. refl } in record {
          still_stands = stands_quiet (phase.Committing a) (quiet.next moment.past)
              (goes_on quiet (subst (λ (w : Work). IsCommitting (steps.own ++ moment.past) old.session w) (sym work)
              (subst (λ (e : Past). IsCommitting (e ++ moment.past) old.session (Undoing r commit.Memory)) (sym mine)
              (let x = still (Writing r) committing in (x.0, x.1, tt)))));
          none = mine;
          undoing = ap is_revision_written work;
          waitless = ap is_awaiting work;
          unawaited = refl;
          further = subst (λ (w : Work). 1 ≤ stage_of w) (sym work) (let le : 1 ≤ 3 = omega arith in le);
        }
    refused_by (Undoing r e) committing m = absurd m
    refused_by (Deciding r) committing m = absurd m
    refused_by (Awaiting r) committing m = absurd m
    refused_by Idle committing m = absurd committing
    refused_by (Starting t) committing m = absurd committing
    refused_by (Publishing r) committing m = absurd committing
    refused_by (Learning u) committing m = absurd committing
    refused_by (Passing r) committing m = absurd committing
    refused_by (Sweeping r) committing m = absurd committing
    refused_by Collecting committing m = absurd committing
    refused_by (Telling e) committing m = absurd committing
    refused_by (Detaching v) committing m = absurd committing

    refused : answer ≡ out.Memory → IsRefusedStep old.work
    refused memory = refused_by old.work at_commit.commits (subst (λ (x : StepOut). Makes moment old.session old.work x steps.own new.work) memory steps.makes)

    pub commit_refused : answer ≡ out.Memory → Stands law new run × IsBeside law old new × Link old new
    commit_refused memory =
        let r = refused memory in (
          subst (λ (x : SessionRun). Stands law new x) same_run r.still_stands,
          record { others = steps.others; grows = subst (λ (e : Past). Grows (starts_of law) (says_of law) old.session old.history new.history steps.others e) r.none steps.grows; session = steps.session; beside = steps.beside; alone = steps.alone },
          free r.undoing r.waitless r.unawaited r.further,
        )

-- a commit for which memory was refused writes no more
pub writes_no_more : (law : JcrLaw) (old new : Shown) (answer : StepOut) (run : SessionRun) (stands : Stands law old run) (inside : IsIn law old run.attached) (steps : Steps (starts_of law) (says_of law) old new answer) (a : Pledge) (commits : run.phase ≡ phase.Committing a) → answer ≡ out.Memory → is_revision_written new.work ≡ false
writes_no_more law old new answer run stands inside steps a commits memory = (refused law old new answer run stands inside steps a commits memory).undoing

pub inside_commit : (law : JcrLaw) (p : Shown) (run : SessionRun) (a : Pledge) → Stands law p run → run.phase ≡ phase.Committing a → IsIn law p run.attached
inside_commit law p run a stands commits = (subst (λ (f : Phase). StandsAt law p run f) commits stands.at).0

-- one step of a commit is its turn
pub commit_once : (law : JcrLaw) (old new : Shown) (answer : StepOut) (run now : SessionRun) (t : Turn) (a : Pledge) → Stands law old run → run.phase ≡ phase.Committing a → Steps (starts_of law) (says_of law) old new answer
    → now ≡ record run { phase = phase_by answer run.phase } → t ≡ turn_by answer → HasTurned law old new run now t
commit_once law old new answer run now t a stands commits steps is told = commit_step law old new answer run stands (inside_commit law old run a stands commits) steps a commits now t is told

-- a step for which memory was refused, and then one of undoing
pub commit_twice : (law : JcrLaw) (old mid new : Shown) (answer : StepOut) (run now : SessionRun) (t : Turn) (a : Pledge) → Stands law old run → run.phase ≡ phase.Committing a → Steps (starts_of law) (says_of law) old mid out.Memory → Steps (starts_of law) (says_of law) mid new answer
    → now ≡ record run { phase = phase_by answer run.phase } → t ≡ turn_by answer → HasTurned law old new run now t
commit_twice law old mid new answer run now t a stands commits first second is told =
    let r = commit_refused law old mid out.Memory run stands (inside_commit law old run a stands commits) first a commits refl in
    let writes = writes_no_more law old mid out.Memory run stands (inside_commit law old run a stands commits) first a commits refl in
    by r writes t (commit_once law mid new answer run now t a r.0 commits second is told)
  where
    never_reads : may_read run ≡ true → ⊥
    never_reads reads = false≢true (sym (ap is_between commits) ∙ ap is_between (reads_between run reads))

    later : (Stands law mid run × IsBeside law old mid × Link old mid) → (x : Turn) → HasCounted law mid new run now x → HasCounted law old new run now x
    later r x h = has_turned_later law old mid new run now x stands.nodes r.2 r.1 (never_ends law mid new run now (inside_commit law mid run a r.0 commits)) h

    by : (Stands law mid run × IsBeside law old mid × Link old mid) → is_revision_written mid.work ≡ false → (x : Turn) → HasTurned law mid new run now x → HasTurned law old new run now x
    by r writes turn.Read (inl h) = absurd (never_reads h.1)
    by r writes turn.Read (inr (inl h)) = absurd (false≢true (sym writes ∙ h.writes))
    by r writes turn.Read (inr (inr h)) = absurd (false≢true (sym (ap (λ (f : Phase). is_between f || is_tidying f) commits) ∙ h.before))
    by r writes turn.Memory h = tt
    by r writes (turn.Said j) h = later r (turn.Said j) h
    by r writes (turn.Stepped k) h = later r (turn.Stepped k) h
    by r writes (turn.Waiting q) h = later r (turn.Waiting q) h
    by r writes turn.Ended h = later r turn.Ended h

-- a commit under way is something that is being done
pub commit_busy : (law : JcrLaw) (p : Shown) (run : SessionRun) (a : Pledge) → Stands law p run → run.phase ≡ phase.Committing a → IsAtRest p.work → ⊥
commit_busy law p run a stands commits rests = by p.work rests (subst (λ (f : Phase). StandsAt law p run f) commits stands.at).1.commits
  where
    by : (w : Work) → IsAtRest w → IsCommitting p.history.past p.session w → ⊥
    by Idle h committing = committing
    by (Telling e) h committing = committing
    by w h committing = absurd h

-- a commit that was refused memory goes on
pub refused_stands : (law : JcrLaw) (old mid : Shown) (run : SessionRun) (a : Pledge) → Stands law old run → run.phase ≡ phase.Committing a → Steps (starts_of law) (says_of law) old mid out.Memory → Stands law mid run
refused_stands law old mid run a stands commits first = (commit_refused law old mid out.Memory run stands (inside_commit law old run a stands commits) first a commits refl).0

pub refused_busy : (law : JcrLaw) (old mid : Shown) (run : SessionRun) (a : Pledge) → Stands law old run → run.phase ≡ phase.Committing a → Steps (starts_of law) (says_of law) old mid out.Memory → IsAtRest mid.work → ⊥
refused_busy law old mid run a stands commits first rests =
    commit_busy law mid run a (refused_stands law old mid run a stands commits first) commits rests

-- a step of a commit for which memory was refused, and one more
pub memory_first : (law : JcrLaw) (old mid : Shown) (answer : StepOut) → answer ≡ out.Memory → Steps (starts_of law) (says_of law) old mid answer → Steps (starts_of law) (says_of law) old mid out.Memory
memory_first law old mid answer is steps = subst (λ (a : StepOut). Steps (starts_of law) (says_of law) old mid a) is steps

pub commit_again : (law later : JcrLaw) → later ≡ law → (old mid new : Shown) (first second : StepOut) (run now : SessionRun) (t : Turn) (a : Pledge) → Stands law old run → run.phase ≡ phase.Committing a → first ≡ out.Memory → Steps (starts_of law) (says_of law) old mid first
    → Steps (starts_of later) (says_of later) mid new second → now ≡ record run { phase = phase_by second run.phase } → t ≡ turn_by second → HasTurned law old new run now t
commit_again law later same old mid new first second run now t a stands commits memory once twice is told =
    commit_twice law old mid new second run now t a stands commits (memory_first law old mid first memory once) (subst (λ (l : JcrLaw). Steps (starts_of l) (says_of l) mid new second) same twice) is told
