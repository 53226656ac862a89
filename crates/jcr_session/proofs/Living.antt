-- A session logs in.
use Rattle.std.proofs.Common.{◌≡◌, inl, ℕ, true, false, cond, not, ◌||◌, Some, Option, List, [], ◌∷◌, ◌++◌, is_some, refl, sym, ap, ◌∙◌, subst, arith}
use Rattle.std.specs.Prelude.{◌==◌}
use Rattle.std.specs.List.{list_any}
use Rattle.std.proofs.lemmas.Bool.Decides.{nat_tests}
use mathlib.Core.Bool.{false≢true}
use Rattle.jr_rev.specs.declared.vector.Pin.{Pin}
use Rattle.jr_rev.specs.declared.vector.RevVec.{RevVec}
use Rattle.jr_tree.specs.declared.shared.CommitChanges.{CommitChanges}
use Rattle.jr_tree.specs.declared.shared.Who.{Who}
use Rattle.oak_machine.specs.declared.event.Event.TheVariants as event
use Rattle.oak_machine.specs.declared.event.StepKind.TheVariants as kind
use Rattle.oak_machine.specs.History.{Begin, History, Past}
use Rattle.oak_machine.specs.Commits.{tree_at}
use Rattle.oak_machine.specs.Laws.{Says, Starts, after}
use Rattle.oak_machine.specs.Runs.{AreNodes, IsRun, IsRunOf}
use Rattle.oak_machine.specs.Sessions.{base_of, has_left, has_login, is_attached, is_drawing, next_index}
use Rattle.oak_machine.proofs.Induction.{neither}
use Rattle.oak_port.specs.Ports.{AreOfStep, Idle, Makes, MayBegin, Shown, Starting, Steps, OthersAlone, Work}
use Rattle.oak_port.specs.declared.task.StepOut.TheVariants as out
use Rattle.oak_port.specs.declared.task.Task.TheVariants as task
use Rattle.oak_port.specs.declared.task.TaskEnd.TheVariants as end
use Rattle.core_heads.proofs.Passing.{among_same, idle_stays, next_stays}
use Rattle.jcr_law.specs.declared.law.JcrLaw.{JcrLaw}
use Rattle.jcr_law.specs.Lasting.{says_of, starts_of}
use Rattle.jcr_law.specs.Since.{before_turn, is_move_of, is_pinning, is_unmoved, is_unpinned}
use Rattle.jcr_law.specs.State.{Call, call_at, call_of}
use Rattle.jcr_held.specs.Begins.{IsFirstCall, IsNewHeld}
use Rattle.jcr_held.specs.Holds.{Holds}
use Rattle.jcr_held.specs.declared.held.Held.{Held}
use Rattle.core_calls.specs.Events.{state_at_login}
use Rattle.core_calls.specs.Seeing.{SeesTrees, SeesTyped}
use Rattle.core_calls.proofs.Called.{login_call}
use Rattle.jcr_run.specs.declared.run.Fetch.{Fetch}
use Rattle.jcr_run.specs.declared.run.Phase.{Phase}
use Rattle.jcr_run.specs.declared.run.Phase.TheVariants as phase
use Rattle.jcr_run.specs.declared.run.SessionRun.{SessionRun}
use Rattle.jcr_run.specs.declared.turn.Turn.{Turn}
use Rattle.jcr_run.specs.declared.turn.Turn.TheVariants as turn
use Rattle.jcr_run.specs.Standing.{AreSince, HasCounted, IsBetweenCommands, IsFetchFor, IsFresh, IsIn, IsOutside, IsReading, KeepsCursor, Stands, StandsAt, is_revision_written}
use Rattle.jcr_run.proofs.Committing.{own}
use Rattle.jcr_run.proofs.Cursors.{cursor_of_call}
use Rattle.jcr_run.proofs.Nexts.{unwanted}
use Rattle.jcr_run.proofs.Stages.{outside_order}
use Rattle.jcr_run.proofs.Turning.{is_awaiting, not_ended, plain_step, started, turned_later}
use Rattle.jcr_run.proofs.Waiting.{by_waits, login_stays}

same_number : (t s : ℕ) → (t == s) ≡ true → t ≡ s
same_number t s h = grind (arith, nat_tests)

-- what has not logged in hasn't left
not_left : (starts : Starts) (says : Says) (clusters : ℕ) (sessions : List ℕ) (begin : Begin) (past : Past) → IsRunOf starts says clusters sessions begin past → (s : ℕ) → has_login past s ≡ false → has_left past s ≡ false
not_left starts says clusters sessions begin [] run s h = refl
not_left starts says clusters sessions begin (event.Login t v ∷ past) run s h = not_left starts says clusters sessions begin past run.1 s (neither (t == s) _ h).1
not_left starts says clusters sessions begin (event.Went t kind.End ∷ past) run s h =
    elim (t == s) as (λ b. (t == s) ≡ b → (b || has_left past s) ≡ false) [
      | true ↦ λ same. absurd (false≢true (sym h ∙ subst (λ (n : ℕ). has_login past n ≡ true) (same_number t s same) run.0.0))
      | false ↦ λ same. not_left starts says clusters sessions begin past run.1 s h
    ] refl
not_left starts says clusters sessions begin (e ∷ past) run s h = not_left starts says clusters sessions begin past run.1 s h

-- ---- outside

pub outside_at : (law : JcrLaw) (p : Shown) (run : SessionRun) → Stands law p run → run.phase ≡ phase.Outside → IsOutside law p run
outside_at law p run stands outside = subst (λ (f : Phase). StandsAt law p run f) outside stands.at

pub outside_idle : (law : JcrLaw) (p : Shown) (run : SessionRun) → Stands law p run → run.phase ≡ phase.Outside → p.work ≡ Idle
outside_idle law p run stands outside = (outside_at law p run stands outside).idle

pub outside_begins : (law : JcrLaw) (p : Shown) (run : SessionRun) → Stands law p run → run.phase ≡ phase.Outside → MayBegin (starts_of law) p.history p.session task.Login
outside_begins law p run stands outside = (outside_at law p run stands outside).out

-- the session of its number, before which there were so many, at a base
who_is : (w : Who) (s earlier : ℕ) (v : RevVec) → w.session ≡ s → w.earlier ≡ earlier → w.ids ≡ 0 → ◌≡◌ {A = Who} (record { session = s; earlier = earlier; ids = 0; base = v }) (record w { base = v })
who_is w s earlier v session before ids =
    sym (ap (λ (n : ℕ). record w { session = n; base = v }) session
    ∙ (ap (λ (n : ℕ). record w { session = s; earlier = n; base = v }) before
    ∙ ap (λ (n : ℕ). record { session = s; earlier = earlier; ids = n; base = v }) ids))

-- ---- a login

-- its start, and its step
module _ (law : JcrLaw) (old mid new : Shown) (run : SessionRun) (stands : Stands law old run) (outside : run.phase ≡ phase.Outside) (room : Option ℕ) (waits : OthersAlone (starts_of law) (says_of law) old mid (Starting task.Login) room) (pin : Pin)
    (steps : Steps (starts_of law) (says_of law) mid new (out.Ready (end.Pinned pin))) where
  abbrev is_out : IsOutside law old run
  is_out = outside_at law old run stands outside

  abbrev s : ℕ
  s = mid.session

  made : Makes (after steps.others mid.history) s (Starting task.Login) (out.Ready (end.Pinned pin)) steps.own new.work
  made = subst (λ (w : Work). Makes (after steps.others mid.history) s w (out.Ready (end.Pinned pin)) steps.own new.work) waits.work_is steps.makes

  of_step : AreOfStep (after steps.others mid.history) s (Starting task.Login) (out.Ready (end.Pinned pin)) steps.own
  of_step = subst (λ (w : Work). AreOfStep (after steps.others mid.history) s w (out.Ready (end.Pinned pin)) steps.own) waits.work_is steps.of_step

  abbrev q : Past
  q = steps.others ++ mid.history.past

  -- what a history says of a session that is outside lasts
  lasts : (F : Past → ℕ → Type 0) → F (waits.others ++ old.history.past) old.session → F mid.history.past s
  lasts F x = subst (λ (h : History). F h.past s) (sym waits.grows.grown) (subst (λ (n : ℕ). F (waits.others ++ old.history.past) n) (sym waits.session) x)

  out_mid : has_login mid.history.past s ≡ false
  out_mid = lasts (λ p n. has_login p n ≡ false) (login_stays (waits.others ++ old.history.past) waits.others old.history.past old.session waits.grows.theirs is_out.out)

  still_mid : is_drawing mid.history.past s ≡ false
  still_mid = lasts (λ p n. is_drawing p n ≡ false) (idle_stays (waits.others ++ old.history.past) waits.others old.history.past old.session waits.grows.theirs is_out.still)

  out_now : has_login q s ≡ false
  out_now = login_stays q steps.others mid.history.past s steps.grows.theirs out_mid

  still_now : is_drawing q s ≡ false
  still_now = idle_stays q steps.others mid.history.past s steps.grows.theirs still_mid

  abbrev logged : History
  logged = record mid.history { past = event.Login s pin.base ∷ q }

  is_logged : new.history ≡ logged
  is_logged = steps.grows.grown ∙ ap (λ (e : Past). after e (after steps.others mid.history)) made.0

  run_logged : IsRun (starts_of law) (says_of law) logged
  run_logged = subst (λ (h : History). IsRun (starts_of law) (says_of law) h) is_logged steps.grows.run

  nodes_mid : AreNodes mid.history.clusters mid.history.sessions
  nodes_mid = subst (λ (h : History). AreNodes h.clusters h.sessions) (sym waits.grows.grown) stands.nodes

  trees_mid : SeesTrees law mid.history.clusters mid.history.sessions mid.history.begin
  trees_mid = subst (λ (h : History). SeesTrees law h.clusters h.sessions h.begin) (sym waits.grows.grown) stands.trees

  typed_mid : SeesTyped law mid.history.clusters mid.history.sessions mid.history.begin
  typed_mid = subst (λ (h : History). SeesTyped law h.clusters h.sessions h.begin) (sym waits.grows.grown) stands.typed

  moved : (F : History → ℕ → Type 0) → F logged s → F new.history new.session
  moved F x = subst (λ (h : History). F h new.session) (sym is_logged) (subst (λ (n : ℕ). F logged n) (sym steps.session) x)

  login_now : has_login logged.past s ≡ true
  login_now = ap (λ b. b || has_login q s) (own s)

  detached_now : is_attached logged.past s ≡ false
  detached_now = ap (λ b. cond b false (is_attached q s)) (own s)

  -- what its first command is run with
  abbrev first : Call
  first = call_at law mid.history.begin q s pin.base (state_at_login mid.history.begin (tree_at mid.history.begin q pin.base))

  inside_now : IsIn law new run.attached
  inside_now = record {
    nodes = moved (λ h n. AreNodes h.clusters h.sessions) nodes_mid;
    trees = moved (λ h n. SeesTrees law h.clusters h.sessions h.begin) trees_mid;
    typed = moved (λ h n. SeesTyped law h.clusters h.sessions h.begin) typed_mid;
    run = steps.grows.run;
    login = moved (λ h n. has_login h.past n ≡ true) login_now;
    stays = moved (λ h n. has_left h.past n ≡ false) (not_left (starts_of law) (says_of law) mid.history.clusters mid.history.sessions mid.history.begin q run_logged.1 s out_now);
    began = moved (λ h n. is_attached (before_turn h.past n) n ≡ run.attached)
        (subst (λ (p : Past). is_attached p s ≡ false) (sym (ap (λ b. cond b logged.past (before_turn q s)) (own s))) detached_now ∙ sym is_out.detached);
    cursor = moved (λ h n. KeepsCursor law h n) (cursor_of_call law logged s first (login_call law mid.history.begin q s pin.base) (λ unpinned. tt));
  }

  fresh_now : IsFresh logged.past s
  fresh_now = record {
    first = ap (λ b. Rattle.oak_machine.specs.Sessions.drawn_among (cond b [] (event.Login s pin.base ∷ Rattle.oak_machine.specs.Sessions.since q s)) s) (own s);
    idle = among_same q (event.Login s pin.base) (λ r. refl) q s ∙ still_now;
  }

  unmoved_now : is_unmoved logged.past s ≡ true
  unmoved_now = ap (λ b. not (list_any (is_move_of s) (cond b [] (event.Login s pin.base ∷ Rattle.oak_machine.specs.Sessions.since q s)))) (own s)

  unpinned_now : is_unpinned logged.past s ≡ true
  unpinned_now = ap (λ b. not (list_any (is_pinning s) (cond b [] (event.Login s pin.base ∷ Rattle.oak_machine.specs.Sessions.since q s))))
      (own s)

  called_now : call_of law new.history.begin new.history.past new.session ≡ Some first
  called_now = moved (λ h n. call_of law h.begin h.past n ≡ Some first) (login_call law mid.history.begin q s pin.base)

  based_now : base_of logged.past s ≡ Some pin.base
  based_now = ap (λ b. cond b (Some pin.base) (base_of q s)) (own s)

  same_session : s ≡ run.session
  same_session = waits.session ∙ stands.session

  pub first_call : IsFirstCall run.held pin.base first
  first_call = record {
    types = sym is_out.holds.types_are;
    who = who_is run.held.who s law.earlier pin.base (is_out.holds.session_is ∙ sym same_session) is_out.holds.earlier_is is_out.holds.nothing.ids;
    tree = trees_mid logged.past run_logged s pin.base based_now;
    view = refl;
    tokens = refl;
    cursor = refl;
    ids = refl;
  }

  next_now : next_index logged.past s ≡ next_index old.history.past old.session
  next_now = next_stays q steps.others mid.history.past s steps.grows.theirs ∙ lasts (λ p n. next_index p n ≡ next_index old.history.past old.session) (next_stays (waits.others ++ old.history.past) waits.others old.history.past old.session waits.grows.theirs)

  module _ (held : Held) (holds : (c : Call) → IsNewHeld run.held → IsFirstCall run.held pin.base c → Holds c held) where
    abbrev run_now : SessionRun
    run_now = record run { held = held; phase = phase.Between }

    between_now : IsBetweenCommands law new run_now
    between_now = record {
      call = first;
      is = called_now;
      holds = holds first is_out.holds.nothing first_call;
      unmoved = moved (λ h n. is_unmoved h.past n ≡ true) unmoved_now;
      unpinned = moved (λ h n. is_unpinned h.past n ≡ true) unpinned_now;
      fresh = moved (λ h n. IsFresh h.past n) fresh_now;
      reads = subst (λ (o : Option Fetch). IsReading new.work o) (sym is_out.unread) made.1;
      due = λ some. absurd (false≢true (sym (ap is_some is_out.unread) ∙ some));
      for = subst (λ (o : Option Fetch). IsFetchFor run_now o) (sym is_out.unread) tt;
      changes = subst (λ (o : Option (List CommitChanges)). AreSince new.history first o) (sym is_out.unlisted) tt;
      wanted = unwanted first run_now is_out.unread;
    }

    stands_now : Stands law new run_now
    stands_now = record {
      nodes = moved (λ h n. AreNodes h.clusters h.sessions) nodes_mid;
      trees = moved (λ h n. SeesTrees law h.clusters h.sessions h.begin) trees_mid;
      typed = moved (λ h n. SeesTyped law h.clusters h.sessions h.begin) typed_mid;
      run_is = steps.grows.run;
      session = steps.session ∙ (waits.session ∙ stands.session);
      few = stands.few;
      commands = stands.commands;
      within = stands.within;
      index = stands.index ∙ (ap (next_index old.history.past) (sym stands.session) ∙ (sym (moved (λ h n. next_index h.past n ≡ next_index old.history.past old.session) next_now) ∙ ap (next_index new.history.past) (steps.session ∙ (waits.session ∙ stands.session))));
      at = (inside_now, between_now);
    }

    pub logged_in : (now : SessionRun) (t : Turn) → now ≡ record run { held = held; phase = phase.Between } → t ≡ turn.Stepped kind.Login → HasCounted law old new run now t
    logged_in now t is told =
        subst (λ (x : Turn). HasCounted law old new run now x) (sym told)
        (subst (λ (x : SessionRun). HasCounted law old new run x (turn.Stepped kind.Login)) (sym is)
        (turned_later law old mid new run run_now (turn.Stepped kind.Login) stands.nodes (started old mid (ap is_revision_written waits.work_is) (ap is_awaiting waits.work_is) is_out.idle) (by_waits law old mid (Starting task.Login) room waits) (not_ended (turn.Stepped kind.Login) refl)
        record {
          others = steps.others;
          own = steps.own;
          grows = steps.grows;
          beside = steps.beside;
          alone = steps.alone;
          tells = (of_step, inl (event.Login s pin.base, made.0, refl));
          made = plain_step (after steps.others mid.history) mid new steps.own (event.Login s pin.base ∷ []) made.0 (not_left (starts_of law) (says_of law) mid.history.clusters mid.history.sessions mid.history.begin q run_logged.1 s out_now) (ap is_awaiting waits.work_is) refl tt;
          in_order = outside_order law mid new run run_now kind.Login out_mid refl;
          same = (refl, refl);
          stands = stands_now;
        }))
