-- A session begins a task and makes a step of it; and leaves.
use Rattle.std.proofs.Common.{◌≡◌, inl, ℕ, zero, suc, ◌≤◌, length, Bool, true, false, ◌||◌, Some, None, Option, List, [], ◌∷◌, ◌++◌, refl, sym, ap, ◌∙◌, subst, arith}
use Rattle.std.specs.Prelude.{slice_get}
use Rattle.std.specs.Option.{option_map_or}
use Rattle.oak_machine.specs.declared.event.Event.TheVariants as event
use Rattle.oak_machine.specs.declared.event.StepKind.TheVariants as kind
use Rattle.oak_machine.specs.History.{History, Past}
use Rattle.oak_machine.specs.Laws.{after}
use Rattle.oak_machine.specs.Runs.{AreNodes, IsRun}
use Rattle.oak_machine.specs.Sessions.{has_left, is_drawing, next_index}
use Rattle.oak_port.specs.Ports.{AreOfStep, Grows, Idle, Makes, MayBegin, OthersAlone, Shown, Starting, Steps, Work}
use Rattle.oak_port.specs.declared.task.StepOut.{StepOut}
use Rattle.oak_port.specs.declared.task.StepOut.TheVariants as out
use Rattle.oak_port.specs.declared.task.Task.{Task}
use Rattle.oak_port.specs.declared.task.Task.TheVariants as task
use Rattle.oak_port.specs.declared.task.TaskEnd.TheVariants as end
use Rattle.core_heads.proofs.Passing.{among_same, next_stays}
use Rattle.jcr_trans.specs.declared.command.Command.{Command}
use Rattle.jcr_law.specs.declared.law.JcrLaw.{JcrLaw}
use Rattle.jcr_law.specs.Lasting.{says_of, starts_of}
use Rattle.jcr_law.specs.Since.{is_unmoved, is_unpinned}
use Rattle.jcr_law.specs.State.{Call, call_of, command_at}
use Rattle.core_calls.specs.Seeing.{SeesTrees, SeesTyped}
use Rattle.jcr_run.specs.declared.limits.TheConstants.{MOST_COMMANDS}
use Rattle.jcr_run.specs.declared.next.Due.TheVariants as due
use Rattle.jcr_run.specs.declared.run.Phase.TheVariants as phase
use Rattle.jcr_run.specs.declared.run.SessionRun.{SessionRun}
use Rattle.jcr_run.specs.declared.turn.Turn.{Turn}
use Rattle.jcr_run.specs.declared.turn.Turn.TheVariants as turn
use Rattle.jcr_run.specs.Standing.{HasCounted, IsBeside, IsBetweenCommands, IsFresh, IsIn, Stands, StandsAt, due_for, command_due, due_to, is_revision_written}
use Rattle.jcr_run.proofs.Committing.{own}
use Rattle.jcr_run.proofs.Lawful.{at_between, idle_by}
use Rattle.jcr_run.proofs.Nexts.{left_due}
use Rattle.jcr_run.proofs.Reading.{beside_both}
use Rattle.jcr_run.proofs.Stages.{inside_order, next_is, next_later}
use Rattle.jcr_run.proofs.Turning.{is_awaiting, not_ended, plain_step, started, turned_later}
use Rattle.jcr_run.proofs.Waiting.{by_waits, called_beside, fresh_beside, in_beside, unmoved_beside, unpinned_beside}

-- ---- a task that was begun, and a step of it

module _ (law : JcrLaw) (old mid new : Shown) (t : Task) (answer : StepOut) (room : Option ℕ) {attached : Bool} (inside : IsIn law old attached) (waits : OthersAlone (starts_of law) (says_of law) old mid (Starting t) room) (steps : Steps (starts_of law) (says_of law) mid new answer) where
  abbrev s : ℕ
  s = mid.session

  pub made : Makes (after steps.others mid.history) s (Starting t) answer steps.own new.work
  made = subst (λ (w : Work). Makes (after steps.others mid.history) s w answer steps.own new.work) waits.work_is steps.makes

  pub of_step : AreOfStep (after steps.others mid.history) s (Starting t) answer steps.own
  of_step = subst (λ (w : Work). AreOfStep (after steps.others mid.history) s w answer steps.own) waits.work_is steps.of_step

  pub inside_mid : IsIn law mid attached
  inside_mid = in_beside law old mid (by_waits law old mid (Starting t) room waits) inside.nodes inside

  abbrev q : Past
  q = steps.others ++ mid.history.past

  abbrev moment : History
  moment = after steps.others mid.history

  pub run_new : IsRun (starts_of law) (says_of law) (after steps.own moment)
  run_new = subst (λ (h : History). IsRun (starts_of law) (says_of law) h) steps.grows.grown steps.grows.run

  pub run_moment : IsRun (starts_of law) (says_of law) moment
  run_moment = dropped steps.own moment run_new
    where
      dropped : (own : Past) (h : History) → IsRun (starts_of law) (says_of law) (after own h) → IsRun (starts_of law) (says_of law) h
      dropped [] h run = run
      dropped (e ∷ own) h run = dropped own h run.1

  pub inside_moment : IsIn law (record mid { history = moment }) attached
  inside_moment = in_beside law mid (record mid { history = moment }) (record { others = steps.others; grows = record { grown = refl; theirs = steps.grows.theirs; run = run_moment }; session = refl; beside = refl; alone = steps.alone }) inside_mid.nodes inside_mid

  pub moved : (F : History → ℕ → Type 0) → F (after steps.own moment) s → F new.history new.session
  moved F x = subst (λ (h : History). F h new.session) (sym steps.grows.grown) (subst (λ (n : ℕ). F (after steps.own moment) n) (sym steps.session) x)

  -- by the events that the step adds
  pub added : (e : Past) → steps.own ≡ e → (F : History → ℕ → Type 0) → F (after e moment) s → F new.history new.session
  added e same F x = moved F (subst (λ (p : Past). F (after p moment) s) (sym same) x)

  -- what the next command is run with, before the step
  pub called_moment : (c : Call) → call_of law old.history.begin old.history.past old.session ≡ Some c → call_of law mid.history.begin q s ≡ Some c
  called_moment c is =
      called_beside law mid (record mid { history = moment }) (record { others = steps.others; grows = record { grown = refl; theirs = steps.grows.theirs; run = run_moment }; session = refl; beside = refl; alone = steps.alone }) inside_mid.nodes c
      (called_beside law old mid (by_waits law old mid (Starting t) room waits) inside.nodes c is)

  pub fresh_moment : IsFresh old.history.past old.session → IsFresh q s
  fresh_moment is =
      fresh_beside law mid (record mid { history = moment }) (record { others = steps.others; grows = record { grown = refl; theirs = steps.grows.theirs; run = run_moment }; session = refl; beside = refl; alone = steps.alone }) inside_mid.nodes
      (fresh_beside law old mid (by_waits law old mid (Starting t) room waits) inside.nodes is)

  pub unpinned_moment : is_unpinned old.history.past old.session ≡ true → is_unpinned q s ≡ true
  unpinned_moment is =
      unpinned_beside law mid (record mid { history = moment }) (record { others = steps.others; grows = record { grown = refl; theirs = steps.grows.theirs; run = run_moment }; session = refl; beside = refl; alone = steps.alone }) inside_mid.nodes
      (unpinned_beside law old mid (by_waits law old mid (Starting t) room waits) inside.nodes is)

  pub unmoved_moment : is_unmoved old.history.past old.session ≡ true → is_unmoved q s ≡ true
  unmoved_moment is =
      unmoved_beside law mid (record mid { history = moment }) (record { others = steps.others; grows = record { grown = refl; theirs = steps.grows.theirs; run = run_moment }; session = refl; beside = refl; alone = steps.alone }) inside_mid.nodes
      (unmoved_beside law old mid (by_waits law old mid (Starting t) room waits) inside.nodes is)

  next_mid : next_index q s ≡ next_index old.history.past old.session
  next_mid = next_stays q steps.others mid.history.past s steps.grows.theirs
      ∙ subst (λ (h : History). next_index h.past s ≡ next_index old.history.past old.session) (sym waits.grows.grown)
      (subst (λ (n : ℕ). next_index (waits.others ++ old.history.past) n ≡ next_index old.history.past old.session) (sym waits.session) (next_stays (waits.others ++ old.history.past) waits.others old.history.past old.session waits.grows.theirs))

  module _ (run : SessionRun) (stands : Stands law old run) where
    same_session : new.session ≡ run.session
    same_session = steps.session ∙ (waits.session ∙ stands.session)

    -- the session stands so, where the step adds no reply
    pub stands_by : (now : SessionRun) → now.session ≡ run.session → now.commands ≡ run.commands → now.index ≡ run.index → next_index (steps.own ++ q) s ≡ next_index q s → StandsAt law new now now.phase → Stands law new now
    stands_by now session commands index next at = record {
      nodes = moved (λ h n. AreNodes h.clusters h.sessions) inside_mid.nodes;
      trees = moved (λ h n. SeesTrees law h.clusters h.sessions h.begin) inside_mid.trees;
      typed = moved (λ h n. SeesTyped law h.clusters h.sessions h.begin) inside_mid.typed;
      run_is = steps.grows.run;
      session = same_session ∙ sym session;
      few = subst (λ (cs : List Command). length cs ≤ MOST_COMMANDS) (sym commands) stands.few;
      within = subst (λ (cs : List Command). now.index ≤ length cs) (sym commands) (subst (λ (i : ℕ). i ≤ length run.commands) (sym index) stands.within);
      commands = λ i. ap (λ n. command_at law n i) session ∙ (stands.commands i ∙ ap (λ (cs : List Command). slice_get cs i) (sym commands));
      index =
          index ∙ (stands.index ∙ (ap (next_index old.history.past) (sym stands.session)
          ∙ (sym (moved (λ h n. next_index h.past n ≡ next_index old.history.past old.session) (next ∙ next_mid)) ∙ ap (next_index new.history.past) (same_session ∙ sym session))));
      at = at;
    }

pub leave_begins : (law : JcrLaw) (p : Shown) (run : SessionRun) → Stands law p run → run.phase ≡ phase.Between → MayBegin (starts_of law) p.history p.session task.End
leave_begins law p run stands between = let i = (at_between law p run stands between).0 in (i.login, i.stays)

-- no command is left
pub left_none : (attached : Bool) (commands : List Command) (i : ℕ) → command_due attached commands i ≡ due.Leave → slice_get commands i ≡ None
left_none attached commands i h = by (slice_get commands i) h
  where
    by : (o : Option Command) → option_map_or (λ m. due_to attached m) o due.Leave ≡ due.Leave → o ≡ None
    by None h = refl
    by (Some m) h = left_due attached m h

-- a session that has nothing left to do has answered each command
all_answered : (attached : Bool) (commands : List Command) (i : ℕ) → i ≤ length commands → command_due attached commands i ≡ due.Leave → i ≡ length commands
all_answered attached [] zero within h = refl
all_answered attached [] (suc i) within h = absurd (omega arith)
all_answered attached (c ∷ commands) zero within h = absurd (left_due attached c h)
all_answered attached (c ∷ commands) (suc i) within h = let r : i ≡ length commands = all_answered attached commands i (omega arith) h in omega arith

module _ (law : JcrLaw) (old mid new : Shown) (room : Option ℕ) (run : SessionRun) (stands : Stands law old run) (between : run.phase ≡ phase.Between) (unread : run.fetch ≡ None) where
  abbrev inside : IsIn law old run.attached
  inside = (at_between law old run stands between).0

  abbrev here : IsBetweenCommands law old run
  here = (at_between law old run stands between).1

  -- it leaves
  pub left : (now : SessionRun) (t : Turn) → due_for run ≡ due.Leave
      → OthersAlone (starts_of law) (says_of law) old mid (Starting task.End) room → Steps (starts_of law) (says_of law) mid new (out.Ready end.Ended)
      → now ≡ record run { phase = phase.Over } → t ≡ turn.Stepped kind.End → HasCounted law old new run now t
  left now t next waits steps is told =
      let m = made law old mid new task.End (out.Ready end.Ended) room inside waits steps in
      let moment = inside_moment law old mid new task.End (out.Ready end.Ended) room inside waits steps in
      subst (λ (x : Turn). HasCounted law old new run now x) (sym told)
      (subst (λ (x : SessionRun). HasCounted law old new run x (turn.Stepped kind.End)) (sym is)
      (turned_later law old mid new run (record run { phase = phase.Over }) (turn.Stepped kind.End) stands.nodes (started old mid (ap is_revision_written waits.work_is) (ap is_awaiting waits.work_is) (idle_by law old run stands between unread)) (by_waits law old mid (Starting task.End) room waits) (not_ended (turn.Stepped kind.End) refl)
      record {
        others = steps.others;
        own = steps.own;
        grows = steps.grows;
        beside = steps.beside;
        alone = steps.alone;
        tells = (of_step law old mid new task.End (out.Ready end.Ended) room inside waits steps, inl (event.Went mid.session kind.End, m.0, refl));
        made = plain_step (after steps.others mid.history) mid new steps.own (event.Went mid.session kind.End ∷ []) m.0 moment.stays (ap is_awaiting waits.work_is) refl tt;
        in_order = inside_order law mid new run (record run { phase = phase.Over }) kind.End (inside_mid law old mid new task.End (out.Ready end.Ended) room inside waits steps).login None
            (next_later law old mid (by_waits law old mid (Starting task.End) room waits) ∙ (next_is law old run stands ∙ left_none run.attached run.commands run.index next)) refl;
        same = (refl, refl);
        stands = stands_by law old mid new task.End (out.Ready end.Ended) room inside waits steps run stands (record run { phase = phase.Over }) refl refl refl
            (subst (λ (e : Past). next_index (e ++ (steps.others ++ mid.history.past)) mid.session ≡ next_index (steps.others ++ mid.history.past) mid.session) (sym m.0) refl)
            record {
              idle = m.1;
              left = added law old mid new task.End (out.Ready end.Ended) room inside waits steps (event.Went mid.session kind.End ∷ []) m.0 (λ h n. has_left h.past n ≡ true) (ap (λ b. b || has_left (steps.others ++ mid.history.past) mid.session) (own mid.session));
              all = all_answered run.attached run.commands run.index stands.within next;
              still = added law old mid new task.End (out.Ready end.Ended) room inside waits steps (event.Went mid.session kind.End ∷ []) m.0 (λ h n. is_drawing h.past n ≡ false)
                  (among_same (steps.others ++ mid.history.past) (event.Went mid.session kind.End) (λ r. refl) (steps.others ++ mid.history.past) mid.session ∙ (fresh_moment law old mid new task.End (out.Ready end.Ended) room inside waits steps here.fresh).idle);
            };
      }))

-- ---- a step for which memory was refused

pub some_is : {X : Type 0} {a b : X} → Some a ≡ Some b → a ≡ b
some_is {X} {a} {b} h = ap (λ (o : Option X). elim o [ Some x ↦ x | None ↦ a ]) h

pub stopped_beside : (law : JcrLaw) (old mid new : Shown) (work : Work) (room : Option ℕ) (answer : StepOut) → AreNodes old.history.clusters old.history.sessions → OthersAlone (starts_of law) (says_of law) old mid work room
    → (steps : Steps (starts_of law) (says_of law) mid new answer) → steps.own ≡ [] → IsBeside law old new
stopped_beside law old mid new work room answer nodes waits steps none =
    beside_both law old mid new nodes (by_waits law old mid work room waits) record {
      others = steps.others;
      grows = subst (λ (own : Past). Grows (starts_of law) (says_of law) mid.session mid.history new.history steps.others own) none steps.grows;
      session = steps.session;
      beside = steps.beside;
      alone = steps.alone;
    }

-- the first step of such a task
pub step_stops : (law : JcrLaw) (old mid new : Shown) (t : Task) (room : Option ℕ) (answer : StepOut) → ((h : History) (n : ℕ) (own : Past) (w : Work) → Makes h n (Starting t) out.Memory own w → (own ≡ []) × (w ≡ Idle))
    → AreNodes old.history.clusters old.history.sessions → OthersAlone (starts_of law) (says_of law) old mid (Starting t) room
    → Steps (starts_of law) (says_of law) mid new answer → answer ≡ out.Memory → IsBeside law old new × (new.work ≡ Idle) × (new.room ≡ room)
step_stops law old mid new t room answer quiet nodes waits steps memory =
    let made : (steps.own ≡ []) × (new.work ≡ Idle) = quiet (after steps.others mid.history) mid.session steps.own new.work
    (subst (λ (w : Work). Makes (after steps.others mid.history) mid.session w out.Memory steps.own new.work) waits.work_is
    (subst (λ (a : StepOut). Makes (after steps.others mid.history) mid.session mid.work a steps.own new.work) memory steps.makes)) in
    (stopped_beside law old mid new (Starting t) room answer nodes waits steps made.0, made.1, steps.room ∙ waits.room_is)

pub refresh_stops : (law : JcrLaw) (old mid new : Shown) (room : Option ℕ) (answer : StepOut) → AreNodes old.history.clusters old.history.sessions → OthersAlone (starts_of law) (says_of law) old mid (Starting task.Refresh) room
    → Steps (starts_of law) (says_of law) mid new answer → answer ≡ out.Memory → IsBeside law old new × (new.work ≡ Idle) × (new.room ≡ room)
refresh_stops law old mid new room answer nodes waits steps memory = step_stops law old mid new task.Refresh room answer (λ h n own w made. made) nodes waits steps memory
