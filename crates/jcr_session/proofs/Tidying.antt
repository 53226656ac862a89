-- A session splits or collects: what it begins, what its steps leave, and what it answers.
use Rattle.std.proofs.Common.{◌≡◌, ◌⊎◌, inl, inr, ℕ, ◌+◌, ◌*◌, ◌-◌, ◌<◌, ◌≤◌, Bool, true, false, not, ◌||◌, ◌&&◌, None, Some, Option, List, [], ◌∷◌, ◌++◌, is_some}
use Rattle.std.proofs.Common.{Result, Ok, Err, IfOk, length, refl, sym, ap, ◌∙◌, subst, arith}
use Rattle.std.specs.Prelude.{Contains, cond, reverse, slice_get}
use Rattle.std.specs.List.{list_any}
use Rattle.std.specs.Option.{option_map_or}
use mathlib.Core.Bool.{false≢true}
use Rattle.jr_path.specs.declared.path.Path.{Path}
use Rattle.jr_path.specs.Lists.{Text}
use Rattle.jr_rev.specs.declared.revision.Revision.{Revision}
use Rattle.jr_rev.specs.declared.vector.RevVec.{RevVec}
use Rattle.oak_machine.specs.declared.event.Event.{Event}
use Rattle.oak_machine.specs.declared.event.Event.TheVariants as event
use Rattle.oak_machine.specs.declared.event.StepKind.{StepKind}
use Rattle.oak_machine.specs.declared.event.StepKind.TheVariants as kind
use Rattle.oak_machine.specs.History.{History, Past}
use Rattle.oak_machine.specs.Commits.{is_committed}
use Rattle.oak_machine.specs.Laws.{after}
use Rattle.oak_machine.specs.Runs.{IsRun}
use Rattle.oak_machine.specs.Sessions.{drawn_since, is_drawing, next_index, since}
use Rattle.oak_machine.specs.Steps.{is_appended_by, is_kind}
use Rattle.oak_port.specs.Ports.{Appends, AreOfStep, Collecting, Grows, HasRoom, Idle, IsAskedOf, IsAtRest, Makes, MayBegin, OthersAlone}
use Rattle.oak_port.specs.Ports.{Beside, IsWait, LastsOn}
use Rattle.oak_port.specs.Ports.{Shown, SplitsAsDue, SplitsOn, Starting, Steps, Telling, Work, end_told, is_by_due, is_due}
use Rattle.oak_port.specs.declared.task.StepOut.{StepOut}
use Rattle.oak_port.specs.declared.task.StepOut.TheVariants as out
use Rattle.oak_port.specs.declared.task.Task.{Task}
use Rattle.oak_port.specs.declared.task.Task.TheVariants as task
use Rattle.oak_port.specs.declared.task.TaskEnd.TheVariants as end
use Rattle.core_heads.proofs.Passing.{among_same}
use Rattle.core_calls.proofs.Called.{call_stays}
use Rattle.jcr_trans.specs.declared.command.Command.{Command}
use Rattle.jcr_trans.specs.declared.command.Command.TheVariants as command
use Rattle.jcr_view.specs.Outcomes.{is_viewed}
use Rattle.jcr_law.specs.declared.law.JcrLaw.{JcrLaw}
use Rattle.jcr_law.specs.Built.{Allowed, is_built, is_forbidden}
use Rattle.jcr_law.specs.Lasting.{says_of, starts_of}
use Rattle.jcr_law.specs.Law.{MaySay, collected, no_text, split, unsplit}
use Rattle.jcr_law.specs.Makes.{IsAskedAt, steps_of}
use Rattle.jcr_law.specs.Since.{is_unmoved, is_unpinned}
use Rattle.jcr_law.specs.State.{Call, accepted, call_of, command_at, is_ok_text}
use Rattle.jcr_held.specs.Holds.{Holds}
use Rattle.jcr_held.specs.Splits.{IsNextSplit}
use Rattle.jcr_held.specs.declared.splits.NextSplit.{NextSplit}
use Rattle.jcr_held.specs.declared.splits.NextSplit.TheVariants as nexts
use Rattle.std.specs.declared.alloc.Global.{Global}
use Rattle.std.specs.declared.string.String.{String}
use Rattle.std.specs.String.{string_bytes}
use Rattle.jcr_steps.specs.declared.limits.TheConstants.{COMMIT_REPLY_BYTES}
use Rattle.jcr_steps.specs.declared.tidying.Tidied.{Tidied}
use Rattle.jcr_steps.specs.declared.tidying.Tidied.TheVariants as tidied
use Rattle.jcr_steps.specs.declared.tidying.TidyCame.{TidyCame}
use Rattle.jcr_steps.specs.declared.tidying.TidyCame.TheVariants as came
use Rattle.jcr_steps.specs.Tidied.{IsTidyAnswer, tidy_told}
use Rattle.jcr_run.specs.Came.{going_turn, phase_told, split_turn, turn_told}
use Rattle.jcr_run.specs.declared.next.Due.{Due}
use Rattle.jcr_run.specs.declared.next.Due.TheVariants as due
use Rattle.jcr_run.specs.declared.run.Phase.{Phase}
use Rattle.jcr_run.specs.declared.run.Phase.TheVariants as phase
use Rattle.jcr_run.specs.declared.run.SessionRun.{SessionRun}
use Rattle.jcr_run.specs.declared.turn.Turn.{Turn}
use Rattle.jcr_run.specs.declared.turn.Turn.TheVariants as turn
use Rattle.jcr_run.specs.Asked.{IsAsked, HasOnlyToTell, IsUnviewedNext, MayForgo, MaySettle}
use Rattle.jcr_run.specs.Nearing.{BeginsNearer, EndsSooner, IsReply, ReadsOn, StepsOn, WorksSooner, stages_left, turns_left}
use Rattle.jcr_run.specs.Standing.{HasAwaited, HasCounted, HasReadOn, HasTurned, IsBeside, IsBetweenCommands, IsEndFor, IsFresh, IsIn}
use Rattle.jcr_run.specs.Standing.{IsInTidying, IsOnCommand, IsOneStep, IsTidyTold, IsTidyWork, Stands, StandsAt, due_by, due_for, due_to, is_allowed}
use Rattle.jcr_run.specs.Standing.{is_between, is_committing, is_revision_written, is_tidied, is_tidy, is_tidying, stage_at, stage_of}
use Rattle.jcr_session.specs.Tidying.{IsSplitNext, IsSplitOf, IsTaskNext, IsTidyTask, MayBeginTidying, tidied_text}
use Rattle.jcr_run.proofs.Calling.{turned_idle}
use Rattle.jcr_run.proofs.Committing.{own as same_number}
use Rattle.jcr_run.proofs.Cursors.{accepts_by, cursor_settled}
use Rattle.jcr_run.proofs.Lawful.{asks_of, at_between, between_asked, refusal_settles, refused_text, says_allowed, says_behind_told}
use Rattle.jcr_run.proofs.Nexts.{due_at, same_next, sets_cursor}
use Rattle.jcr_run.proofs.Nearing.{nobody}
use Rattle.jcr_run.proofs.Reading.{beside_both}
use Rattle.jcr_run.proofs.Saying.{asked_waits, drawn_waits, get_within, replied_like, turned_like}
use Rattle.jcr_run.proofs.Stages.{inside_order, next_is}
use Rattle.jcr_run.proofs.Telling.{rest_idle}
use Rattle.jcr_run.proofs.Turning.{IsQuiet, has_turned_later, is_awaiting, kept, never_ends, replied_later, started, unawaited}
use Rattle.jcr_run.proofs.Waiting.{all_same, by_waits, call_still, called_beside, fresh_beside, fresh_still, in_beside, next_beside, unmoved_beside, unpinned_beside}
use Rattle.jcr_session.proofs.Stepping.{inside_moment, inside_quiet, moved, run_moment, run_new, stands_quiet, turned_quiet}

-- ---- the command

-- the commands that split or collect
pub data IsTidyCommand : Command → Type 0 where
  split_of : (p : Path) → IsTidyCommand (command.Split p)
  collect_of : IsTidyCommand command.Collect

only_tidy : (m : Command) → is_tidy (due_by m) ≡ true → IsTidyCommand m
only_tidy (command.Split p) h = split_of p
only_tidy command.Collect h = collect_of
only_tidy command.BackWrite h = absurd (false≢true h)
only_tidy command.BackRead h = absurd (false≢true h)
only_tidy command.Sweep h = absurd (false≢true h)
only_tidy command.Checkpoint h = absurd (false≢true h)
only_tidy (command.Release id) h = absurd (false≢true h)
only_tidy (command.Observe p deep mask) h = absurd (false≢true h)
only_tidy command.Events h = absurd (false≢true h)
only_tidy command.Head h = absurd (false≢true h)
only_tidy (command.Refresh keep) h = absurd (false≢true h)
only_tidy (command.Query text vars) h = absurd (false≢true h)
only_tidy command.Save h = absurd (false≢true h)
only_tidy (command.Lock p deep) h = absurd (false≢true h)
only_tidy (command.Unlock p) h = absurd (false≢true h)
only_tidy (command.Checkin p) h = absurd (false≢true h)
only_tidy (command.Checkout p) h = absurd (false≢true h)
only_tidy (command.Label p version label take) h = absurd (false≢true h)
only_tidy (command.Unlabel p label) h = absurd (false≢true h)
only_tidy (command.Restore p version) h = absurd (false≢true h)
only_tidy (command.Attach id) h = absurd (false≢true h)
only_tidy command.Detach h = absurd (false≢true h)
only_tidy m h = absurd (false≢true h)

tidy_viewed : (m : Command) → IsTidyCommand m → is_viewed m ≡ false
tidy_viewed _ (split_of p) = refl
tidy_viewed _ collect_of = refl

tidy_sets : (m : Command) → IsTidyCommand m → sets_cursor m ≡ false
tidy_sets _ (split_of p) = refl
tidy_sets _ collect_of = refl

tidy_tokens : (m : Command) (c : Call) → IsTidyCommand m → (accepted c m).tokens ≡ c.state.tokens
tidy_tokens _ c (split_of p) = refl
tidy_tokens _ c collect_of = refl

-- the next command of a session that splits or collects
module _ (run : SessionRun) (next : is_tidy (due_for run) ≡ true) where
  pub tidy_next : (m : Command) × (slice_get run.commands run.index ≡ Some m)
  tidy_next = by (slice_get run.commands run.index) refl next
    where
      by : (o : Option Command) → slice_get run.commands run.index ≡ o → is_tidy (option_map_or (λ m. due_to run.attached m) o due.Leave) ≡ true → (m : Command) × (slice_get run.commands run.index ≡ Some m)
      by None e h = absurd (false≢true h)
      by (Some m) e h = (m, e)

  pub tidy_there : (m : Command) → slice_get run.commands run.index ≡ Some m → (is_allowed run.attached m ≡ true) × (is_tidy (due_by m) ≡ true)
  tidy_there m there = by (is_allowed run.attached m) refl (ap is_tidy (sym (due_at run m there)) ∙ next)
    where
      by : (b : Bool) → is_allowed run.attached m ≡ b → is_tidy (cond b (due_by m) due.Bar) ≡ true → (is_allowed run.attached m ≡ true) × (is_tidy (due_by m) ≡ true)
      by true e h = (e, h)
      by false e h = absurd (false≢true h)

  pub tidy_is : (m : Command) → slice_get run.commands run.index ≡ Some m → IsTidyCommand m
  tidy_is m there = only_tidy m (tidy_there m there).1

pub split_tidies : (d : Due) → d ≡ due.Split → is_tidy d ≡ true
split_tidies d is = ap is_tidy is

pub collect_tidies : (d : Due) → d ≡ due.Collect → is_tidy d ≡ true
collect_tidies d is = ap is_tidy is

-- a split's next command is a split
pub split_next : (run : SessionRun) → due_for run ≡ due.Split → (p : Path) × (slice_get run.commands run.index ≡ Some (command.Split p))
split_next run is =
    let tidies = split_tidies (due_for run) is in
    let m = tidy_next run tidies in
    by m.0 (tidy_is run tidies m.0 m.1) m.1 (ap (λ (b : Bool). cond b (due_by m.0) due.Bar) (sym (tidy_there run tidies m.0 m.1).0) ∙ (sym (due_at run m.0 m.1) ∙ is))
  where
    collects : Due → Bool
    collects due.Collect = true
    collects _ = false

    by : (m : Command) → IsTidyCommand m → slice_get run.commands run.index ≡ Some m → due_by m ≡ due.Split → (p : Path) × (slice_get run.commands run.index ≡ Some (command.Split p))
    by _ (split_of p) there same = (p, there)
    by _ collect_of there same = absurd (false≢true (sym (ap collects same)))

-- what the split begins with that is the next command
pub split_by : {E : Type 0} (run : SessionRun) (m : Command) (r : Result NextSplit E) → slice_get run.commands run.index ≡ Some m → IfOk r (IsSplitOf run m) → IfOk r (IsSplitNext run)
split_by run m (Ok next) there told = λ p c at holds. told p c (same_next run.commands run.index m (command.Split p) there at) holds
split_by run m (Err e) there told = tt

-- the same of that command
pub split_told : {E : Type 0} (run : SessionRun) (m : Command) (q : Path) (r : Result NextSplit E) → m ≡ command.Split q → ((c : Call) → Holds c run.held → IfOk r (IsNextSplit c q)) → IfOk r (IsSplitOf run m)
split_told run m q (Ok next) is told = λ p c same holds. let k : q ≡ p = (let h : command.Split q ≡ command.Split p = sym is ∙ same in cc) in subst (λ (x : Path). IsNextSplit c x next) k (told c holds)
split_told run m q (Err e) is told = tt

pub collect_next : (run : SessionRun) → due_for run ≡ due.Collect → slice_get run.commands run.index ≡ Some command.Collect
collect_next run is =
    let tidies = collect_tidies (due_for run) is in
    let m = tidy_next run tidies in
    by m.0 (tidy_is run tidies m.0 m.1) m.1 (ap (λ (b : Bool). cond b (due_by m.0) due.Bar) (sym (tidy_there run tidies m.0 m.1).0) ∙ (sym (due_at run m.0 m.1) ∙ is))
  where
    splits : Due → Bool
    splits due.Split = true
    splits _ = false

    by : (m : Command) → IsTidyCommand m → slice_get run.commands run.index ≡ Some m → due_by m ≡ due.Collect → slice_get run.commands run.index ≡ Some command.Collect
    by _ (split_of p) there same = absurd (false≢true (sym (ap splits same)))
    by _ collect_of there same = there

-- the tasks of these
pub split_task : (run : SessionRun) (p q : Path) → slice_get run.commands run.index ≡ Some (command.Split p) → q ≡ p → IsTaskNext run (task.Split q)
split_task run p q there same m next = subst (λ (x : Command). IsTidyTask x (task.Split q)) (same_next run.commands run.index (command.Split p) m there next) (ap task.Split same)

pub collect_task : (run : SessionRun) → due_for run ≡ due.Collect → IsTaskNext run task.Collect
collect_task run is m next = subst (λ (x : Command). IsTidyTask x task.Collect) (same_next run.commands run.index command.Collect m (collect_next run is) next) refl

-- ---- before the task

module _ (law : JcrLaw) (p : Shown) (run : SessionRun) (stands : Stands law p run) (between : run.phase ≡ phase.Between)
    (next : is_tidy (due_for run) ≡ true) (unread : run.fetch ≡ None) where
  abbrev asked_m : (m : Command) × (slice_get run.commands run.index ≡ Some m)
  asked_m = tidy_next run next

  abbrev between_here : IsIn law p run.attached × IsBetweenCommands law p run
  between_here = at_between law p run stands between

  asked_now : IsAsked law p run asked_m.0 between_here.1.call
  asked_now = between_asked law p run stands between asked_m.0 asked_m.1 unread

  -- why nothing is split
  pub unsplit_settles : (q : Path) (text : String Global) → slice_get run.commands run.index ≡ Some (command.Split q) → IsSplitNext run (nexts.Refused text)
      → MaySettle law p run (string_bytes text)
  unsplit_settles q text there refused =
      let r = refused q between_here.1.call there between_here.1.holds in
      let is : command.Split q ≡ asked_m.0 = same_next run.commands run.index (command.Split q) asked_m.0 there asked_m.1 in
      subst (λ (t : Text). MaySettle law p run t) (sym r.2)
      (refusal_settles law p run stands between asked_m.0 asked_m.1 unread (no_text r.0)
      (says_allowed law p run asked_m.0 between_here.1.call asked_now (no_text r.0) (tidy_there run next asked_m.0 asked_m.1).0
      (subst (λ (x : Command). MaySay law p.history p.session (Allowed x) (no_text r.0)) is
      (unsplit q between_here.1.call r.0 between_here.1.is r.1 between_here.1.unmoved)))
      (tidy_viewed asked_m.0 (tidy_is run next asked_m.0 asked_m.1)) (refused_text r.0))

  -- once its place is kept
  pub tidies_now : (mid : Shown) (t : Task) → IsTaskNext run t → IsBeside law p mid → mid.work ≡ Idle → HasRoom mid.room COMMIT_REPLY_BYTES → MayBeginTidying law mid run t
  tidies_now mid t is beside idle place = record {
    command = asked_m.0;
    call = between_here.1.call;
    asked = asked_waits law asked_m.0 between_here.1.call p mid run asked_now beside (rest_idle mid.session mid.work idle);
    idle = idle;
    between = between;
    first = drawn_waits law asked_m.0 between_here.1.call p mid run asked_now beside ∙ between_here.1.fresh.first;
    unmoved = unmoved_beside law p mid beside between_here.0.nodes between_here.1.unmoved;
    unpinned = unpinned_beside law p mid beside between_here.0.nodes between_here.1.unpinned;
    tidies = next;
    holds = between_here.1.holds;
    task_is = is asked_m.0 asked_m.1;
    place = place;
  }

-- ---- its begin

-- a command that may be run is built
built_by : (attached : Bool) (m : Command) → is_allowed attached m ≡ true → is_built m ≡ true
built_by attached m allowed = first (is_built m) (not (is_forbidden attached m)) allowed
  where
    first : (a b : Bool) → (a && b) ≡ true → a ≡ true
    first true b h = refl
    first false b h = absurd (false≢true h)

asked_by_task : (law : JcrLaw) (s i : ℕ) (t : Task) (m : Command) → IsTidyCommand m → is_built m ≡ true → IsTidyTask m t → command_at law s i ≡ Some m → (e : Event) → Appends t e → IsAskedAt law s i e
asked_by_task law s i t _ (split_of p) built is at e appends = by e (subst (λ (x : Task). Appends x e) is appends)
  where
    by : (e : Event) → Appends (task.Split p) e → IsAskedAt law s i e
    by (event.Went x kind.Split) h = (command.Split p, at, built, tt)
    by (event.Split x path o) h = (command.Split p, at, built, h)
    by x h = absurd h
asked_by_task law s i t _ collect_of built is at e appends = by e (subst (λ (x : Task). Appends x e) is appends)
  where
    by : (e : Event) → Appends task.Collect e → IsAskedAt law s i e
    by (event.Went x kind.Bound) h = (command.Collect, at, built, tt)
    by (event.Bound m v) h = (command.Collect, at, built, tt)
    by (event.Went x kind.Collect) h = (command.Collect, at, built, tt)
    by (event.Collected x c) h = (command.Collect, at, built, tt)
    by x h = absurd h

-- a session that has logged in and not left may begin either
begins_by : {attached : Bool} (law : JcrLaw) (p : Shown) (t : Task) (m : Command) → IsTidyCommand m → IsTidyTask m t → IsIn law p attached → MayBegin (starts_of law) p.history p.session t
begins_by law p t _ (split_of q) is inside = subst (λ (x : Task). MayBegin (starts_of law) p.history p.session x) (sym is) (inside.login, inside.stays)
begins_by law p t _ collect_of is inside = subst (λ (x : Task). MayBegin (starts_of law) p.history p.session x) (sym is) (inside.login, inside.stays)

works_by : (t : Task) (m : Command) → IsTidyCommand m → IsTidyTask m t → IsTidyWork m (Starting t)
works_by t _ (split_of p) is = subst (λ (x : Task). IsTidyWork (command.Split p) (Starting x)) (sym is) refl
works_by t _ collect_of is = subst (λ (x : Task). IsTidyWork command.Collect (Starting x)) (sym is) tt

-- as many replies, and a later phase
fewer_left : (a x y : ℕ) → x < y → 5 * a + x < 5 * a + y
fewer_left a x y less = omega arith

-- what a session that splits or collects reads, and how its turn is then
module _ (law : JcrLaw) (old new : Shown) (run now : SessionRun) where
  abbrev tidying : SessionRun
  tidying = record run { phase = phase.Tidying }

  -- it reads nothing of the tree, and is in no commit
  read_on : HasTurned law old new tidying now turn.Read → HasReadOn law old new tidying now
  read_on (inl looked) = absurd (false≢true looked.1)
  read_on (inr (inl back)) = absurd (false≢true back.commits)
  read_on (inr (inr on)) = on

module _ (law : JcrLaw) (old : Shown) (run : SessionRun) (t : Task) (may : MayBeginTidying law old run t) where
  abbrev kind_is : IsTidyCommand may.command
  kind_is = tidy_is run may.tidies may.command may.asked.next

  built : is_built may.command ≡ true
  built = built_by run.attached may.command (tidy_there run may.tidies may.command may.asked.next).0

  next_old : command_at law old.session (next_index old.history.past old.session) ≡ Some may.command
  next_old =
      ap (command_at law old.session) (ap (next_index old.history.past) may.asked.session ∙ sym may.asked.index)
      ∙ (ap (λ (s : ℕ). command_at law s run.index) may.asked.session ∙ (may.asked.commands run.index ∙ may.asked.next))

  pub tidy_begins : MayBegin (starts_of law) old.history old.session t
  tidy_begins = begins_by law old t may.command kind_is may.task_is may.asked.inside

  pub tidy_asked : IsAskedOf (asks_of law) old.history old.session t
  tidy_asked x appends = asked_by_task law old.session (next_index old.history.past old.session) t may.command kind_is built may.task_is next_old x appends

  pub tidy_forgoes : MayForgo law old run false
  tidy_forgoes = record {
    command = may.command;
    call = may.call;
    asked = may.asked;
    unmoved = may.unmoved;
    unpinned = may.unpinned;
    drew_is = ap is_some may.first;
    uncommitted = ap (λ (o : Option Revision). option_map_or (is_committed old.history.past) o false) may.first;
    holds = may.holds;
  }

  pub tidy_room : (room : Option ℕ) → room ≡ old.room → HasRoom room COMMIT_REPLY_BYTES
  tidy_room room same = subst (λ (x : Option ℕ). HasRoom x COMMIT_REPLY_BYTES) (sym same) may.place

  module _ (mid : Shown) (begins : OthersAlone (starts_of law) (says_of law) old mid (Starting t) old.room) where
    beside : IsBeside law old mid
    beside = by_waits law old mid (Starting t) old.room begins

    inside_mid : IsIn law mid run.attached
    inside_mid = in_beside law old mid beside may.asked.inside.nodes may.asked.inside

    -- once it is begun, the session splits or collects
    pub tidying_stands : Stands law mid (record run { phase = phase.Tidying })
    tidying_stands = record {
      nodes = inside_mid.nodes;
      trees = inside_mid.trees;
      typed = inside_mid.typed;
      run_is = inside_mid.run;
      session = begins.session ∙ may.asked.session;
      few = may.asked.few;
      commands = may.asked.commands;
      index = may.asked.index ∙
          (ap (next_index old.history.past) (sym may.asked.session) ∙
          (sym (next_beside law old mid beside) ∙ ap (next_index mid.history.past) (begins.session ∙ may.asked.session)));
      within = let w : run.index < length run.commands = get_within run.commands run.index may.command may.asked.next in omega arith;
      at = (
        inside_mid,
        record {
          command = may.command;
          call = may.call;
          for = record {
            unread = may.asked.unread;
            next = may.asked.next;
            is = called_beside law old mid beside may.asked.inside.nodes may.call may.asked.call;
            holds = may.holds;
            fresh = fresh_beside law old mid beside may.asked.inside.nodes (record { first = may.first; idle = may.asked.still });
          };
          tidies = may.tidies;
          unmoved = unmoved_beside law old mid beside may.asked.inside.nodes may.unmoved;
          unpinned = unpinned_beside law old mid beside may.asked.inside.nodes may.unpinned;
          works = subst (λ (w : Work). IsTidyWork may.command w) (sym begins.work_is) (works_by t may.command kind_is may.task_is);
          place = subst (λ (x : Option ℕ). HasRoom x COMMIT_REPLY_BYTES) (sym begins.room_is) may.place;
        },
      );
    }

    none_behind : stage_at run.phase old.work ≤ stage_at phase.Tidying old.work
    none_behind = subst (λ (f : Phase). stage_at f old.work ≤ stage_of old.work) (sym may.between)
        (let le : stage_of old.work ≤ stage_of old.work = omega arith in le)

    counted_first : (new : Shown) (now : SessionRun) (x : Turn) → HasCounted law mid new (record run { phase = phase.Tidying }) now x → HasCounted law old new run now x
    counted_first new now x turned =
        turned_like law old new run (record run { phase = phase.Tidying }) now x refl refl refl (λ k is. none_behind)
        (has_turned_later law old mid new (record run { phase = phase.Tidying }) now x may.asked.inside.nodes
        (started old mid (ap is_revision_written begins.work_is) (ap is_awaiting begins.work_is) may.idle) beside
        (never_ends law mid new (record run { phase = phase.Tidying }) now inside_mid) turned)

    first_turned : (new : Shown) (now : SessionRun) (x : Turn) → HasTurned law mid new (record run { phase = phase.Tidying }) now x → HasTurned law old new run now x
    first_turned new now (turn.Stepped k) turned = counted_first new now (turn.Stepped k) turned
    first_turned new now (turn.Said i) turned = counted_first new now (turn.Said i) turned
    first_turned new now (turn.Waiting q) turned = counted_first new now (turn.Waiting q) turned
    first_turned new now turn.Ended turned = counted_first new now turn.Ended turned
    first_turned new now turn.Memory turned = tt
    first_turned new now turn.Read turned =
        let on = read_on law mid new run now turned in
        inr (inr (record {
          before = ap (λ (f : Phase). is_between f || is_tidying f) may.between;
          behind = on.behind;
          stands = on.stands;
          same = record { session = on.same.session; commands = on.same.commands; index = on.same.index; phase = on.same.phase; attached = on.same.attached };
          beside = beside_both law old mid new may.asked.inside.nodes beside on.beside;
        }))

    pub begun_turned : (later : JcrLaw) → later ≡ law → (new : Shown) (now : SessionRun) (x : Turn) → HasTurned later mid new (record run { phase = phase.Tidying }) now x → HasTurned law old new run now x
    begun_turned later same new now x turned = first_turned new now x (subst (λ (l : JcrLaw). HasTurned l mid new (record run { phase = phase.Tidying }) now x) same turned)

-- ---- a step

-- what is being done, case by case
data TidyCase : Command → Work → Type 0 where
  to_split : (p q : Path) → q ≡ p → TidyCase (command.Split p) (Starting (task.Split q))
  to_bound : TidyCase command.Collect (Starting task.Collect)
  collecting : TidyCase command.Collect Collecting

tidy_case : (m : Command) (w : Work) → IsTidyWork m w → TidyCase m w
tidy_case (command.Split p) (Starting (task.Split q)) is = to_split p q is
tidy_case command.Collect (Starting task.Collect) is = to_bound
tidy_case command.Collect Collecting is = collecting
tidy_case m w is = absurd is

-- a split or a collection under way is something that is being done
pub tidy_busy : (law : JcrLaw) (p : Shown) (run : SessionRun) → Stands law p (record run { phase = phase.Tidying }) → IsAtRest p.work → ⊥
tidy_busy law p run stands rests = by stands.at.1.command p.work (tidy_case stands.at.1.command p.work stands.at.1.works) rests
  where
    by : (m : Command) (w : Work) → TidyCase m w → IsAtRest w → ⊥
    by _ _ (to_split q r same) h = h
    by _ _ to_bound h = h
    by _ _ collecting h = h

-- what events of such a step leave
record LeavesAll (s : ℕ) (own : Past) : Type 0 where
  quiet : IsQuiet s own
  drawn : (q : Past) → drawn_since (own ++ q) s ≡ drawn_since q s
  idle : (q : Past) → is_drawing q s ≡ false → is_drawing (own ++ q) s ≡ false
  unmoved : (q : Past) → is_unmoved (own ++ q) s ≡ is_unmoved q s
  unpinned : (q : Past) → is_unpinned (own ++ q) s ≡ is_unpinned q s

-- those of a counted step
record IsCalm (s : ℕ) (own : Past) : Type 0 where
  leaves : LeavesAll s own
  due_none : is_by_due None own ≡ true
  awaited : (q : Past) (w : Work) → HasAwaited q own w
  one : IsOneStep own

leaves_none : (s : ℕ) → LeavesAll s []
leaves_none s = record {
  quiet = record { left = λ q. refl; next = λ q. refl; attached = λ q. refl; begins = λ q. refl; calls = refl; draws = λ q. refl; pins = λ q h. h; cursor = λ q h. refl };
  drawn = λ q. refl;
  idle = λ q h. h;
  unmoved = λ q. refl;
  unpinned = λ q. refl;
}

calm_split : (s : ℕ) → IsCalm s (event.Went s kind.Split ∷ [])
calm_split s = record {
  leaves = record {
    quiet = record { left = λ q. refl; next = λ q. refl; attached = λ q. refl; begins = λ q. refl; calls = refl; draws = λ q. refl; pins = λ q h. h; cursor = λ q h. refl };
    drawn = λ q. refl;
    idle = λ q h. among_same q (event.Went s kind.Split) (λ r. refl) q s ∙ h;
    unmoved = λ q. refl;
    unpinned = λ q. refl;
  };
  due_none = refl;
  awaited = λ q w. tt;
  one = inl (event.Went s kind.Split, refl, refl);
}

calm_part : (s : ℕ) → IsCalm s (event.Went s kind.Bound ∷ [])
calm_part s = record {
  leaves = record {
    quiet = record { left = λ q. refl; next = λ q. refl; attached = λ q. refl; begins = λ q. refl; calls = refl; draws = λ q. refl; pins = λ q h. h; cursor = λ q h. refl };
    drawn = λ q. refl;
    idle = λ q h. among_same q (event.Went s kind.Bound) (λ r. refl) q s ∙ h;
    unmoved = λ q. refl;
    unpinned = λ q. refl;
  };
  due_none = refl;
  awaited = λ q w. tt;
  one = inl (event.Went s kind.Bound, refl, refl);
}

calm_bound : (s : ℕ) (m t : RevVec) → IsCalm s (event.Bound m t ∷ [])
calm_bound s m t = record {
  leaves = record {
    quiet = record { left = λ q. refl; next = λ q. refl; attached = λ q. refl; begins = λ q. refl; calls = refl; draws = λ q. refl; pins = λ q h. h; cursor = λ q h. refl };
    drawn = λ q. refl;
    idle = λ q h. among_same q (event.Bound m t) (λ r. refl) q s ∙ h;
    unmoved = λ q. refl;
    unpinned = λ q. refl;
  };
  due_none = refl;
  awaited = λ q w. tt;
  one = inl (event.Bound m t, refl, refl);
}

calm_collect : (s : ℕ) → IsCalm s (event.Went s kind.Collect ∷ [])
calm_collect s = record {
  leaves = record {
    quiet = record { left = λ q. refl; next = λ q. refl; attached = λ q. refl; begins = λ q. refl; calls = refl; draws = λ q. refl; pins = λ q h. h; cursor = λ q h. refl };
    drawn = λ q. refl;
    idle = λ q h. among_same q (event.Went s kind.Collect) (λ r. refl) q s ∙ h;
    unmoved = λ q. refl;
    unpinned = λ q. refl;
  };
  due_none = refl;
  awaited = λ q w. tt;
  one = inl (event.Went s kind.Collect, refl, refl);
}

module _ (law : JcrLaw) (old new : Shown) (answer : StepOut) (run : SessionRun)
    (stands : Stands law old (record run { phase = phase.Tidying })) (steps : Steps (starts_of law) (says_of law) old new answer) where
  abbrev at : SessionRun
  at = record run { phase = phase.Tidying }

  abbrev here : IsIn law old run.attached × IsInTidying law old at
  here = stands.at

  abbrev s : ℕ
  s = old.session

  abbrev moment : History
  moment = after steps.others old.history

  run_then : IsRun (starts_of law) (says_of law) moment
  run_then = run_moment law old new answer at stands here.0 steps

  -- ---- what stays

  module _ (leaves : LeavesAll s steps.own) where
    abbrev m : Command
    m = here.1.command

    abbrev c : Call
    c = here.1.call

    called_then : call_of law moment.begin (steps.own ++ moment.past) s ≡ Some c
    called_then = call_stays law old.history.begin (starts_of law) (says_of law) old.history.clusters old.history.sessions here.0.nodes
        steps.own moment.past s (run_new law old new answer at stands here.0 steps) leaves.quiet.calls
        ∙ (call_still law old.history s steps.others here.0.nodes run_then steps.grows.theirs ∙ here.1.for.is)

    unmoved_then : is_unmoved (steps.own ++ moment.past) s ≡ true
    unmoved_then = leaves.unmoved moment.past
        ∙ ((all_same law old.history s steps.others here.0.nodes run_then steps.grows.theirs).still ∙ here.1.unmoved)

    unpinned_then : is_unpinned (steps.own ++ moment.past) s ≡ true
    unpinned_then = leaves.unpinned moment.past
        ∙ ((all_same law old.history s steps.others here.0.nodes run_then steps.grows.theirs).unpinned ∙ here.1.unpinned)

    fresh_then : IsFresh (steps.own ++ moment.past) s
    fresh_then = let f = fresh_still law old.history s steps.others here.0.nodes run_then steps.grows.theirs here.1.for.fresh in
        record { first = leaves.drawn moment.past ∙ f.first; idle = leaves.idle moment.past f.idle }

    for_now : (f : Phase) → IsOnCommand law new (record run { phase = f }) m c
    for_now f = record {
      unread = here.1.for.unread;
      next = here.1.for.next;
      is = moved law old new answer at stands here.0 steps (λ h n. call_of law h.begin h.past n ≡ Some c) called_then;
      holds = here.1.for.holds;
      fresh = moved law old new answer at stands here.0 steps (λ h n. IsFresh h.past n) fresh_then;
    }

    inside_now : IsIn law new run.attached
    inside_now = inside_quiet law old new answer at stands here.0 steps leaves.quiet

    -- it goes on
    still_at : IsTidyWork m new.work → StandsAt law new (record run { phase = phase.Tidying }) phase.Tidying
    still_at works = (
      inside_now,
      record {
        command = m;
        call = c;
        for = for_now phase.Tidying;
        tidies = here.1.tidies;
        unmoved = moved law old new answer at stands here.0 steps (λ h n. is_unmoved h.past n ≡ true) unmoved_then;
        unpinned = moved law old new answer at stands here.0 steps (λ h n. is_unpinned h.past n ≡ true) unpinned_then;
        works = works;
        place = subst (λ (x : Option ℕ). HasRoom x COMMIT_REPLY_BYTES) (sym steps.room) here.1.place;
      },
    )

    -- it has ended
    told_at : (t : Tidied) → IsEndFor s m t new.work → StandsAt law new (record run { phase = phase.Tidied t }) (phase.Tidied t)
    told_at t works = (
      inside_now,
      record {
        command = m;
        call = c;
        for = for_now (phase.Tidied t);
        tidies = here.1.tidies;
        unmoved = moved law old new answer at stands here.0 steps (λ h n. is_unmoved h.past n ≡ true) unmoved_then;
        unpinned = moved law old new answer at stands here.0 steps (λ h n. is_unpinned h.past n ≡ true) unpinned_then;
        works = subst (λ (n : ℕ). IsEndFor n m t new.work) (sym steps.session) works;
        place = subst (λ (x : Option ℕ). HasRoom x COMMIT_REPLY_BYTES) (sym steps.room) here.1.place;
      },
    )

  -- ---- a turn

  -- others alone added events
  beside_read : steps.own ≡ [] → IsBeside law old new
  beside_read none = record {
    others = steps.others;
    grows = subst (λ (own : Past). Grows (starts_of law) (says_of law) s old.history new.history steps.others own) none steps.grows;
    session = steps.session;
    beside = steps.beside;
    alone = steps.alone;
  }

  none_leaves : steps.own ≡ [] → LeavesAll s steps.own
  none_leaves none = subst (λ (own : Past). LeavesAll s own) (sym none) (leaves_none s)

  -- by a reading step
  reads_on : (f : Phase) (none : steps.own ≡ []) → (is_tidying f || is_tidied f) ≡ true → StandsAt law new (record run { phase = f }) f
      → HasTurned law old new at (record run { phase = f }) turn.Read
  reads_on f none behind now = inr (inr (record {
    before = refl;
    behind = behind;
    stands = stands_quiet law old new answer at stands here.0 steps f ((none_leaves none).quiet.next moment.past) now;
    same = record { session = refl; commands = refl; index = refl; phase = refl; attached = refl };
    beside = beside_read none;
  }))

  -- by a counted one, of the stage at that place
  goes : IsCalm s steps.own → (f : Phase) (k : StepKind) (place : ℕ) (kinds : List StepKind) → is_awaiting old.work ≡ false
      → is_appended_by moment s k (reverse steps.own) ≡ true → slice_get (steps_of here.1.command) place ≡ Some kinds → list_any (is_kind k) kinds ≡ true
      → stage_of old.work ≤ place → place ≤ stage_at f new.work → StandsAt law new (record run { phase = f }) f
      → HasCounted law old new at (record run { phase = f }) (turn.Stepped k)
  goes calm f k place kinds awaits appended there among behind before now = turned_quiet law old new answer at stands here.0 steps f (turn.Stepped k)
      (appended, calm.one) record {
        stays = (inside_moment law old new answer at stands here.0 steps).stays;
        seen = unawaited moment old.work awaits;
        as_due = steps.as_due;
        quiet = λ still. calm.due_none;
        ended = calm.awaited moment.past new.work;
      }
      (inside_order law old new at (record run { phase = f }) k here.0.login (Some here.1.command) (next_is law old at stands ∙ here.1.for.next) record
      { place = place; kinds = kinds; there = there; among = among; behind = behind; before = before })
      (calm.leaves.quiet.next moment.past) now

  abbrev Turned : Bool → StepOut → Type 0
  Turned reads x = HasTurned law old new at (record run { phase = phase_told (tidy_told x) }) (turn_told reads (tidy_told x))

  -- the turn of a kind that isn't read
  abbrev Goes : Phase → StepKind → Type 0
  Goes f k = HasTurned law old new at (record run { phase = f }) (going_turn k)

  -- the step of a split that changes a document
  split_goes : (f : Phase) → is_awaiting old.work ≡ false → stage_of old.work ≤ 0 → (p : Path) → here.1.command ≡ command.Split p → 0 ≤ stage_at f new.work
      → steps.own ≡ event.Went s kind.Split ∷ [] → is_appended_by moment s kind.Split (reverse steps.own) ≡ true
      → (LeavesAll s steps.own → StandsAt law new (record run { phase = f }) f) → HasCounted law old new at (record run { phase = f }) (turn.Stepped kind.Split)
  split_goes f awaits first p is before mine appended now =
      let calm = subst (λ (own : Past). IsCalm s own) (sym mine) (calm_split s) in
      goes calm f kind.Split 0 (kind.Split ∷ []) awaits appended (ap (λ (x : Command). slice_get (steps_of x) 0) is) refl first before (now calm.leaves)

  step_by : (reads : Bool) → reads ≡ is_due kind.Read old.due → (m : Command) (w : Work) (x : StepOut) → here.1.command ≡ m → old.work ≡ w → TidyCase m w
      → Makes moment s w x steps.own new.work → AreOfStep moment s w x steps.own
      → ((p : Path) → w ≡ Starting (task.Split p) → SplitsAsDue (is_due kind.Read old.due) x steps.own) → (x ≡ out.Memory → ⊥) → Turned reads x
  step_by reads due_is _ _ (out.Went k) is was (to_split p q same) (inl (read, none), now) appended splits never =
      subst (λ (y : StepKind). Goes phase.Tidying y) (sym read)
      (reads_on phase.Tidying none refl (still_at (none_leaves none)
      (subst (λ (y : Command). IsTidyWork y new.work) (sym is) (subst (λ (v : Work). IsTidyWork (command.Split p) v) (sym now) same))))
  step_by reads due_is _ _ (out.Went k) is was (to_split p q same) (inr (splits_now, mine), now) appended splits never =
      subst (λ (y : StepKind). Goes phase.Tidying y) (sym splits_now)
      (split_goes phase.Tidying (ap is_awaiting was) (subst (λ (v : Work). stage_of v ≤ 0) (sym was) (let le : 0 ≤ 0 = omega arith in le)) p is
      (let le : 0 ≤ stage_of new.work = omega arith in le) mine
      (subst (λ (y : StepKind). is_appended_by moment s y (reverse steps.own) ≡ true) splits_now appended)
      (λ leaves. still_at leaves
      (subst (λ (y : Command). IsTidyWork y new.work) (sym is) (subst (λ (v : Work). IsTidyWork (command.Split p) v) (sym now) same))))
  step_by reads due_is _ _ (out.Ready (end.Split e)) is was (to_split p q same) (k, how, now) appended splits never =
      subst (λ (b : Bool). HasTurned law old new at (record run { phase = phase.Tidied (tidied.Split e) }) (split_turn b)) (sym due_is)
      (by (is_due kind.Read old.due) (splits q refl) how)
    where
      told : IsEndFor s here.1.command (tidied.Split e) new.work
      told = subst (λ (y : Command). IsEndFor s y (tidied.Split e) new.work) (sym is) (subst (λ (r : Path). new.work ≡ Telling (event.Split s r e)) same now)

      by : (b : Bool) → SplitsAsDue b (out.Ready (end.Split e)) steps.own → SplitsOn s k steps.own → HasTurned law old new at (record run { phase = phase.Tidied (tidied.Split e) }) (split_turn b)
      by true none how = reads_on (phase.Tidied (tidied.Split e)) none refl (told_at (none_leaves none) (tidied.Split e) told)
      by false some (inl (read, none)) = absurd (some none)
      by false some (inr (splits_now, mine)) =
          split_goes (phase.Tidied (tidied.Split e)) (ap is_awaiting was) (subst (λ (v : Work). stage_of v ≤ 0) (sym was) (let le : 0 ≤ 0 = omega arith in le)) p is
          (let le : 0 ≤ 1 = omega arith in le) mine
          (subst (λ (own : Past). is_appended_by moment s (Rattle.oak_port.specs.Ports.split_kind own) (reverse steps.own) ≡ true) mine appended)
          (λ leaves. told_at leaves (tidied.Split e) told)
  step_by reads due_is _ _ out.Memory is was (to_split p q same) made appended splits never = absurd (never refl)
  step_by reads due_is _ _ x is was (to_split p q same) made appended splits never = absurd made
  step_by reads due_is _ _ (out.Went k) is was to_bound (bounds, inl (mine, now)) appended splits never =
      let calm = subst (λ (own : Past). IsCalm s own) (sym mine) (calm_part s) in
      subst (λ (y : StepKind). Goes phase.Tidying y) (sym bounds)
      (goes calm phase.Tidying kind.Bound 0 (kind.Bound ∷ []) (ap is_awaiting was)
      (subst (λ (y : StepKind). is_appended_by moment s y (reverse steps.own) ≡ true) bounds appended)
      (ap (λ (x : Command). slice_get (steps_of x) 0) is) refl
      (subst (λ (v : Work). stage_of v ≤ 0) (sym was) (let le : 0 ≤ 0 = omega arith in le)) (let le : 0 ≤ stage_of new.work = omega arith in le)
      (still_at calm.leaves (subst (λ (y : Command). IsTidyWork y new.work) (sym is) (subst (λ (v : Work). IsTidyWork command.Collect v) (sym now) tt))))
  step_by reads due_is _ _ (out.Went k) is was to_bound (bounds, inr (b, t, mine, now)) appended splits never =
      let calm = subst (λ (own : Past). IsCalm s own) (sym mine) (calm_bound s b t) in
      subst (λ (y : StepKind). Goes phase.Tidying y) (sym bounds)
      (goes calm phase.Tidying kind.Bound 0 (kind.Bound ∷ []) (ap is_awaiting was)
      (subst (λ (y : StepKind). is_appended_by moment s y (reverse steps.own) ≡ true) bounds appended)
      (ap (λ (x : Command). slice_get (steps_of x) 0) is) refl
      (subst (λ (v : Work). stage_of v ≤ 0) (sym was) (let le : 0 ≤ 0 = omega arith in le)) (let le : 0 ≤ stage_of new.work = omega arith in le)
      (still_at calm.leaves (subst (λ (y : Command). IsTidyWork y new.work) (sym is) (subst (λ (v : Work). IsTidyWork command.Collect v) (sym now) tt))))
  step_by reads due_is _ _ out.Memory is was to_bound made appended splits never = absurd (never refl)
  step_by reads due_is _ _ x is was to_bound made appended splits never = absurd made
  step_by reads due_is _ _ (out.Went k) is was collecting (inl (read, none), now) appended splits never =
      subst (λ (y : StepKind). Goes phase.Tidying y) (sym read)
      (reads_on phase.Tidying none refl (still_at (none_leaves none)
      (subst (λ (y : Command). IsTidyWork y new.work) (sym is) (subst (λ (v : Work). IsTidyWork command.Collect v) (sym now) tt))))
  step_by reads due_is _ _ (out.Went k) is was collecting (inr (collects, mine), now) appended splits never =
      let calm = subst (λ (own : Past). IsCalm s own) (sym mine) (calm_collect s) in
      subst (λ (y : StepKind). Goes phase.Tidying y) (sym collects)
      (goes calm phase.Tidying kind.Collect 1 (kind.Collect ∷ []) (ap is_awaiting was)
      (subst (λ (y : StepKind). is_appended_by moment s y (reverse steps.own) ≡ true) collects appended)
      (ap (λ (x : Command). slice_get (steps_of x) 1) is) refl
      (subst (λ (v : Work). stage_of v ≤ 1) (sym was) (let le : 1 ≤ 1 = omega arith in le))
      (subst (λ (v : Work). 1 ≤ stage_of v) (sym now) (let le : 1 ≤ 1 = omega arith in le))
      (still_at calm.leaves (subst (λ (y : Command). IsTidyWork y new.work) (sym is) (subst (λ (v : Work). IsTidyWork command.Collect v) (sym now) tt))))
  step_by reads due_is _ _ (out.Ready (end.Collected d)) is was collecting (mine, now) appended splits never =
      let calm = subst (λ (own : Past). IsCalm s own) (sym mine) (calm_collect s) in
      goes calm (phase.Tidied (tidied.Collected d)) kind.Collect 1 (kind.Collect ∷ []) (ap is_awaiting was) appended
      (ap (λ (x : Command). slice_get (steps_of x) 1) is) refl
      (subst (λ (v : Work). stage_of v ≤ 1) (sym was) (let le : 1 ≤ 1 = omega arith in le)) (let le : 1 ≤ 2 = omega arith in le)
      (told_at calm.leaves (tidied.Collected d) (subst (λ (y : Command). IsEndFor s y (tidied.Collected d) new.work) (sym is) now))
  step_by reads due_is _ _ out.Memory is was collecting made appended splits never = absurd (never refl)
  step_by reads due_is _ _ x is was collecting made appended splits never = absurd made

  abbrev case_now : TidyCase here.1.command old.work
  case_now = tidy_case here.1.command old.work here.1.works

  -- which answers come
  pub tidy_comes : IsTidyAnswer answer
  tidy_comes = by here.1.command old.work answer case_now steps.makes
    where
      by : (m : Command) (w : Work) (x : StepOut) → TidyCase m w → Makes moment s w x steps.own new.work → IsTidyAnswer x
      by _ _ (out.Went k) (to_split p q same) made = tt
      by _ _ (out.Ready (end.Split e)) (to_split p q same) made = tt
      by _ _ out.Memory (to_split p q same) made = tt
      by _ _ x (to_split p q same) made = absurd made
      by _ _ (out.Went k) to_bound made = tt
      by _ _ out.Memory to_bound made = tt
      by _ _ x to_bound made = absurd made
      by _ _ (out.Went k) collecting made = tt
      by _ _ (out.Ready (end.Collected d)) collecting made = tt
      by _ _ out.Memory collecting made = tt
      by _ _ x collecting made = absurd made

  -- by what it came to
  pub tidy_turned : (reads : Bool) → reads ≡ is_due kind.Read old.due → (x : TidyCame) → x ≡ tidy_told answer → (x ≡ came.Refused → ⊥)
      → (now : SessionRun) → now ≡ record run { phase = phase_told x } → (t : Turn) → t ≡ turn_told reads x → HasTurned law old new at now t
  tidy_turned reads due_is x is never now run_is t turn_is =
      subst (λ (y : Turn). HasTurned law old new at now y) (sym turn_is)
      (subst (λ (y : SessionRun). HasTurned law old new at y (turn_told reads x)) (sym run_is)
      (subst (λ (y : TidyCame). HasTurned law old new at (record run { phase = phase_told y }) (turn_told reads y)) (sym is)
      (step_by reads due_is here.1.command old.work answer refl refl case_now steps.makes steps.of_step steps.splits_due
      (λ memory. never (is ∙ ap tidy_told memory)))))

  -- ---- memory was refused

  refused_quiet : answer ≡ out.Memory → (steps.own ≡ []) × (new.work ≡ Idle)
  refused_quiet memory = by here.1.command old.work case_now
      (subst (λ (x : StepOut). Makes moment s old.work x steps.own new.work) memory steps.makes)
    where
      by : (m : Command) (w : Work) → TidyCase m w → Makes moment s w out.Memory steps.own new.work → (steps.own ≡ []) × (new.work ≡ Idle)
      by _ _ (to_split p q same) made = made
      by _ _ to_bound made = made
      by _ _ collecting made = made

  unwaited : is_awaiting old.work ≡ false
  unwaited = by here.1.command old.work case_now
    where
      by : (m : Command) (w : Work) → TidyCase m w → is_awaiting w ≡ false
      by _ _ (to_split p q same) = refl
      by _ _ to_bound = refl
      by _ _ collecting = refl

  -- want of memory may be answered
  pub tidy_refused : answer ≡ out.Memory → MayForgo law new run false
  tidy_refused memory = record {
    command = here.1.command;
    call = here.1.call;
    asked = record {
      inside = in_beside law old new beside here.0.nodes here.0;
      session = steps.session ∙ stands.session;
      few = stands.few;
      commands = stands.commands;
      index = stands.index ∙
          (ap (next_index old.history.past) (sym stands.session) ∙
          (sym (next_beside law old new beside) ∙ ap (next_index new.history.past) (steps.session ∙ stands.session)));
      rests = rest_idle new.session new.work (refused_quiet memory).1;
      unread = here.1.for.unread;
      still = fresh.idle;
      next = here.1.for.next;
      call = called_beside law old new beside here.0.nodes here.1.call here.1.for.is;
    };
    unmoved = unmoved_beside law old new beside here.0.nodes here.1.unmoved;
    unpinned = unpinned_beside law old new beside here.0.nodes here.1.unpinned;
    drew_is = ap is_some fresh.first;
    uncommitted = ap (λ (o : Option Revision). option_map_or (is_committed new.history.past) o false) fresh.first;
    holds = here.1.for.holds;
  }
    where
      beside : IsBeside law old new
      beside = beside_read (refused_quiet memory).0

      fresh : IsFresh new.history.past new.session
      fresh = fresh_beside law old new beside here.0.nodes here.1.for.fresh

  -- there is a place for that
  pub tidy_refused_room : HasRoom new.room COMMIT_REPLY_BYTES
  tidy_refused_room = subst (λ (x : Option ℕ). HasRoom x COMMIT_REPLY_BYTES) (sym steps.room) here.1.place

  -- and that is its turn
  pub tidy_refused_turns : (later : JcrLaw) → later ≡ law → (newer : Shown) (now : SessionRun) (t : Turn) → answer ≡ out.Memory → IsReply t
      → HasCounted later new newer run now t → HasCounted law old newer at now t
  tidy_refused_turns later same newer now t memory reply turned =
      replied_like law old newer at run now t refl refl refl reply
      (replied_later law old new newer run now t here.0.nodes (beside_read (refused_quiet memory).0) (ap is_revision_written (refused_quiet memory).1) unwaited
      reply
      (subst (λ (l : JcrLaw). HasCounted l new newer run now t) same turned))

abbrev is_refused : TidyCame → Bool
is_refused came.Refused = true
is_refused _ = false

-- what a refusal is
pub tidy_memory_is : (answer : StepOut) → IsTidyAnswer answer → tidy_told answer ≡ came.Refused → answer ≡ out.Memory
tidy_memory_is out.Memory is h = refl
tidy_memory_is (out.Went k) is h = absurd (false≢true (ap is_refused h))
tidy_memory_is (out.Ready (end.Split e)) is h = absurd (false≢true (ap is_refused h))
tidy_memory_is (out.Ready (end.Collected d)) is h = absurd (false≢true (ap is_refused h))
tidy_memory_is a is h = absurd is

-- ---- the reply

-- of what has ended so it is left to tell that
end_rests : (s : ℕ) (m : Command) (t : Tidied) (w : Work) → IsEndFor s m t w → HasOnlyToTell s w
end_rests s (command.Split p) (tidied.Split e) w is = subst (λ (v : Work). HasOnlyToTell s v) (sym is) (same_number s)
end_rests s command.Collect (tidied.Collected d) w is = subst (λ (v : Work). HasOnlyToTell s v) (sym is) (same_number s)
end_rests s m t w is = absurd is

first_of : (x : Event) (xs : List Event) → Contains (x ∷ xs) x
first_of x xs = (0, omega arith, refl)

-- which the law lets be said
end_says : (law : JcrLaw) (h : History) (s : ℕ) (m : Command) (t : Tidied) (w : Work) → IsEndFor s m t w → is_unmoved h.past s ≡ true
    → MaySay law (after (end_told w) h) s (Allowed m) (tidied_text t)
end_says law h s (command.Split p) (tidied.Split e) w is unmoved =
    subst (λ (v : Work). MaySay law (after (end_told v) h) s (Allowed (command.Split p)) (tidied_text (tidied.Split e))) (sym is)
    (split p e (first_of (event.Split s p e) (since h.past s)) unmoved)
end_says law h s command.Collect (tidied.Collected d) w is unmoved =
    subst (λ (v : Work). MaySay law (after (end_told v) h) s (Allowed command.Collect) (tidied_text (tidied.Collected d))) (sym is)
    (collected d (first_of (event.Collected s d) (since h.past s)) unmoved)
end_says law h s m t w is unmoved = absurd is

module _ (law : JcrLaw) (p : Shown) (run : SessionRun) (t : Tidied) (stands : Stands law p (record run { phase = phase.Tidied t })) where
  abbrev told_here : IsIn law p run.attached × IsTidyTold law p (record run { phase = phase.Tidied t }) t
  told_here = stands.at

  abbrev told_kind : IsTidyCommand told_here.1.command
  told_kind = tidy_is run told_here.1.tidies told_here.1.command told_here.1.for.next

  told_asked : IsAsked law p run told_here.1.command told_here.1.call
  told_asked = record {
    inside = told_here.0;
    session = stands.session;
    few = stands.few;
    commands = stands.commands;
    index = stands.index;
    rests = end_rests p.session told_here.1.command t p.work told_here.1.works;
    unread = told_here.1.for.unread;
    still = told_here.1.for.fresh.idle;
    next = told_here.1.for.next;
    call = told_here.1.for.is;
  }

  pub tidied_forgoes : MayForgo law p run false
  tidied_forgoes = record {
    command = told_here.1.command;
    call = told_here.1.call;
    asked = told_asked;
    unmoved = told_here.1.unmoved;
    unpinned = told_here.1.unpinned;
    drew_is = ap is_some told_here.1.for.fresh.first;
    uncommitted = ap (λ (o : Option Revision). option_map_or (is_committed p.history.past) o false) told_here.1.for.fresh.first;
    holds = told_here.1.for.holds;
  }

  pub tidied_room : HasRoom p.room COMMIT_REPLY_BYTES
  tidied_room = told_here.1.place

  tells : MaySettle law p run (tidied_text t)
  tells = record {
    command = told_here.1.command;
    call = told_here.1.call;
    asked = told_asked;
    says = says_behind_told law p run told_here.1.command told_here.1.call told_asked (tidied_text t) (tidy_there run told_here.1.tidies told_here.1.command told_here.1.for.next).0
        (end_says law p.history p.session told_here.1.command t p.work told_here.1.works told_here.1.unmoved);
    first = ap is_some told_here.1.for.fresh.first;
    unmoved = told_here.1.unmoved;
    cursor = cursor_settled p.history.past p.session (is_ok_text (tidied_text t)) false told_here.1.call told_here.1.command (tidy_sets told_here.1.command told_kind)
        (told_here.0.cursor told_here.1.call told_here.1.for.is told_here.1.unpinned);
    unviewed = tidy_viewed told_here.1.command told_kind;
    accepts = λ ok. accepts_by told_here.1.call run.held told_here.1.command None (tidy_sets told_here.1.command told_kind) told_here.1.for.holds
        (told_here.1.for.holds.tokens ∙ sym (tidy_tokens told_here.1.command told_here.1.call told_kind));
    holds = told_here.1.for.holds;
  }

  pub tidied_settles : (text : Text) → text ≡ tidied_text t → MaySettle law p run text
  tidied_settles text is = subst (λ (x : Text). MaySettle law p run x) (sym is) tells

-- the view doesn't answer such a command
pub settles_unviewed : (law : JcrLaw) (p : Shown) (run : SessionRun) (text : Text) → MaySettle law p run text → IsUnviewedNext run
settles_unviewed law p run text may = (may.command, may.asked.next, may.unviewed)

-- ---- around the calls of a port

-- a session that splits or collects stands so
pub tidying_is : (f : Phase) → is_tidying f ≡ true → f ≡ phase.Tidying
tidying_is phase.Tidying h = refl
tidying_is phase.Outside h = absurd (false≢true h)
tidying_is phase.Between h = absurd (false≢true h)
tidying_is (phase.Moved v) h = absurd (false≢true h)
tidying_is phase.Detaching h = absurd (false≢true h)
tidying_is (phase.Committing a) h = absurd (false≢true h)
tidying_is (phase.Committed e a) h = absurd (false≢true h)
tidying_is (phase.Working e) h = absurd (false≢true h)
tidying_is (phase.Told t) h = absurd (false≢true h)
tidying_is (phase.Tidied t) h = absurd (false≢true h)
tidying_is phase.Over h = absurd (false≢true h)

-- a turn behind a call by which nothing is being done
module _ (law later : JcrLaw) (laws : later ≡ law) (old mid new : Shown) (besides : IsBeside law old mid) (idle : mid.work ≡ Idle) (run now : SessionRun)
    (between : run.phase ≡ phase.Between) (may : MayForgo law old run false) where
  idle_on : (t : Turn) → HasTurned law mid new run now t → HasTurned law old new run now t
  idle_on (turn.Stepped k) turned = turned_idle law law refl old mid besides idle run false may new now (turn.Stepped k) turned
  idle_on (turn.Said i) turned = turned_idle law law refl old mid besides idle run false may new now (turn.Said i) turned
  idle_on (turn.Waiting q) turned = turned_idle law law refl old mid besides idle run false may new now (turn.Waiting q) turned
  idle_on turn.Ended turned = turned_idle law law refl old mid besides idle run false may new now turn.Ended turned
  idle_on turn.Memory turned = tt
  idle_on turn.Read (inl (looked, reads)) = inl (
    record {
      stands = looked.stands;
      same = looked.same;
      beside = beside_both law old mid new may.asked.inside.nodes besides looked.beside;
      still = λ none. absurd (false≢true (sym none ∙ reads));
    },
    reads,
  )
  idle_on turn.Read (inr (inl back)) = absurd (false≢true (sym (ap is_committing between) ∙ back.commits))
  idle_on turn.Read (inr (inr on)) = inr (inr (record {
    before = on.before;
    behind = on.behind;
    stands = on.stands;
    same = on.same;
    beside = beside_both law old mid new may.asked.inside.nodes besides on.beside;
  }))

  pub idle_turned : (t : Turn) → HasTurned later mid new run now t → HasTurned law old new run now t
  idle_turned t turned = idle_on t (subst (λ (l : JcrLaw). HasTurned l mid new run now t) laws turned)

-- how much is left behind the begin of a split or a collection
module _ (run : SessionRun) (between : run.phase ≡ phase.Between) where
  begun_less : turns_left (record run { phase = phase.Tidying }) < turns_left run
  begun_less = subst (λ (f : Phase). 5 * (length run.commands - run.index) + 2 < 5 * (length run.commands - run.index) + stages_left f) (sym between)
      (fewer_left (length run.commands - run.index) 2 3 (let lt : 2 < 3 = omega arith in lt))

  less_both : (a b c : ℕ) → a < b → b < c → a < c
  less_both a b c h k = omega arith

  pub tidying_steps : (sooner : Type 0) (now : SessionRun) (t : Turn) → StepsOn sooner (turns_left (record run { phase = phase.Tidying })) (turns_left now) t → StepsOn ⊥ (turns_left run) (turns_left now) t
  tidying_steps sooner now (turn.Stepped k) (inl less) = inl (less_both (turns_left now) (turns_left (record run { phase = phase.Tidying })) (turns_left run) less begun_less)
  tidying_steps sooner now (turn.Stepped k) (inr same) = inl (subst (λ (n : ℕ). n < turns_left run) (sym same.0) begun_less)
  tidying_steps sooner now (turn.Said i) h = tt
  tidying_steps sooner now (turn.Waiting q) h = tt
  tidying_steps sooner now turn.Read h = tt
  tidying_steps sooner now turn.Ended h = tt
  tidying_steps sooner now turn.Memory h = tt

  pub tidying_begins : (sooner : Type 0) (law : JcrLaw) (p : Shown) (now : SessionRun) (t : Turn) → ReadsOn sooner law p (record run { phase = phase.Tidying }) now t → BeginsNearer (turns_left run) (turns_left now) t
  tidying_begins sooner law p now turn.Read on = most (turns_left now) (turns_left (record run { phase = phase.Tidying })) (turns_left run) on.1 begun_less
    where
      most : (a b c : ℕ) → a ≤ b → b < c → a < c
      most a b c h k = omega arith
  tidying_begins sooner law p now (turn.Stepped k) on = tt
  tidying_begins sooner law p now (turn.Said i) on = tt
  tidying_begins sooner law p now (turn.Waiting q) on = tt
  tidying_begins sooner law p now turn.Ended on = tt
  tidying_begins sooner law p now turn.Memory on = tt

-- a reply reads nothing
pub reply_begins : (before now : ℕ) (t : Turn) → IsReply t → BeginsNearer before now t
reply_begins before now (turn.Said i) h = tt
reply_begins before now turn.Memory h = tt
reply_begins before now t h = absurd h

pub reply_reads : (sooner : Type 0) (law : JcrLaw) (p : Shown) (run now : SessionRun) (t : Turn) → IsReply t → ReadsOn sooner law p run now t
reply_reads sooner law p run now (turn.Said i) h = tt
reply_reads sooner law p run now turn.Memory h = tt
reply_reads sooner law p run now t h = absurd h

-- a step of a split or a collection doesn't wait
pub tidy_unwaiting : (answer : StepOut) (A : Type 0) → IsTidyAnswer answer → IsWait answer ⊎ A → A
tidy_unwaiting answer A is (inr soon) = soon
tidy_unwaiting (out.Wait q) A is (inl wait) = absurd is
tidy_unwaiting x A is (inl wait) = absurd wait

-- what a step leaves to be done
module _ (law : JcrLaw) (p : Shown) (run : SessionRun) (reads : Bool) where
  abbrev tidying_run : SessionRun
  tidying_run = record run { phase = phase.Tidying }

  told_less : (t : Tidied) → turns_left (record run { phase = phase.Tidied t }) < turns_left tidying_run
  told_less t = fewer_left (length run.commands - run.index) 1 2 (let lt : 1 < 2 = omega arith in lt)

  at_most : (a b : ℕ) → a < b → a ≤ b
  at_most a b h = omega arith

  no_more : (a : ℕ) → a ≤ a
  no_more a = omega arith

  going_nears : (sooner : Type 0) (k : StepKind) → sooner → StepsOn sooner (turns_left tidying_run) (turns_left tidying_run) (going_turn k)
  going_nears sooner kind.Read soon = tt
  going_nears sooner k soon = inr (refl, soon)

  going_reads : (sooner : Type 0) (k : StepKind) → sooner → ReadsOn sooner law p tidying_run tidying_run (going_turn k)
  going_reads sooner kind.Read soon = (soon, no_more (turns_left tidying_run))
  going_reads sooner k soon = tt

  split_nears : (sooner : Type 0) (b : Bool) (t : Tidied) → StepsOn sooner (turns_left tidying_run) (turns_left (record run { phase = phase.Tidied t })) (split_turn b)
  split_nears sooner true t = tt
  split_nears sooner false t = inl (told_less t)

  split_reads : (sooner : Type 0) (b : Bool) (t : Tidied) → sooner → ReadsOn sooner law p tidying_run (record run { phase = phase.Tidied t }) (split_turn b)
  split_reads sooner true t soon = (soon, at_most (turns_left (record run { phase = phase.Tidied t })) (turns_left tidying_run) (told_less t))
  split_reads sooner false t soon = tt

  tidy_nears : (sooner : Type 0) (x : TidyCame) → sooner → StepsOn sooner (turns_left tidying_run) (turns_left (record run { phase = phase_told x })) (turn_told reads x)
  tidy_nears sooner (came.Going k) soon = going_nears sooner k soon
  tidy_nears sooner (came.Ended (tidied.Split e)) soon = split_nears sooner reads (tidied.Split e)
  tidy_nears sooner (came.Ended (tidied.Collected d)) soon = inl (told_less (tidied.Collected d))
  tidy_nears sooner came.Refused soon = tt

  tidy_reads : (sooner : Type 0) (x : TidyCame) → sooner → ReadsOn sooner law p tidying_run (record run { phase = phase_told x }) (turn_told reads x)
  tidy_reads sooner (came.Going k) soon = going_reads sooner k soon
  tidy_reads sooner (came.Ended (tidied.Split e)) soon = split_reads sooner reads (tidied.Split e) soon
  tidy_reads sooner (came.Ended (tidied.Collected d)) soon = tt
  tidy_reads sooner came.Refused soon = tt

  pub tidy_nears_by : (sooner : Type 0) (x : TidyCame) (now : SessionRun) (t : Turn) → now ≡ record run { phase = phase_told x } → t ≡ turn_told reads x → sooner
      → StepsOn sooner (turns_left tidying_run) (turns_left now) t
  tidy_nears_by sooner x now t is turns soon =
      subst (λ (y : Turn). StepsOn sooner (turns_left tidying_run) (turns_left now) y) (sym turns)
      (subst (λ (y : SessionRun). StepsOn sooner (turns_left tidying_run) (turns_left y) (turn_told reads x)) (sym is) (tidy_nears sooner x soon))

  pub tidy_reads_by : (sooner : Type 0) (x : TidyCame) (now : SessionRun) (t : Turn) → now ≡ record run { phase = phase_told x } → t ≡ turn_told reads x → sooner
      → ReadsOn sooner law p tidying_run now t
  tidy_reads_by sooner x now t is turns soon =
      subst (λ (y : Turn). ReadsOn sooner law p tidying_run now y) (sym turns)
      (subst (λ (y : SessionRun). ReadsOn sooner law p tidying_run y (turn_told reads x)) (sym is) (tidy_reads sooner x soon))

-- behind a call that left all as it was
module _ (law : JcrLaw) (old mid new : Shown) (run now : SessionRun) (stands : Stands law old (record run { phase = phase.Tidying }))
    (waits : OthersAlone (starts_of law) (says_of law) old mid old.work old.room) where
  abbrev waiting : SessionRun
  waiting = record run { phase = phase.Tidying }

  besides_wait : IsBeside law old mid
  besides_wait = by_waits law old mid old.work old.room waits

  wait_counted : (t : Turn) → HasCounted law mid new waiting now t → HasCounted law old new waiting now t
  wait_counted t turned =
      has_turned_later law old mid new waiting now t stands.nodes (kept waits.work_is (waits.same_due refl)) besides_wait
      (never_ends law mid new waiting now (in_beside law old mid besides_wait stands.nodes stands.at.0)) turned

  wait_on : (t : Turn) → HasTurned law mid new waiting now t → HasTurned law old new waiting now t
  wait_on (turn.Stepped k) turned = wait_counted (turn.Stepped k) turned
  wait_on (turn.Said i) turned = wait_counted (turn.Said i) turned
  wait_on (turn.Waiting q) turned = wait_counted (turn.Waiting q) turned
  wait_on turn.Ended turned = wait_counted turn.Ended turned
  wait_on turn.Memory turned = tt
  wait_on turn.Read turned =
      let on = read_on law mid new run now turned in
      inr (inr (record { before = on.before; behind = on.behind; stands = on.stands; same = on.same; beside = beside_both law old mid new stands.nodes besides_wait on.beside }))

  pub wait_turned : (later : JcrLaw) → later ≡ law → (t : Turn) → HasTurned later mid new waiting now t → HasTurned law old new waiting now t
  wait_turned later laws t turned = wait_on t (subst (λ (l : JcrLaw). HasTurned l mid new waiting now t) laws turned)

  -- it ends sooner
  pub wait_sooner : (before between after_it : ℕ) → LastsOn before between old mid → EndsSooner between after_it mid → EndsSooner before after_it old
  wait_sooner before between after_it lasts soon alone =
      let none : waits.others ≡ [] = nobody old.beside.seats waits.others alone waits.alone in
      let same : mid.history ≡ old.history = waits.grows.grown ∙ ap (λ (o : Past). after [] (after o old.history)) none in
      subst (λ (n : ℕ). after_it < n) (lasts same) (soon (subst (λ (b : Beside). is_some b.seats ≡ true) (sym waits.beside) alone))

  pub wait_steps : (before between after_it : ℕ) → LastsOn before between old mid → (t : Turn) → StepsOn (WorksSooner between after_it mid waiting) (turns_left waiting) (turns_left now) t
      → StepsOn (WorksSooner before after_it old waiting) (turns_left waiting) (turns_left now) t
  wait_steps before between after_it lasts (turn.Stepped k) (inl less) = inl less
  wait_steps before between after_it lasts (turn.Stepped k) (inr (same, works)) = inr (same, (works.0, wait_sooner before between after_it lasts works.1))
  wait_steps before between after_it lasts (turn.Said i) h = tt
  wait_steps before between after_it lasts (turn.Waiting q) h = tt
  wait_steps before between after_it lasts turn.Read h = tt
  wait_steps before between after_it lasts turn.Ended h = tt
  wait_steps before between after_it lasts turn.Memory h = tt

  pub wait_reads : (later : JcrLaw) (before between after_it : ℕ) → LastsOn before between old mid → (t : Turn) → ReadsOn (EndsSooner between after_it mid) later mid waiting now t
      → ReadsOn (EndsSooner before after_it old) law old waiting now t
  wait_reads later before between after_it lasts turn.Read on = (wait_sooner before between after_it lasts on.0, on.1)
  wait_reads later before between after_it lasts (turn.Stepped k) on = tt
  wait_reads later before between after_it lasts (turn.Said i) on = tt
  wait_reads later before between after_it lasts (turn.Waiting q) on = tt
  wait_reads later before between after_it lasts turn.Ended on = tt
  wait_reads later before between after_it lasts turn.Memory on = tt

-- what is due isn't to be read
pub unread_due : (d : Option StepKind) → (d ≡ Some kind.Read → ⊥) → is_due kind.Read d ≡ false
unread_due None never = refl
unread_due (Some kind.Read) never = absurd (never refl)
unread_due (Some k) never = refl
