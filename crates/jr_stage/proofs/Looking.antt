-- A reading step leaves the stage where it was, but for what its session has read.
use Rattle.std.proofs.Common.{◌≡◌, ◌⊎◌, inl, inr, ◌||◌, ℕ, ◌+◌, ◌-◌, ◌*◌, ◌<◌, ◌≤◌, length, Bool, cond, true, false, ◌&&◌, Some, None, Option, List, [], ◌∷◌, is_some, refl, sym, ap, ◌∙◌, subst, arith}
use Rattle.std.specs.Prelude.{◌==◌, nat_le, slice_get, slice_set}
use Rattle.std.specs.Option.{option_map, option_map_or}
use Rattle.std.specs.Borrow.{GName}
use Rattle.std.proofs.lemmas.Bool.Decides.{nat_tests}
use mathlib.Core.Bool.{false≢true}
use Rattle.jr_rev.specs.declared.revision.Revision.{Revision}
use Rattle.jr_rev.specs.declared.vector.RevVec.{RevVec}
use Rattle.jr_part.specs.declared.need.Need.TheVariants as need
use Rattle.oak_machine.specs.declared.event.Event.{Event}
use Rattle.oak_machine.specs.declared.event.Event.TheVariants as event
use Rattle.oak_machine.specs.declared.event.StepKind.{StepKind}
use Rattle.oak_machine.specs.declared.event.StepKind.TheVariants as kind
use Rattle.oak_machine.specs.History.{History, Past}
use Rattle.oak_machine.specs.Laws.{after}
use Rattle.oak_machine.specs.Steps.{is_kind, step_number}
use Rattle.oak_port.specs.Ports.{Beside, Collecting, Detaching, Idle, Learning, Passing, Publishing, Seat as PortSeat, Shown, Starting, Sweeping, Telling, Work, Writing, is_due}
use Rattle.oak_port.specs.declared.task.Task.{Task}
use Rattle.oak_port.specs.declared.task.Task.TheVariants as task
use Rattle.oak_step.specs.Works.{kind_due}
use Rattle.oak_step.specs.declared.work.Work.{Work as StepWork}
use Rattle.oak_world.specs.Left.{left_in}
use Rattle.oak_world.specs.Seen.{seat_of, shown_at, shown_work}
use Rattle.oak_world.specs.Worlds.{WorldOf, actor_in, live, work_in}
use Rattle.jcr_law.specs.declared.law.JcrLaw.{JcrLaw}
use Rattle.jcr_law.specs.State.{Call, call_of}
use Rattle.jcr_steps.specs.declared.tidying.Tidied.{Tidied}
use Rattle.jcr_steps.specs.declared.tidying.Tidied.TheVariants as tidied
use Rattle.jcr_trans.specs.declared.command.Command.{Command}
use Rattle.jcr_trans.specs.declared.command.Command.TheVariants as command
use Rattle.jcr_run.specs.Nearing.{EndsSooner, HasNeared, LessIsUnread, turns_left, stages_left, unread_of}
use Rattle.jcr_run.specs.declared.run.Fetch.{Fetch}
use Rattle.jcr_run.specs.declared.run.Fetch.TheVariants as fetch
use Rattle.jcr_run.specs.declared.run.Phase.{Phase}
use Rattle.jcr_run.specs.declared.run.Phase.TheVariants as phase
use Rattle.jcr_run.specs.declared.run.SessionRun.{SessionRun}
use Rattle.jcr_run.specs.Standing.{HasLooked, HasLookedBack, HasReadOn, IsBeside, IsCalled, IsEndFor, IsReading, IsTidyWork, IsWorkFor, Stands, StandsAt, is_between, is_committing, is_revision_written, is_saving, is_tidied, is_tidying, is_working, may_read}
use Rattle.jr_script.specs.declared.script.Entry.{Entry}
use Rattle.jr_script.specs.declared.script.Entry.TheVariants as entry
use Rattle.jr_script.specs.Bounds.{IsWithin}
use Rattle.jr_script.specs.declared.script.Script.{Script}
use Rattle.jr_stage.specs.declared.flight.Flight.{Flight}
use Rattle.jr_stage.specs.declared.stage.Seat.{Seat}
use Rattle.jr_stage.specs.declared.stage.Stage.{Stage}
use Rattle.jr_stage.specs.Awaited.{IsSeenBut}
use Rattle.jr_stage.specs.Flights.{IsFlight}
use Rattle.jr_stage.specs.Places.{history_at, is_over}
use Rattle.jr_stage.specs.Parts.{by_entry}
use Rattle.jr_stage.specs.SoFar.{IsCutSoFar, is_last_due}
use Rattle.jr_stage.specs.Nearing.{IsAsNear, IsFurther, ReadsNearer, StaysNearer, commits_at, left_at, next_call, phase_at, place_at, reads_at, saves_at, steps_at, unknown_at, unread_at, works_at}
use Rattle.jr_stage.specs.Stages.{Closes, HasOnlyRead, MakesReading, IsSeated, IsStage, awaited, due_at, has_come, has_come_by, law_of, past_of}
use Rattle.jr_stage.proofs.Coming.{other_seats, set_other}
use Rattle.jr_stage.proofs.Due.{at_commit, last_commits}
use Rattle.jr_stage.proofs.Flying.{halves, none_is_some, some_is_some}
use Rattle.jr_stage.proofs.Renaming.{stands_renamed}
use Rattle.jr_stage.proofs.SoFar.{cut_closes, cut_due}
use Rattle.jr_stage.proofs.Turning.{set_long, set_same}
use Rattle.jr_stage.proofs.Uncommitted.{IsUncommitted, uncommitted}

equal : (a b : ℕ) → (a == b) ≡ true → a ≡ b
equal a b h = grind (arith, nat_tests)

-- ---- before a command

-- before a command that reads no task of it is under way, and what the command is run with is known
pub between_works : (f : Phase) → is_between f ≡ true → is_working f ≡ false
between_works phase.Between h = refl
between_works phase.Outside h = absurd (false≢true h)
between_works (phase.Moved v) h = absurd (false≢true h)
between_works phase.Detaching h = absurd (false≢true h)
between_works (phase.Committing a) h = absurd (false≢true h)
between_works (phase.Committed e a) h = absurd (false≢true h)
between_works (phase.Working e) h = absurd (false≢true h)
between_works (phase.Told t) h = absurd (false≢true h)
between_works phase.Tidying h = absurd (false≢true h)
between_works (phase.Tidied t) h = absurd (false≢true h)
between_works phase.Over h = absurd (false≢true h)

called_between : (law : JcrLaw) (p : Shown) (run : SessionRun) (f : Phase) → is_between f ≡ true → StandsAt law p run f → (c : Call) × IsCalled law p c
called_between law p run phase.Between h at = (at.1.call, at.1.is)
called_between law p run phase.Outside h at = absurd (false≢true h)
called_between law p run (phase.Moved v) h at = absurd (false≢true h)
called_between law p run phase.Detaching h at = absurd (false≢true h)
called_between law p run (phase.Committing a) h at = absurd (false≢true h)
called_between law p run (phase.Committed e a) h at = absurd (false≢true h)
called_between law p run (phase.Working e) h at = absurd (false≢true h)
called_between law p run (phase.Told t) h at = absurd (false≢true h)
called_between law p run phase.Tidying h at = absurd (false≢true h)
called_between law p run (phase.Tidied t) h at = absurd (false≢true h)
called_between law p run phase.Over h at = absurd (false≢true h)

-- where no commit is at work no last write is due
no_last_write : (w : StepWork) → at_commit (shown_work w) ≡ false → is_last_due (kind_due w) ≡ false
no_last_write w none = by (is_last_due (kind_due w)) refl
  where
    by : (b : Bool) → is_last_due (kind_due w) ≡ b → b ≡ false
    by true last = absurd (false≢true (sym none ∙ last_commits w last))
    by false last = refl

-- ---- where a session stands hangs on the history, its work and its room

module _ (law : JcrLaw) (run : SessionRun) (b : Beside) (d : Option StepKind) where
  abbrev told : History → ℕ → Work → Option ℕ → Shown
  told h s w r = record { history = h; session = s; work = w; room = r; due = d; beside = b }

  stands_told : (p : Shown) (h : History) (w : Work) (r : Option ℕ) → h ≡ p.history → w ≡ p.work → r ≡ p.room → Stands law p run → Stands law (record { history = h; session = p.session; work = w; room = r; due = d; beside = b }) run
  stands_told p h w r hs ws rs stands =
      subst (λ (x : History). Stands law (told x p.session w r) run) (sym hs)
      (subst (λ (x : Work). Stands law (told p.history p.session x r) run) (sym ws)
      (subst (λ (x : Option ℕ). Stands law (told p.history p.session p.work x) run) (sym rs)
      (stands_renamed law p b d run stands)))

-- ---- what each reading step leaves

-- nothing was added, and the session commits as it did; a last write that is due to it stays due, and what it awaits is what it awaited
pub record LeavesStanding (n : GName) (s : ℕ) (old new : WorldOf JcrLaw) (run now : SessionRun) : Type 0 where
  pub law : new.law ≡ old.law
  pub stands : Stands old.law (shown_at n new s) now
  pub beside : IsBeside old.law (shown_at n old s) (shown_at n new s)
  pub session : now.session ≡ run.session
  pub commands : now.commands ≡ run.commands
  pub index : now.index ≡ run.index
  pub saves : is_saving now.phase ≡ is_saving run.phase
  pub commits : is_committing now.phase ≡ is_committing run.phase
  pub last : is_last_due (due_at old s) ≡ true → is_last_due (due_at new s) ≡ true
  pub awaits : (r : Revision) → awaited (shown_work (work_in old.actors s)) ≡ Some r → awaited (shown_work (work_in new.actors s)) ≡ Some r

-- before a command that reads no commit is under way
pub between_commits : (f : Phase) → is_between f ≡ true → is_committing f ≡ false
between_commits phase.Between h = refl
between_commits f h = absurd (false≢true h)

pub reads_commits : (run : SessionRun) → may_read run ≡ true → is_committing run.phase ≡ false
reads_commits run reads = between_commits run.phase (halves (is_between run.phase) _ reads).0

-- where no commit is under way none is due to make a last write, and none is awaited
module _ (n : GName) (s : ℕ) (old : WorldOf JcrLaw) (run : SessionRun) (stands : Stands old.law (shown_at n old s) run) (apart : is_committing run.phase ≡ false) where
  is_uncommitted : IsUncommitted (shown_work (work_in old.actors s))
  is_uncommitted = uncommitted old.law (shown_at n old s) run stands apart

  none_last : {A : Type 0} → is_last_due (due_at old s) ≡ true → A
  none_last last = absurd (false≢true (sym is_uncommitted.apart ∙ last_commits (work_in old.actors s) last))

  none_awaited : {A : Type 0} (r : Revision) → awaited (shown_work (work_in old.actors s)) ≡ Some r → A
  none_awaited r is = none_is_some r (sym is_uncommitted.none ∙ is)

-- one before a command, or none: where a last write is due, or a revision is awaited, nothing is read
pub leaves_read : (n : GName) (s : ℕ) (old new : WorldOf JcrLaw) (run now : SessionRun) → Stands old.law (shown_at n old s) run → MakesReading n s old new run now → LeavesStanding n s old new run now
leaves_read n s old new run now stands (law, looked) = record {
  law = law;
  stands = looked.stands;
  beside = looked.beside;
  session = looked.same.session;
  commands = looked.same.commands;
  index = looked.same.index;
  saves = ap is_saving looked.same.phase;
  commits = ap is_committing looked.same.phase;
  last = λ last. mine_due last (may_read run) refl;
  awaits = λ r is. mine_awaited r is (may_read run) refl;
}
  where
    mine_due : is_last_due (due_at old s) ≡ true → (b : Bool) → may_read run ≡ b → is_last_due (due_at new s) ≡ true
    mine_due last true reads = none_last n s old run stands (reads_commits run reads) last
    mine_due last false rests = ap (λ (x : Shown). is_last_due x.due) (looked.still rests).0 ∙ last

    mine_awaited : (r : Revision) → awaited (shown_work (work_in old.actors s)) ≡ Some r → (b : Bool) → may_read run ≡ b → awaited (shown_work (work_in new.actors s)) ≡ Some r
    mine_awaited r is true reads = none_awaited n s old run stands (reads_commits run reads) r is
    mine_awaited r is false rests = ap (λ (x : Shown). awaited x.work) (looked.still rests).0 ∙ is

-- where a reading step is due no last write is
no_two_kinds : (k : StepKind) → is_kind kind.Read k ≡ true → is_kind kind.Last k ≡ true → ⊥
no_two_kinds k read last = false≢true (ap (λ (m : ℕ). m == 6) (equal 2 (step_number k) read) ∙ last_first)
  where
    last_first : (step_number k == 6) ≡ true
    last_first = ap (λ (m : ℕ). m == 6) (sym (equal 6 (step_number k) last))

no_last_read : (o : Option StepKind) → is_due kind.Read o ≡ true → is_last_due o ≡ true → ⊥
no_last_read None read last = false≢true read
no_last_read (Some k) read last = no_two_kinds k read last

-- while a revision is written none is awaited
writing_awaits : (w : Work) → is_revision_written w ≡ true → awaited w ≡ None
writing_awaits (Writing r) h = refl
writing_awaits w h = absurd (false≢true h)

-- one inside a commit
pub leaves_look : (n : GName) (s : ℕ) (old new : WorldOf JcrLaw) (run now : SessionRun) → new.law ≡ old.law → HasLookedBack old.law (shown_at n old s) (shown_at n new s) run now → LeavesStanding n s old new run now
leaves_look n s old new run now law looked = record {
  law = law;
  stands = looked.stands;
  beside = looked.beside;
  session = ap (λ (x : SessionRun). x.session) looked.same;
  commands = ap (λ (x : SessionRun). x.commands) looked.same;
  index = ap (λ (x : SessionRun). x.index) looked.same;
  saves = ap (λ (x : SessionRun). is_saving x.phase) looked.same;
  commits = ap (λ (x : SessionRun). is_committing x.phase) looked.same;
  last = λ last. absurd (no_last_read (due_at old s) looked.due last);
  awaits = λ r is. none_is_some r (sym (writing_awaits (shown_work (work_in old.actors s)) looked.writes) ∙ is);
}

-- before and behind one of a split or a collection
before_commits : (f : Phase) → (is_between f || is_tidying f) ≡ true → (is_saving f ≡ false) × (is_committing f ≡ false)
before_commits phase.Between h = (refl, refl)
before_commits phase.Tidying h = (refl, refl)
before_commits f h = absurd (false≢true h)

behind_commits : (f : Phase) → (is_tidying f || is_tidied f) ≡ true → (is_saving f ≡ false) × (is_committing f ≡ false)
behind_commits phase.Tidying h = (refl, refl)
behind_commits (phase.Tidied t) h = (refl, refl)
behind_commits f h = absurd (false≢true h)

pub leaves_tidying : (n : GName) (s : ℕ) (old new : WorldOf JcrLaw) (run now : SessionRun) → Stands old.law (shown_at n old s) run → new.law ≡ old.law → HasReadOn old.law (shown_at n old s) (shown_at n new s) run now → LeavesStanding n s old new run now
leaves_tidying n s old new run now stands law read =
    let before = before_commits run.phase read.before in
    let behind = behind_commits now.phase read.behind in
    record {
      law = law;
      stands = read.stands;
      beside = read.beside;
      session = read.same.session;
      commands = read.same.commands;
      index = read.same.index;
      saves = behind.0 ∙ sym before.0;
      commits = behind.1 ∙ sym before.1;
      last = λ last. none_last n s old run stands before.1 last;
      awaits = λ r is. none_awaited n s old run stands before.1 r is;
    }

-- ---- a reading step

module _ (n : GName) (s : ℕ) (old new : Stage) (seat seat_now : Seat)
    (stage : IsStage old) (at : slice_get old.seats.items s ≡ Some seat) (script_same : new.script.value ≡ old.script.value) (schedule_same : new.schedule ≡ old.schedule) (seats_now : new.seats.items ≡ slice_set old.seats.items s seat_now)
    (kept : seat_now.flight ≡ seat.flight) (read : LeavesStanding n s old.world new.world seat.run seat_now.run) where
  seated : IsSeated old.script.value old.world s seat
  seated = stage.each s seat at

  none_added : read.beside.others ≡ []
  none_added = read.beside.alone

  same_history : (live new.world.history) ≡ (live old.world.history)
  same_history = read.beside.grows.grown ∙ ap (λ (o : Past). after o (live old.world.history)) none_added

  same_past : past_of new ≡ past_of old
  same_past = ap (λ (h : History). h.past) same_history

  seats_are : (a b : List PortSeat) → Some a ≡ Some b → a ≡ b
  seats_are a b h = some_is_some a b h

  other_seat : (t : ℕ) → (t == s) ≡ false → seat_of (actor_in new.world.actors t) ≡ seat_of (actor_in old.world.actors t)
  other_seat t other = other_seats old.world.actors new.world.actors s t (seats_are _ _ (ap (λ (b : Beside). b.seats) read.beside.beside)) other

  mine : IsSeated old.script.value new.world s seat_now
  mine = record {
    session = read.session ∙ seated.session;
    stands = λ m. subst (λ (l : JcrLaw). Stands l (shown_at m new.world s) seat_now.run) (sym read.law)
        (stands_renamed old.world.law (shown_at n new.world s) (shown_at m new.world s).beside (shown_at m new.world s).due seat_now.run read.stands);
    flight = subst (λ (p : Past). IsFlight p s seat_now.flight) (sym same_past) (subst (λ (o : Option Flight). IsFlight (past_of old) s o) (sym kept) seated.flight);
    seen = subst (λ (p : Past). IsSeenBut old.script.value p s (awaited (shown_work (work_in new.world.actors s)))) (sym same_past) (λ r m u. read.awaits r (seated.seen r m u));
  }

  -- the others are seated as they were
  theirs : (t : ℕ) (other : Seat) → (t == s) ≡ false → IsSeated old.script.value old.world t other → IsSeated old.script.value new.world t other
  theirs t other apart is = record {
    session = is.session;
    stands = λ m. subst (λ (l : JcrLaw). Stands l (shown_at m new.world t) other.run) (sym read.law)
        (stands_told old.world.law other.run (shown_at m new.world t).beside (shown_at m new.world t).due (shown_at m old.world t) (live new.world.history) (shown_work (work_in new.world.actors t)) (actor_in new.world.actors t).reply
        same_history (ap (λ (x : PortSeat). x.work) (other_seat t apart)) (ap (λ (x : PortSeat). x.room) (other_seat t apart)) (is.stands m));
    flight = subst (λ (p : Past). IsFlight p t other.flight) (sym same_past) is.flight;
    seen = subst (λ (p : Past). IsSeenBut old.script.value p t (awaited (shown_work (work_in new.world.actors t)))) (sym same_past) (λ r m u. ap (λ (x : PortSeat). awaited x.work) (other_seat t apart) ∙ is.seen r m u);
  }

  each_now : (t : ℕ) (other : Seat) → slice_get new.seats.items t ≡ Some other → IsSeated old.script.value new.world t other
  each_now t other is = elim (t == s) as (λ b. (t == s) ≡ b → IsSeated old.script.value new.world t other) [
    | true ↦ λ same.
        let e : t ≡ s = equal t s same in
        let it : seat_now ≡ other = some_is_some seat_now other (sym (set_same old.seats.items s seat_now seat at) ∙ (ap (λ (l : List Seat). slice_get l s) (sym seats_now) ∙ (ap (slice_get new.seats.items) (sym e) ∙ is))) in
        subst (λ (x : ℕ). IsSeated old.script.value new.world x other) (sym e) (subst (λ (x : Seat). IsSeated old.script.value new.world s x) it mine)
    | false ↦ λ apart. theirs t other apart (stage.each t other (sym (set_other old.seats.items s t seat_now apart) ∙ (ap (λ (l : List Seat). slice_get l t) (sym seats_now) ∙ is)))
  ] refl

  stage_now : IsStage new
  stage_now = record {
    law = read.law ∙ (stage.law ∙ ap law_of (sym script_same));
    history = same_history ∙ (stage.history ∙ (ap (λ (x : Script). history_at x (past_of old)) (sym script_same) ∙ ap (history_at new.script.value) (sym same_past)));
    within = subst (λ (x : Script). IsWithin x) (sym script_same) stage.within;
    schedule = schedule_same ∙ (stage.schedule ∙ ap (λ (x : Script). x.schedule) (sym script_same));
    seats = ap (λ (l : List Seat). length l) seats_now ∙ (set_long old.seats.items s seat_now ∙ (stage.seats ∙ ap (λ (x : Script). length x.sessions) (sym script_same)));
    each = λ t other is. subst (λ (x : Script). IsSeated x new.world t other) (sym script_same) (each_now t other is);
  }

  at_now : slice_get new.seats.items s ≡ Some seat_now
  at_now = ap (λ (l : List Seat). slice_get l s) seats_now ∙ set_same old.seats.items s seat_now seat at

  phase_of : (x : Stage) (y : Seat) → slice_get x.seats.items s ≡ Some y → phase_at x s ≡ Some y.run.phase
  phase_of x y there = ap (option_map (λ (z : Seat). z.run.phase)) there

  works_is : (x : Stage) (y : Seat) → slice_get x.seats.items s ≡ Some y → works_at x s ≡ is_working y.run.phase
  works_is x y there = ap (λ (o : Option Phase). option_map_or is_working o false) (phase_of x y there)

  commits_is : (x : Stage) (y : Seat) → slice_get x.seats.items s ≡ Some y → commits_at x s ≡ is_committing y.run.phase
  commits_is x y there = ap (λ (o : Option Phase). option_map_or is_committing o false) (phase_of x y there)

  saves_is : (x : Stage) (y : Seat) → slice_get x.seats.items s ≡ Some y → saves_at x s ≡ is_saving y.run.phase
  saves_is x y there = ap (λ (o : Option Phase). option_map_or is_saving o false) (phase_of x y there)

  place_is : (x : Stage) (y : Seat) → slice_get x.seats.items s ≡ Some y → place_at x s ≡ stages_left y.run.phase
  place_is x y there = ap (λ (o : Option Phase). option_map_or stages_left o 0) (phase_of x y there)

  reads_is : (x : Stage) (y : Seat) → slice_get x.seats.items s ≡ Some y → reads_at x s ≡ is_some y.run.fetch
  reads_is x y there = ap (λ (o : Option Seat). option_map_or (λ z. is_some z.run.fetch) o false) there

  left_is : (x : Stage) (y : Seat) → slice_get x.seats.items s ≡ Some y → left_at x s ≡ turns_left y.run
  left_is x y there = ap (λ (o : Option Seat). option_map_or (λ z. turns_left z.run) o 0) there

  -- the replies that are left are as many as they were
  left_now : turns_left seat_now.run ≡ 5 * (length seat.run.commands - seat.run.index) + stages_left seat_now.run.phase
  left_now =
      ap (λ (cs : List Command). 5 * (length cs - seat_now.run.index) + stages_left seat_now.run.phase) read.commands
      ∙ ap (λ (i : ℕ). 5 * (length seat.run.commands - i) + stages_left seat_now.run.phase) read.index

  -- where its phase is as far from the reply, or nearer, so is the session
  module _ (same : stages_left seat_now.run.phase ≡ stages_left seat.run.phase) where
    place_same : place_at new s ≡ place_at old s
    place_same = place_is new seat_now at_now ∙ (same ∙ sym (place_is old seat at))

    left_same : left_at new s ≡ left_at old s
    left_same = left_is new seat_now at_now ∙ (left_now ∙ (ap (λ (m : ℕ). 5 * (length seat.run.commands - seat.run.index) + m) same ∙ sym (left_is old seat at)))

  further_by : stages_left seat_now.run.phase < stages_left seat.run.phase → IsFurther old new s
  further_by less = record {
    left = subst (λ (m : ℕ). m < left_at old s) (sym (left_is new seat_now at_now ∙ left_now))
        (subst (λ (m : ℕ). 5 * (length seat.run.commands - seat.run.index) + stages_left seat_now.run.phase < m) (sym (left_is old seat at)) (more_before (5 * (length seat.run.commands - seat.run.index)) (stages_left seat_now.run.phase) (stages_left seat.run.phase) less));
    place = subst (λ (m : ℕ). m < place_at old s) (sym (place_is new seat_now at_now)) (subst (λ (m : ℕ). stages_left seat_now.run.phase < m) (sym (place_is old seat at)) less);
  }
    where
      more_before : (m a b : ℕ) → a < b → m + a < m + b
      more_before m a b h = omega arith

  -- where no last write is due before and behind it, nothing comes to where an entry waits
  come_is : (x : Stage) (y : Seat) → slice_get x.seats.items s ≡ Some y → (e : Entry) → has_come x s e ≡ option_map_or (λ f. has_come_by f (due_at x.world s) e) y.flight false
  come_is x y there e = ap (λ (o : Option Seat). option_map_or (λ z. option_map_or (λ f. has_come_by f (due_at x.world s) e) z.flight false) o false) there

  come_due : (f : Flight) (d b : Option StepKind) → is_last_due d ≡ is_last_due b → (e : Entry) → has_come_by f d e ≡ has_come_by f b e
  come_due f d b same (entry.Last t) = ap (λ (x : Bool). nat_le f.documents f.written && f.undecided && x) same
  come_due f d b same (entry.Draw t) = refl
  come_due f d b same (entry.Write t m) = refl
  come_due f d b same (entry.Turn t) = refl
  come_due f d b same (entry.Say t m) = refl
  come_due f d b same (entry.Read t) = refl

  come_flight : (o : Option Flight) (d b : Option StepKind) → is_last_due d ≡ is_last_due b → (e : Entry) → option_map_or (λ f. has_come_by f d e) o false ≡ option_map_or (λ f. has_come_by f b e) o false
  come_flight None d b same e = refl
  come_flight (Some f) d b same e = come_due f d b same e

  come_same : is_last_due (due_at new.world s) ≡ is_last_due (due_at old.world s) → (e : Entry) → has_come new s e ≡ has_come old s e
  come_same same e =
      come_is new seat_now at_now e
      ∙ (ap (λ (o : Option Flight). option_map_or (λ f. has_come_by f (due_at new.world s) e) o false) kept
      ∙ (come_flight seat.flight (due_at new.world s) (due_at old.world s) same e
      ∙ sym (come_is old seat at e)))

  -- where no commit is under way no last write is due
  same_last : commits_at old s ≡ false → is_last_due (due_at new.world s) ≡ is_last_due (due_at old.world s)
  same_last idle =
      let apart : is_committing seat.run.phase ≡ false = sym (commits_is old seat at) ∙ idle in
      no_last_write (work_in new.world.actors s) (uncommitted old.world.law (shown_at n new.world s) seat_now.run read.stands (read.commits ∙ apart)).apart
      ∙ sym (no_last_write (work_in old.world.actors s) (uncommitted old.world.law (shown_at n old.world s) seat.run (seated.stands n) apart).apart)

  only_by : IsFurther old new s ⊎ IsAsNear old new s → HasOnlyRead old new s
  only_by near = record {
    script = script_same;
    stage = stage_now;
    past = same_past;
    others = λ t apart. ap (λ (x : PortSeat). x.due) (other_seat t apart);
    last = read.last;
    saves = saves_is new seat_now at_now ∙ (read.saves ∙ sym (saves_is old seat at));
    commits = commits_is new seat_now at_now ∙ (read.commits ∙ sym (commits_is old seat at));
    near = near;
    comes = λ idle e. come_same (same_last idle) e;
  }

  -- its entry has no events
  pub read_closes : Closes old new (by_entry (entry.Read s))
  read_closes = record {
    script = script_same;
    stage = stage_now;
    over = λ t over. subst (λ (p : Past). is_over old.script.value p t ≡ true) (sym same_past) over;
    closes = λ parts h. (
      record { rule = by_entry (entry.Read s); events = [] },
      refl,
      subst (λ (p : Past). IsCutSoFar old.script.value (due_at new.world) (record { rule = by_entry (entry.Read s); events = [] } ∷ parts) [] p) (sym same_past)
          (cut_closes old.script.value (due_at new.world) (by_entry (entry.Read s)) parts [] (past_of old)
          (cut_due old.script.value (due_at old.world) (due_at new.world) last_stays parts [] (past_of old) h) refl tt),
    );
  }
    where
      last_stays : (t : ℕ) → is_last_due (due_at old.world t) ≡ true → is_last_due (due_at new.world t) ≡ true
      last_stays t last = elim (t == s) as (λ b. (t == s) ≡ b → is_last_due (due_at new.world t) ≡ true) [
        | true ↦ λ same. subst (λ (x : ℕ). is_last_due (due_at new.world x) ≡ true) (sym (equal t s same)) (read.last (subst (λ (x : ℕ). is_last_due (due_at old.world x) ≡ true) (equal t s same) last))
        | false ↦ λ apart. ap (λ (x : PortSeat). is_last_due x.due) (other_seat t apart) ∙ last
      ] refl

  -- ---- one that was made before a command

  module _ (same : seat_now.run.phase ≡ seat.run.phase) (reads_now : may_read seat.run ≡ true) where
    between : is_between seat.run.phase ≡ true
    between = (halves (is_between seat.run.phase) _ reads_now).0

    unworking : works_at old s ≡ false
    unworking = works_is old seat at ∙ between_works seat.run.phase between

    unworking_now : works_at new s ≡ false
    unworking_now = works_is new seat_now at_now ∙ between_works seat_now.run.phase (ap is_between same ∙ between)

    pub only_reads : HasOnlyRead old new s
    only_reads = only_by (inr (record {
      left = left_same (ap stages_left same);
      place = place_same (ap stages_left same);
      works = unworking_now ∙ sym unworking;
      steps = λ works. absurd (false≢true (sym unworking ∙ works));
    }))

    called : (c : Call) × IsCalled old.world.law (shown_at n old.world s) c
    called = called_between old.world.law (shown_at n old.world s) seat.run seat.run.phase between (seated.stands n).at

    call_now : next_call new s ≡ next_call old s
    call_now =
        ap (λ (l : JcrLaw). call_of l (live new.world.history).begin (live new.world.history).past s) read.law
        ∙ ap (λ (h : History). call_of old.world.law h.begin h.past s) same_history

    unread_is : (stage : Stage) (x : Seat) → works_at stage s ≡ false → slice_get stage.seats.items s ≡ Some x → next_call stage s ≡ Some called.0 → unread_at stage s ≡ unread_of called.0 x.run
    unread_is stage x idle there is =
        ap (λ (b : Bool). cond b (steps_at stage s) (unknown_at stage s)) idle
        ∙ (ap (λ (o : Option Seat). option_map_or (λ y. option_map_or (λ c. unread_of c y.run) (next_call stage s) 0) o 0) there
        ∙ ap (λ (o : Option Call). option_map_or (λ c. unread_of c x.run) o 0) is)

    unread_old : unread_at old s ≡ unread_of called.0 seat.run
    unread_old = unread_is old seat unworking at called.1

    unread_new : unread_at new s ≡ unread_of called.0 seat_now.run
    unread_new = unread_is new seat_now unworking_now at_now (call_now ∙ called.1)

    pub reads_nearer : HasNeared (EndsSooner (left_in old.world s) (left_in new.world s) (shown_at n old.world s)) old.world.law (shown_at n old.world s) seat.run seat_now.run → ReadsNearer old new s
    reads_nearer nears =
        inr (subst (λ (b : Bool). StaysNearer b old new s) (ap (λ b. b && is_some seat_now.run.fetch) (sym (reads_is old seat at)) ∙ ap (λ b. reads_at old s && b) (sym (reads_is new seat_now at_now)))
        (by (is_some seat.run.fetch && is_some seat_now.run.fetch) (nears called.0 called.1)))
      where
        by : (b : Bool) → LessIsUnread (EndsSooner (left_in old.world s) (left_in new.world s) (shown_at n old.world s)) b (unread_of called.0 seat.run) (unread_of called.0 seat_now.run) → StaysNearer b old new s
        by true (same, sooner) = (unread_new ∙ (same ∙ sym unread_old), sooner refl)
        by false less = subst (λ (m : ℕ). unread_at new s < m) (sym unread_old) (subst (λ (m : ℕ). m < unread_of called.0 seat.run) (sym unread_new) less)

  -- ---- one that was made inside a task, which goes on

  module _ (works : is_working seat.run.phase ≡ true) (same : seat_now.run.phase ≡ seat.run.phase) (sooner : left_in new.world s < left_in old.world s) where
    works_old : works_at old s ≡ true
    works_old = works_is old seat at ∙ works

    works_new : works_at new s ≡ true
    works_new = works_is new seat_now at_now ∙ (ap is_working same ∙ works)

    no_later : (a b : ℕ) → a < b → a ≤ b
    no_later a b h = omega arith

    pub only_inside : HasOnlyRead old new s
    only_inside = only_by (inr (record {
      left = left_same (ap stages_left same);
      place = place_same (ap stages_left same);
      works = works_new ∙ sym works_old;
      steps = λ w. no_later (left_in new.world s) (left_in old.world s) sooner;
    }))

    unread_inside : (stage : Stage) → works_at stage s ≡ true → unread_at stage s ≡ left_in stage.world s
    unread_inside stage is = ap (λ (b : Bool). cond b (steps_at stage s) (unknown_at stage s)) is

    pub inside_nearer : is_some seat.run.fetch ≡ false → ReadsNearer old new s
    inside_nearer none = inr (subst (λ (b : Bool). StaysNearer (b && reads_at new s) old new s) (sym (reads_is old seat at ∙ none))
        (subst (λ (m : ℕ). unread_at new s < m) (sym (unread_inside old works_old)) (subst (λ (m : ℕ). m < left_in old.world s) (sym (unread_inside new works_new)) sooner)))

  -- ---- one that begins or ends a task

  module _ (less : stages_left seat_now.run.phase < stages_left seat.run.phase) where
    pub only_further : HasOnlyRead old new s
    only_further = only_by (inl (further_by less))

    pub further_nearer : is_some seat_now.run.fetch ≡ false → ReadsNearer old new s
    further_nearer none = inl (further_by less, reads_is new seat_now at_now ∙ none)

-- ---- what is being read inside a task

module _ (law : JcrLaw) (p : Shown) (run : SessionRun) (stands : Stands law p run) where
  -- nothing, while the session commits, and while a split or a collection is under way or has ended
  pub commit_reads : is_committing run.phase ≡ true → is_some run.fetch ≡ false
  commit_reads commits = by run.phase commits stands.at
    where
      by : (f : Phase) → is_committing f ≡ true → StandsAt law p run f → is_some run.fetch ≡ false
      by (phase.Committing a) h at = ap is_some at.1.unread
      by f h at = absurd (false≢true h)

  pub tidy_reads : (is_tidying run.phase || is_tidied run.phase) ≡ true → is_some run.fetch ≡ false
  tidy_reads tidies = by run.phase tidies stands.at
    where
      by : (f : Phase) → (is_tidying f || is_tidied f) ≡ true → StandsAt law p run f → is_some run.fetch ≡ false
      by phase.Tidying h at = ap is_some at.1.for.unread
      by (phase.Tidied t) h at = ap is_some at.1.for.unread
      by f h at = absurd (false≢true h)

-- ---- where a reading step of a split or a collection leads

-- it goes on as it was, or the session is nearer to its reply
pub tidying_leads : (f now : Phase) → (is_between f || is_tidying f) ≡ true → (is_tidying now || is_tidied now) ≡ true → ((is_working f ≡ true) × (now ≡ f)) ⊎ (stages_left now < stages_left f)
tidying_leads phase.Tidying phase.Tidying h k = inl (refl, refl)
tidying_leads phase.Tidying (phase.Tidied t) h k = inr (omega arith)
tidying_leads phase.Tidying now h k = absurd (false≢true k)
tidying_leads phase.Between phase.Tidying h k = inr (omega arith)
tidying_leads phase.Between (phase.Tidied t) h k = inr (omega arith)
tidying_leads phase.Between now h k = absurd (false≢true k)
tidying_leads f now h k = absurd (false≢true h)

-- ---- what a reading step asks

pub stands_at : (stage : Stage) (s : ℕ) (seat : Seat) → IsStage stage → slice_get stage.seats.items s ≡ Some seat → (n : GName) → Stands stage.world.law (shown_at n stage.world s) seat.run
stands_at stage s seat is at n = (is.each s seat at).stands n

-- ---- through a port

read_in : (n m : GName) (s t : ℕ) (old new : WorldOf JcrLaw) (run now : SessionRun) → new.law ≡ old.law → HasLooked old.law (shown_at n old s) (shown_at m new t) run now → MakesReading n s old new run now
read_in n m s t old new run now law looked = (
  law,
  subst (λ (x : ℕ). HasLooked old.law (shown_at n old s) (shown_at n new x) run now) looked.beside.session
      (subst (λ (x : GName). HasLooked old.law (shown_at n old s) (shown_at x new t) run now) (ap (λ (b : Beside). b.name) looked.beside.beside) looked),
)

-- what was read through a port of the world is read in the world
pub read_through : (n m k : GName) (s t u : ℕ) (old start new : WorldOf JcrLaw) (run now : SessionRun) → start ≡ old → k ≡ n → u ≡ s → new.law ≡ start.law → HasLooked start.law (shown_at k start u) (shown_at m new t) run now → MakesReading n s old new run now
read_through n m k s t u old start new run now world name session law looked =
    subst (λ (x : WorldOf JcrLaw). MakesReading n s x new run now) world
    (subst (λ (x : GName). MakesReading x s start new run now) name
    (subst (λ (x : ℕ). MakesReading k x start new run now) session
    (read_in k m u t start new run now law looked)))
