-- A turn brings the stage on.
use Rattle.std.proofs.Common.{◌≡◌, ◌⊎◌, inl, inr, ℕ, ◌+◌, ◌-◌, ◌*◌, ◌<◌, zero, suc, length, map, Bool, true, false, not, ◌||◌, ◌&&◌, Some, None, Option, List, [], ◌∷◌, ◌++◌, refl, sym, ap, ◌∙◌, subst, arith}
use Rattle.std.specs.Prelude.{◌==◌, reverse, slice_get, slice_set}
use Rattle.std.specs.List.{list_any}
use Rattle.std.specs.Borrow.{GName}
use Rattle.std.specs.Option.{option_and_then, option_map, option_map_or}
use Rattle.std.proofs.lemmas.Bool.Decides.{nat_tests}
use mathlib.Core.Bool.{false≢true}
use Rattle.jr_rev.specs.declared.revision.Revision.{Revision}
use Rattle.jr_rev.specs.Vectors.{sees}
use Rattle.oak_machine.specs.declared.event.Event.{Event}
use Rattle.oak_machine.specs.declared.event.Event.TheVariants as event
use Rattle.oak_machine.specs.declared.event.StepKind.{StepKind}
use Rattle.oak_machine.specs.History.{History, Past}
use Rattle.oak_machine.specs.Commits.{is_committed, is_ended}
use Rattle.oak_machine.specs.Heads.{head_of}
use Rattle.oak_machine.specs.Sessions.{has_left, is_drawing, next_index}
use Rattle.oak_machine.specs.Steps.{is_appended_by, is_kind, kinds_for}
use Rattle.oak_port.specs.Ports.{Awaiting, HoldsBack, Seat as PortSeat, Shown}
use Rattle.oak_world.specs.Left.{left_in}
use Rattle.oak_world.specs.Seen.{shown_at, shown_work}
use Rattle.oak_world.specs.Worlds.{WorldOf, live, work_in}
use Rattle.jcr_law.specs.State.{command_at}
use Rattle.jcr_law.specs.declared.law.JcrLaw.{JcrLaw}
use Rattle.jcr_law.specs.Lasting.{says_of, starts_of}
use Rattle.jcr_run.specs.Nearing.{ComesNearer, WorksSooner, DrawsNoOther, IsLess, turns_left, stages_left}
use Rattle.jcr_run.specs.declared.run.Phase.{Phase}
use Rattle.jcr_run.specs.declared.run.Phase.TheVariants as phase
use Rattle.jcr_run.specs.declared.run.SessionRun.{SessionRun}
use Rattle.jcr_run.specs.declared.turn.Turn.{Turn}
use Rattle.jcr_run.specs.declared.turn.Turn.TheVariants as turn
use Rattle.jcr_run.specs.Standing.{IsStep, IsTurned, IsUnseen, Tells, is_working, is_saving, stage_at}
use Rattle.jr_script.specs.Bounds.{IsWithin}
use Rattle.jr_script.specs.declared.script.Script.{Script}
use Rattle.jcr_trans.specs.declared.command.Command.{Command}
use Rattle.jcr_trans.specs.declared.command.SessionScript.{SessionScript}
use Rattle.jr_stage.specs.declared.flight.Flight.{Flight}
use Rattle.jr_stage.specs.declared.stage.Seat.{Seat}
use Rattle.jr_stage.specs.declared.stage.Stage.{Stage}
use Rattle.jr_stage.specs.Awaited.{IsSeenBut, LeavesOtherSessions}
use Rattle.jr_stage.specs.Flights.{IsFlight}
use Rattle.jr_stage.specs.Nearing.{IsFurther, IsKeptBack, SavesOn, StepsNearer, TurnsNearer, left_at, place_at, saves_at, works_at}
use Rattle.jr_stage.specs.Places.{commands_of, history_at, is_over, is_resting, is_waiting, tells_of_none}
use Rattle.jr_stage.specs.SoFar.{AreMadeBy, is_last_due}
use Rattle.jr_stage.specs.Stages.{Comes, HasCome, IsSeated, IsStage, awaited, due_at, flight_behind, flight_by, law_of}
use Rattle.jr_stage.proofs.Unnamed.{unnamed_apart, unnamed_idle}
use Rattle.jr_stage.proofs.Coming.{appended_one, flight_said, flight_stepped, history_now, itself, made, nodes, other_seat, over_other, past_now, run_new, said, same_length, seated_other, seen_said, seen_stepped, session_now, set_other, stands_now, stepped, tells, awake}
use Rattle.jr_stage.proofs.Counting.{same_count}
use Rattle.jr_stage.proofs.Due.{at_commit, last_commits}
use Rattle.jr_stage.proofs.First.{turn_leaves}
use Rattle.jr_stage.proofs.Flying.{none_is_some, some_is_some}
use Rattle.jr_stage.proofs.Saving.{saving_stays, waiting_by}
use Rattle.jr_stage.proofs.Seen.{waits_for}

pub set_same : {X : Type 0} (xs : List X) (i : ℕ) (x y : X) → slice_get xs i ≡ Some y → slice_get (slice_set xs i x) i ≡ Some x
set_same [] i x y h = none_is_some y h
set_same (e ∷ xs) zero x y h = refl
set_same (e ∷ xs) (suc i) x y h = set_same xs i x y h

pub set_long : {X : Type 0} (xs : List X) (i : ℕ) (x : X) → length (slice_set xs i x) ≡ length xs
set_long [] i x = refl
set_long (e ∷ xs) zero x = refl
set_long (e ∷ xs) (suc i) x = ap suc (set_long xs i x)

equal : (a b : ℕ) → (a == b) ≡ true → a ≡ b
equal a b h = grind (arith, nat_tests)

-- the commands that the law of a script gives a session
pub commands_at : (script : Script) (s i : ℕ) → command_at (law_of script) s i ≡ slice_get (commands_of script s) i
commands_at script s i = by (slice_get script.sessions s)
  where
    by : (o : Option SessionScript) → option_and_then (λ x. slice_get x.commands i) o ≡ slice_get (option_map_or (λ x. x.commands) o []) i
    by None = refl
    by (Some x) = refl

module _ (script : Script) (n : GName) (s : ℕ) (old new : WorldOf JcrLaw) (seat : Seat) (now : SessionRun) (answer : Turn)
    (law_is : old.law ≡ law_of script) (history : (live old.history) ≡ history_at script old.history.past) (seated : IsSeated script old s seat)
    (law_same : new.law ≡ old.law) (turned : IsTurned old.law (shown_at n old s) (shown_at n new s) seat.run now answer) where
  abbrev past : Past
  past = old.history.past

  abbrev Shape : Type 0
  Shape = (turned.own ≡ []) ⊎ AreMadeBy script old.history.past s turned.own

  -- what a turn comes to
  pub record IsComeTo (flight : Option Flight) : Type 0 where
    pub shape : (turned.own ≡ []) ⊎ AreMadeBy script old.history.past s turned.own
    pub came : Comes script old.history.past s (due_at old s) answer turned.own
    pub flown : IsFlight (turned.own ++ old.history.past) s flight
    pub seen : IsSeenBut script (turned.own ++ old.history.past) s (awaited (shown_work (work_in new.actors s)))
    pub still : turned.own ≡ [] → is_last_due (due_at old s) ≡ true → is_last_due (due_at new s) ≡ true
    pub over : is_over script old.history.past s ≡ true → is_over script (turned.own ++ old.history.past) s ≡ true
    pub kept : IsKeptBack old.history.past s answer

  not_none : {A : Type 0} → AreMadeBy script old.history.past s turned.own → turned.own ≡ [] → A
  not_none (inl one) none = none_is_some one.event (ap (λ (l : Past). slice_get l 0) (sym none ∙ one.is))
  not_none (inr (inl two)) none = none_is_some (event.Head two.cluster two.head) (ap (λ (l : Past). slice_get l 0) (sym none ∙ two.is))
  not_none (inr (inr said)) none = none_is_some (event.Said s said.index said.text) (ap (λ (l : Past). slice_get l 0) (sym none ∙ said.is))

  not_over : {A : Type 0} → is_resting script old.history.past s ≡ false → is_over script old.history.past s ≡ true → A
  not_over {A = A} awake over = absurd (false≢true (sym (second (is_waiting script old.history.past s) (is_over script old.history.past s) awake) ∙ over))
    where
      second : (a b : Bool) → (a || b) ≡ false → b ≡ false
      second true b h = absurd (false≢true (sym h))
      second false b h = h

module _ (script : Script) (n : GName) (s : ℕ) (old new : WorldOf JcrLaw) (seat : Seat) (now : SessionRun)
    (law_is : old.law ≡ law_of script) (history : (live old.history) ≡ history_at script old.history.past) (seated : IsSeated script old s seat)
    (law_same : new.law ≡ old.law) where
  -- where a step appends what tells of no session, no commit is under way
  calm_step : (k : StepKind) (turned : IsTurned old.law (shown_at n old s) (shown_at n new s) seat.run now (turn.Stepped k)) → is_appended_by (history_at script old.history.past) s k (reverse turned.own) ≡ true
      → (e : Event) → turned.own ≡ e ∷ [] → tells_of_none e ≡ true → (is_drawing old.history.past s ≡ false) × (is_last_due (due_at old s) ≡ false)
  calm_step k turned appended e is none =
      let one : list_any (is_kind k) (kinds_for (history_at script old.history.past) s (e ∷ [])) ≡ true =
      sym (appended_one (history_at script old.history.past) s k e []) ∙ subst (λ (o : Past). is_appended_by (history_at script old.history.past) s k (reverse o) ≡ true) is appended in (
        unnamed_idle old.law (shown_at n old s) seat.run (seated.stands n) (history_at script old.history.past) k (stage_at seat.run.phase (shown_at n old s).work) (stage_at now.phase (shown_at n new s).work) turned.in_order e one none,
        no_last (is_last_due (due_at old s)) refl one,
      )
    where
      no_last : (b : Bool) → is_last_due (due_at old s) ≡ b → list_any (is_kind k) (kinds_for (history_at script old.history.past) s (e ∷ [])) ≡ true → b ≡ false
      no_last false last one = refl
      no_last true last one = absurd (false≢true (sym
          (unnamed_apart old.law (shown_at n old s) seat.run (seated.stands n) (history_at script old.history.past) k (stage_at seat.run.phase (shown_at n old s).work) (stage_at now.phase (shown_at n new s).work) turned.in_order e one none)
          ∙ last_commits (work_in old.actors s) last))

  come_to : (answer : Turn) (turned : IsTurned old.law (shown_at n old s) (shown_at n new s) seat.run now answer) → IsComeTo script n s old new seat now answer law_is history seated law_same turned (flight_by answer (turned.own ++ old.history.past) seat.flight)
  come_to (turn.Stepped k) turned = by (tells script n s old new seat now (turn.Stepped k) law_is history seated turned) (made script n s old new seat now (turn.Stepped k) law_is history seated turned)
    where
      by : Tells (history_at script old.history.past) s seat.run.index (turn.Stepped k) turned.own → IsStep (history_at script old.history.past) (shown_at n old s) (shown_at n new s) turned.own → IsComeTo script n s old new seat now (turn.Stepped k) law_is history seated law_same turned (flight_behind (turned.own ++ old.history.past) seat.flight)
      by (appended, one) step =
          let calm = calm_step k turned appended in
          let at = stepped script n s old new seat now (turn.Stepped k) law_is history seated turned step k calm appended one in
          record {
            shape = inr at.0.events;
            came = at;
            flown = flight_stepped script n s old new seat now (turn.Stepped k) law_is history seated turned step k calm appended one;
            seen = seen_stepped script n s old new seat now (turn.Stepped k) law_is history seated turned step k appended one;
            still = λ none last. not_none script n s old new seat now (turn.Stepped k) law_is history seated law_same turned at.0.events none;
            over = λ over. not_over script n s old new seat now (turn.Stepped k) law_is history seated law_same turned at.0.awake over;
            kept = tt;
          }
  come_to (turn.Said i) turned = by (tells script n s old new seat now (turn.Said i) law_is history seated turned) (made script n s old new seat now (turn.Said i) law_is history seated turned)
    where
      by : Tells (history_at script old.history.past) s seat.run.index (turn.Said i) turned.own → IsStep (history_at script old.history.past) (shown_at n old s) (shown_at n new s) turned.own → IsComeTo script n s old new seat now (turn.Said i) law_is history seated law_same turned seat.flight
      by (same, text, told, ends, is) step =
          let own : turned.own ≡ event.Said s i text ∷ told = is ∙ ap (λ j. event.Said s j text ∷ told) (sym same) in
          let at = said script n s old new seat now (turn.Said i) law_is history seated turned step i text told ends own in
          record {
            shape = inr at.events;
            came = (text, told, own, ends, at);
            flown = flight_said script n s old new seat now (turn.Said i) law_is history seated turned step i text told ends own;
            seen = seen_said script n s old new seat now (turn.Said i) law_is history seated turned step i text told ends own;
            still = λ none last. not_none script n s old new seat now (turn.Said i) law_is history seated law_same turned at.events none;
            over = λ over. not_over script n s old new seat now (turn.Said i) law_is history seated law_same turned at.awake over;
            kept = tt;
          }
  come_to (turn.Waiting q) turned = by (tells script n s old new seat now (turn.Waiting q) law_is history seated turned) (made script n s old new seat now (turn.Waiting q) law_is history seated turned)
    where
      by : Tells (history_at script old.history.past) s seat.run.index (turn.Waiting q) turned.own → (r : Revision) × (shown_work (work_in old.actors s) ≡ Awaiting r) × (shown_work (work_in new.actors s) ≡ Awaiting r) × IsUnseen (history_at script old.history.past) s r × HoldsBack old.history.past q r
          → IsComeTo script n s old new seat now (turn.Waiting q) law_is history seated law_same turned seat.flight
      by none (r, before, after, unseen, held) = record {
        shape = inl none;
        came = (
          none,
          waits_for script.clusters (map (λ x. x.cluster) script.sessions) (subst (λ (h : History). Rattle.oak_machine.specs.Runs.AreNodes h.clusters h.sessions) history (seated.stands n).nodes) (Rattle.jcr_law.specs.Lasting.starts_of old.law) (Rattle.jcr_law.specs.Lasting.says_of old.law) script refl old.history.past s r unseen.theirs
              (all (is_committed old.history.past r) (is_ended old.history.past r) (sees (head_of script.clusters None old.history.past r.cluster) r) unseen.committed unseen.ended unseen.unseen),
        );
        flown = subst (λ (o : Past). IsFlight (o ++ old.history.past) s seat.flight) (sym none) seated.flight;
        seen = subst (λ (o : Past). IsSeenBut script (o ++ old.history.past) s (awaited (shown_work (work_in new.actors s)))) (sym none) (λ p m u. ap awaited (after ∙ sym before) ∙ seated.seen p m u);
        still = λ empty last. absurd (false≢true (sym (ap at_commit before) ∙ last_commits (work_in old.actors s) last));
        over = λ over. subst (λ (o : Past). is_over script (o ++ old.history.past) s ≡ true) (sym none) over;
        kept = waiting_by old.law (shown_at n old s) seat.run (seated.stands n) q r before held;
      }
        where
          all : (c e v : Bool) → c ≡ true → e ≡ true → v ≡ false → (c && e && not v) ≡ true
          all true true false h k l = refl
          all true true true h k l = absurd (false≢true (sym l))
          all true false v h k l = absurd (false≢true k)
          all false e v h k l = absurd (false≢true h)
  come_to turn.Ended turned = by (tells script n s old new seat now turn.Ended law_is history seated turned) (made script n s old new seat now turn.Ended law_is history seated turned)
    where
      by : Tells (history_at script old.history.past) s seat.run.index turn.Ended turned.own → (shown_at n new s ≡ shown_at n old s) × (has_left old.history.past s ≡ true) × (now.index ≡ length now.commands)
          → IsComeTo script n s old new seat now turn.Ended law_is history seated law_same turned seat.flight
      by none (same, left, all) = record {
        shape = inl none;
        came = (none, ap (λ (b : Bool). b && has_left old.history.past s) (as_many next) ∙ left);
        flown = subst (λ (o : Past). IsFlight (o ++ old.history.past) s seat.flight) (sym none) seated.flight;
        seen = subst (λ (o : Past). IsSeenBut script (o ++ old.history.past) s (awaited (shown_work (work_in new.actors s)))) (sym none) (λ p m u. ap (λ (x : Shown). awaited x.work) same ∙ seated.seen p m u);
        still = λ empty last. ap (λ (x : Shown). is_last_due x.due) same ∙ last;
        over = λ over. subst (λ (o : Past). is_over script (o ++ old.history.past) s ≡ true) (sym none) over;
        kept = tt;
      }
        where
          as_many : {a b : ℕ} → a ≡ b → (a == b) ≡ true
          as_many {a = a} {b = b} h = subst (λ (x : ℕ). (a == x) ≡ true) h (itself a)

          session_is : now.session ≡ s
          session_is = session_now script n s old new seat now turn.Ended law_is history seated turned

          past_is : new.history.past ≡ old.history.past
          past_is = past_now script n s old new seat now turn.Ended law_is history seated turned ∙ ap (λ (o : Past). o ++ old.history.past) none

          as_long : length now.commands ≡ length (commands_of script s)
          as_long = same_length now.commands (commands_of script s) (λ i. sym (turned.stands.commands i) ∙ (ap (λ (x : ℕ). command_at old.law x i) session_is ∙ (ap (λ (l : JcrLaw). command_at l s i) law_is ∙ commands_at script s i)))

          next : next_index old.history.past s ≡ length (commands_of script s)
          next = sym (turned.stands.index ∙ (ap (λ (p : Past). next_index p now.session) past_is ∙ ap (next_index old.history.past) session_is)) ∙ (all ∙ as_long)
  come_to turn.Read turned = absurd (made script n s old new seat now turn.Read law_is history seated turned)
  come_to turn.Memory turned = absurd (made script n s old new seat now turn.Memory law_is history seated turned)

-- ---- where a session stands, in numbers

abbrev replies_left : SessionRun → ℕ
replies_left run = 5 * (length run.commands - run.index)

working_left : (f : Phase) → is_working f ≡ true → stages_left f ≡ 2
working_left (phase.Committing a) h = refl
working_left phase.Outside h = absurd (false≢true h)
working_left phase.Between h = absurd (false≢true h)
working_left (phase.Moved v) h = absurd (false≢true h)
working_left phase.Detaching h = refl
working_left (phase.Committed e a) h = absurd (false≢true h)
working_left (phase.Working e) h = refl
working_left (phase.Told t) h = absurd (false≢true h)
working_left phase.Tidying h = refl
working_left (phase.Tidied t) h = absurd (false≢true h)
working_left phase.Over h = absurd (false≢true h)

same_behind : (m a b : ℕ) → m + a ≡ m + b → a ≡ b
same_behind m a b h = omega arith

-- where no task of its next command is under way it stands elsewhere
other_left : (f : Phase) (m b : ℕ) → is_working f ≡ false → b ≡ 2 → m + stages_left f ≡ m + b → ⊥
other_left f m b none two same = apart f none (same_behind m (stages_left f) b same ∙ two)
  where
    apart : (f : Phase) → is_working f ≡ false → stages_left f ≡ 2 → ⊥
    apart phase.Outside h two = omega arith
    apart phase.Between h two = omega arith
    apart (phase.Committing a) h two = false≢true (sym h)
    apart (phase.Committed e a) h two = omega arith
    apart (phase.Moved v) h two = omega arith
    apart phase.Detaching h two = false≢true (sym h)
    apart (phase.Working e) h two = false≢true (sym h)
    apart (phase.Told t) h two = omega arith
    apart phase.Tidying h two = false≢true (sym h)
    apart (phase.Tidied t) h two = omega arith
    apart phase.Over h two = omega arith

-- ---- the stage

module _ (n : GName) (s : ℕ) (old new : Stage) (seat seat_now : Seat) (answer : Turn)
    (stage : IsStage old) (at : slice_get old.seats.items s ≡ Some seat) (script_same : new.script.value ≡ old.script.value) (schedule_same : new.schedule ≡ old.schedule) (seats_now : new.seats.items ≡ slice_set old.seats.items s seat_now)
    (law_same : new.world.law ≡ old.world.law) (turned : IsTurned old.world.law (shown_at n old.world s) (shown_at n new.world s) seat.run seat_now.run answer)
    (kept : seat_now.flight ≡ flight_by answer new.world.history.past seat.flight) where
  seated : IsSeated old.script.value old.world s seat
  seated = stage.each s seat at

  to : IsComeTo old.script.value n s old.world new.world seat seat_now.run answer stage.law stage.history seated law_same turned (flight_by answer (turned.own ++ old.world.history.past) seat.flight)
  to = come_to old.script.value n s old.world new.world seat seat_now.run stage.law stage.history seated law_same answer turned

  pasts : new.world.history.past ≡ turned.own ++ old.world.history.past
  pasts = past_now old.script.value n s old.world new.world seat seat_now.run answer stage.law stage.history seated turned

  mine : IsSeated old.script.value new.world s seat_now
  mine = record {
    session = session_now old.script.value n s old.world new.world seat seat_now.run answer stage.law stage.history seated turned;
    stands = stands_now old.script.value n s old.world new.world seat seat_now.run answer stage.law stage.history seated turned law_same;
    flight = subst (λ (o : Option Flight). IsFlight new.world.history.past s o) (sym kept ∙ refl) (subst (λ (p : Past). IsFlight p s (flight_by answer p seat.flight)) (sym pasts) to.flown);
    seen = subst (λ (p : Past). IsSeenBut old.script.value p s (awaited (shown_work (work_in new.world.actors s)))) (sym pasts) to.seen;
  }

  each_now : (t : ℕ) (other : Seat) → slice_get new.seats.items t ≡ Some other → IsSeated old.script.value new.world t other
  each_now t other is = elim (t == s) as (λ b. (t == s) ≡ b → IsSeated old.script.value new.world t other) [
    | true ↦ λ same.
        let e : t ≡ s = equal t s same in
        let it : seat_now ≡ other = some_is_some seat_now other (sym (set_same old.seats.items s seat_now seat at) ∙ (ap (λ (l : List Seat). slice_get l s) (sym seats_now) ∙ (ap (slice_get new.seats.items) (sym e) ∙ is))) in
        subst (λ (x : ℕ). IsSeated old.script.value new.world x other) (sym e) (subst (λ (x : Seat). IsSeated old.script.value new.world s x) it mine)
    | false ↦ λ apart.
        seated_other old.script.value n s old.world new.world seat seat_now.run answer stage.law stage.history seated turned t apart other
        (stage.each t other (sym (set_other old.seats.items s t seat_now apart) ∙ (ap (λ (l : List Seat). slice_get l t) (sym seats_now) ∙ is))) to.shape law_same
  ] refl

  pub stage_now : IsStage new
  stage_now = record {
    law = law_same ∙ (stage.law ∙ ap law_of (sym script_same));
    history = history_now old.script.value n s old.world new.world seat seat_now.run answer stage.law stage.history seated turned ∙ ap (λ (x : Script). history_at x new.world.history.past) (sym script_same);
    within = subst (λ (x : Script). IsWithin x) (sym script_same) stage.within;
    schedule = schedule_same ∙ (stage.schedule ∙ ap (λ (x : Script). x.schedule) (sym script_same));
    seats = ap (λ (l : List Seat). length l) seats_now ∙ (set_long old.seats.items s seat_now ∙ (stage.seats ∙ ap (λ (x : Script). length x.sessions) (sym script_same)));
    each = λ t other is. subst (λ (x : Script). IsSeated x new.world t other) (sym script_same) (each_now t other is);
  }

  over_now : (t : ℕ) → is_over old.script.value old.world.history.past t ≡ true → is_over old.script.value new.world.history.past t ≡ true
  over_now t over = subst (λ (p : Past). is_over old.script.value p t ≡ true) (sym pasts) (elim (t == s) as (λ b. (t == s) ≡ b → is_over old.script.value (turned.own ++ old.world.history.past) t ≡ true) [
    | true ↦ λ same. subst (λ (x : ℕ). is_over old.script.value (turned.own ++ old.world.history.past) x ≡ true) (sym (equal t s same)) (to.over (subst (λ (x : ℕ). is_over old.script.value old.world.history.past x ≡ true) (equal t s same) over))
    | false ↦ λ apart. over_other old.script.value n s old.world new.world seat seat_now.run answer stage.law stage.history seated turned t apart to.shape over
  ] refl)

  -- ---- how near it has come

  at_now : slice_get new.seats.items s ≡ Some seat_now
  at_now = ap (λ (l : List Seat). slice_get l s) seats_now ∙ set_same old.seats.items s seat_now seat at

  left_is : (x : Stage) (y : Seat) → slice_get x.seats.items s ≡ Some y → left_at x s ≡ turns_left y.run
  left_is x y there = ap (λ (o : Option Seat). option_map_or (λ z. turns_left z.run) o 0) there

  works_is : (x : Stage) (y : Seat) → slice_get x.seats.items s ≡ Some y → works_at x s ≡ is_working y.run.phase
  works_is x y there = ap (λ (o : Option Seat). option_map_or is_working (option_map (λ z. z.run.phase) o) false) there

  saves_is : (x : Stage) (y : Seat) → slice_get x.seats.items s ≡ Some y → saves_at x s ≡ is_saving y.run.phase
  saves_is x y there = ap (λ (o : Option Seat). option_map_or is_saving (option_map (λ z. z.run.phase) o) false) there

  -- behind a step the next reply is the one that it was
  index_stays : (k : StepKind) → answer ≡ turn.Stepped k → seat_now.run.index ≡ seat.run.index
  index_stays k is =
      turned.stands.index
      ∙ (ap (λ (p : Past). next_index p seat_now.run.session) pasts
      ∙ (ap (next_index (turned.own ++ old.world.history.past)) session_is
      ∙ (same_count s old.world.history.past turned.own old.script.value old.world.history.past came_now.0.events came_now.1
      ∙ (ap (next_index old.world.history.past) (sym seated.session) ∙ sym (seated.stands n).index))))
    where
      session_is : seat_now.run.session ≡ s
      session_is = turned.same.0 ∙ seated.session

      came_now : Comes old.script.value old.world.history.past s (due_at old.world s) (turn.Stepped k) turned.own
      came_now = subst (λ (a : Turn). Comes old.script.value old.world.history.past s (due_at old.world s) a turned.own) is to.came

  place_is : (x : Stage) (y : Seat) → slice_get x.seats.items s ≡ Some y → place_at x s ≡ stages_left y.run.phase
  place_is x y there = ap (λ (o : Option Seat). option_map_or stages_left (option_map (λ z. z.run.phase) o) 0) there

  step_nearer : (k : StepKind) → answer ≡ turn.Stepped k → IsLess (WorksSooner (left_in old.world s) (left_in new.world s) (shown_at n old.world s) seat.run) (turns_left seat.run) (turns_left seat_now.run)
      → StepsNearer old new s
  step_nearer k is near = by near
    where
      now_left : turns_left seat_now.run ≡ replies_left seat.run + stages_left seat_now.run.phase
      now_left =
          ap (λ (cs : List Command). 5 * (length cs - seat_now.run.index) + stages_left seat_now.run.phase) turned.same.1
          ∙ ap (λ (i : ℕ). 5 * (length seat.run.commands - i) + stages_left seat_now.run.phase) (index_stays k is)

      less_behind : (m a b : ℕ) → m + a < m + b → a < b
      less_behind m a b h = omega arith

      now_less : replies_left seat.run + stages_left seat_now.run.phase < replies_left seat.run + stages_left seat.run.phase → IsFurther old new s
      now_less less = record {
        left = subst (λ (m : ℕ). m < left_at old s) (sym (left_is new seat_now at_now ∙ now_left))
            (subst (λ (m : ℕ). replies_left seat.run + stages_left seat_now.run.phase < m) (sym (left_is old seat at)) less);
        place = subst (λ (m : ℕ). m < place_at old s) (sym (place_is new seat_now at_now))
            (subst (λ (m : ℕ). stages_left seat_now.run.phase < m) (sym (place_is old seat at)) (less_behind (replies_left seat.run) (stages_left seat_now.run.phase) (stages_left seat.run.phase) less));
      }

      by : IsLess (WorksSooner (left_in old.world s) (left_in new.world s) (shown_at n old.world s) seat.run) (turns_left seat.run) (turns_left seat_now.run) → StepsNearer old new s
      by (inl less) = inl (now_less (subst (λ (m : ℕ). m < turns_left seat.run) now_left less))
      by (inr (same, (commits, sooner))) = at_same (is_working seat_now.run.phase) refl
        where
          equals : replies_left seat.run + stages_left seat_now.run.phase ≡ replies_left seat.run + stages_left seat.run.phase
          equals = sym now_left ∙ same

          at_same : (c : Bool) → is_working seat_now.run.phase ≡ c → StepsNearer old new s
          at_same true after = inr (record {
            before = works_is old seat at ∙ commits;
            now = works_is new seat_now at_now ∙ after;
            left = left_is new seat_now at_now ∙ (same ∙ sym (left_is old seat at));
            steps = sooner refl;
          })
          at_same false after = absurd (other_left seat_now.run.phase (replies_left seat.run) (stages_left seat.run.phase) after (working_left seat.run.phase commits) equals)

  turn_nearer : (a : Turn) → answer ≡ a → ComesNearer (WorksSooner (left_in old.world s) (left_in new.world s) (shown_at n old.world s) seat.run) (turns_left seat.run) (turns_left seat_now.run) a → TurnsNearer old new s a
  turn_nearer (turn.Stepped k) is near = step_nearer k is near
  turn_nearer (turn.Said i) is near = subst (λ (m : ℕ). left_at new s < m) (sym (left_is old seat at)) (subst (λ (m : ℕ). m < turns_left seat.run) (sym (left_is new seat_now at_now)) near)
  turn_nearer (turn.Waiting q) is near = tt
  turn_nearer turn.Ended is near = tt
  turn_nearer turn.Read is near = tt
  turn_nearer turn.Memory is near = tt

  saves_on : (a : Turn) → answer ≡ a → SavesOn old new s a
  saves_on (turn.Stepped k) is = λ saves. saves_is new seat_now at_now
      ∙ saving_stays old.world.law (shown_at n old.world s) (shown_at n new.world s) seat.run seat_now.run k (seated.stands n)
      (subst (λ (a : Turn). IsTurned old.world.law (shown_at n old.world s) (shown_at n new.world s) seat.run seat_now.run a) is turned) (sym (saves_is old seat at) ∙ saves)
  saves_on (turn.Said i) is = tt
  saves_on (turn.Waiting q) is = tt
  saves_on turn.Ended is = tt
  saves_on turn.Read is = tt
  saves_on turn.Memory is = tt

  leaves_now : LeavesOtherSessions old.world.history.past new.world.history.past s
  leaves_now = subst (λ (p : Past). LeavesOtherSessions old.world.history.past p s) (sym pasts)
      (turn_leaves old.script.value.clusters (map (λ x. x.cluster) old.script.value.sessions) (nodes old.script.value n s old.world new.world seat seat_now.run answer stage.law stage.history seated turned)
      (starts_of old.world.law) (says_of old.world.law) old.script.value s old.world.history.past turned.own
      (run_new old.script.value n s old.world new.world seat seat_now.run answer stage.law stage.history seated turned) to.shape)

  pub has_come : (is_saving seat.run.phase ≡ true → DrawsNoOther (shown_at n old.world s) (shown_at n new.world s))
      → ComesNearer (WorksSooner (left_in old.world s) (left_in new.world s) (shown_at n old.world s) seat.run) (turns_left seat.run) (turns_left seat_now.run) answer → HasCome old new s answer
  has_come draws near = record {
    script = script_same;
    stage = stage_now;
    own = turned.own;
    past = pasts;
    others = λ t apart. ap (λ (x : PortSeat). x.due) (other_seat old.script.value n s old.world new.world seat seat_now.run answer stage.law stage.history seated turned t apart);
    still = to.still;
    over = over_now;
    came = to.came;
    leaves = leaves_now;
    draws = λ saves. draws (sym (saves_is old seat at) ∙ saves);
    saves = saves_on answer refl;
    nears = turn_nearer answer refl near;
    kept = to.kept;
  }
