-- Turns until a commit has come to where an entry waits for it.
use Rattle.std.proofs.Common.{◌≡◌, inl, inr, ℕ, zero, suc, ◌<◌, length, get_or, Bool, true, false, ◌||◌, ◌&&◌, Some, None, Option, List, [], ◌∷◌, ◌++◌, refl, sym, ap, ◌∙◌, subst, arith, is_some}
use Rattle.std.specs.Prelude.{nat_le, slice_get}
use Rattle.std.specs.Option.{option_map, option_map_or}
use Rattle.std.specs.List.{count_by}
use Rattle.std.proofs.lemmas.List.{length-map}
use Rattle.std.proofs.lemmas.Option.{slice_get_read}
use mathlib.Core.Bool.{false≢true}
use Rattle.oak_machine.specs.declared.event.StepKind.{StepKind}
use Rattle.oak_machine.specs.History.{History, Past}
use Rattle.oak_machine.specs.Sessions.{is_drawing}
use Rattle.jcr_run.specs.Nearing.{stages_left}
use Rattle.jcr_run.specs.Standing.{is_working}
use Rattle.jcr_run.specs.declared.turn.Turn.{Turn}
use Rattle.jcr_run.specs.declared.turn.Turn.TheVariants as turn
use Rattle.jr_script.specs.Schedules.{session_named}
use Rattle.jr_script.specs.declared.script.Script.{Script}
use Rattle.jcr_trans.specs.declared.command.SessionScript.{SessionScript}
use Rattle.jr_script.specs.declared.script.Entry.{Entry}
use Rattle.jr_script.specs.declared.script.Entry.TheVariants as entry
use Rattle.jr_stage.specs.declared.flight.Flight.{Flight}
use Rattle.jr_stage.specs.declared.stage.Seat.{Seat}
use Rattle.jr_stage.specs.declared.stage.Stage.{Stage}
use Rattle.jr_stage.specs.Flights.{IsFlight}
use Rattle.jr_stage.specs.Nearing.{place_at, reads_at, works_at}
use Rattle.jr_stage.specs.Places.{has_written, is_at_last, is_resting, is_write_of, since_draw}
use Rattle.jr_stage.specs.Parts.{Rule, by_entry, has_just_said, is_entry_done}
use Rattle.jr_stage.specs.SoFar.{IsStepAt, is_last_due}
use Rattle.jr_stage.specs.Stages.{AreSteps, Closes, EndsSteps, HasCome, IsOfCommit, IsStage, IsUnder, StepsUntil, due_at, has_come, has_come_by, past_of}
use Rattle.jr_stage.proofs.Closing.{awake_part, rests, under_closes, under_stays, under_steps}
use Rattle.jr_stage.proofs.Counting.{HasGone, gone_reads, not_said, number_itself}
use Rattle.jr_stage.proofs.Flying.{flight_at_last, flight_decided, flight_drawing, flight_not_at_last, flight_written, idle_not_at_last}
use Rattle.jr_stage.proofs.Going.{steps_keep, until_as}
use Rattle.jr_stage.proofs.SoFar.{part_at_last, part_draws, part_rests, part_writes}

-- ---- tests

first_true : (a b c : Bool) → a ≡ true → (a || b || c) ≡ true
first_true true b c h = refl
first_true false b c h = absurd (false≢true h)

second_true : (a b c : Bool) → b ≡ true → (a || b || c) ≡ true
second_true true b c h = refl
second_true false true c h = refl
second_true false false c h = absurd (false≢true h)

third_true : (a b c : Bool) → c ≡ true → (a || b || c) ≡ true
third_true true b c h = refl
third_true false true c h = refl
third_true false false c h = h

none_true : (a b c : Bool) → a ≡ false → b ≡ false → c ≡ false → (a || b || c) ≡ false
none_true true b c h k l = absurd (false≢true (sym h))
none_true false true c h k l = absurd (false≢true (sym k))
none_true false false c h k l = l

left_true : (a b : Bool) → a ≡ true → (a || b) ≡ true
left_true true b h = refl
left_true false b h = absurd (false≢true h)

right_true : (a b : Bool) → b ≡ true → (a || b) ≡ true
right_true true b h = refl
right_true false b h = h

neither_true : (a b : Bool) → a ≡ false → b ≡ false → (a || b) ≡ false
neither_true true b h k = absurd (false≢true (sym h))
neither_true false b h k = k

three_of : (a b c : Bool) → (a && b && c) ≡ true → (a ≡ true) × (b ≡ true) × (c ≡ true)
three_of true true true h = (refl, refl, refl)
three_of true true false h = absurd (false≢true h)
three_of true false c h = absurd (false≢true h)
three_of false b c h = absurd (false≢true h)

-- ---- the entries that wait for a commit

-- what holds of the three entries of s holds of each entry that waits for a commit of s
of_commit : (P : Entry → Type 0) (s : ℕ) → P (entry.Draw s) → ((n : ℕ) → P (entry.Write s n)) → P (entry.Last s) → (e : Entry) → IsOfCommit s e → P e
of_commit P s draws writes last (entry.Draw t) same = subst (λ (x : ℕ). P (entry.Draw x)) (sym same) draws
of_commit P s draws writes last (entry.Write t n) same = subst (λ (x : ℕ). P (entry.Write x n)) (sym same) (writes n)
of_commit P s draws writes last (entry.Last t) same = subst (λ (x : ℕ). P (entry.Last x)) (sym same) last
of_commit P s draws writes last (entry.Turn t) same = absurd same
of_commit P s draws writes last (entry.Say t n) same = absurd same
of_commit P s draws writes last (entry.Read t) same = absurd same

session_of_commit : (s : ℕ) (e : Entry) → IsOfCommit s e → session_named e ≡ s
session_of_commit s e same = of_commit (λ x. session_named x ≡ s) s refl (λ n. refl) refl e same

module _ (script : Script) (s : ℕ) (before part : Past) where
  -- a part is done where a reply was just said, and where the session rests
  done_said : (e : Entry) → IsOfCommit s e → has_just_said s part ≡ true → is_entry_done script e before part ≡ true
  done_said e same h = of_commit (λ x. is_entry_done script x before part ≡ true) s
      (second_true (is_drawing (part ++ before) s) (has_just_said s part) (is_resting script (part ++ before) s) h)
      (λ n. second_true (has_written n (part ++ before) s) (has_just_said s part) (is_resting script (part ++ before) s) h)
      (left_true (has_just_said s part) (is_resting script (part ++ before) s) h)
      e same

  done_rests : (e : Entry) → IsOfCommit s e → is_resting script (part ++ before) s ≡ true → is_entry_done script e before part ≡ true
  done_rests e same h = of_commit (λ x. is_entry_done script x before part ≡ true) s
      (third_true (is_drawing (part ++ before) s) (has_just_said s part) (is_resting script (part ++ before) s) h)
      (λ n. third_true (has_written n (part ++ before) s) (has_just_said s part) (is_resting script (part ++ before) s) h)
      (right_true (has_just_said s part) (is_resting script (part ++ before) s) h)
      e same

-- ---- by what is kept of the commit

-- whether what is kept has come to where the entry waits for it
abbrev comes : Option StepKind → Entry → Option Flight → Bool
comes due e o = option_map_or (λ f. has_come_by f due e) o false

undrawn : (past : Past) (s : ℕ) (due : Option StepKind) (o : Option Flight) → IsFlight past s o → comes due (entry.Draw s) o ≡ false → is_drawing past s ≡ false
undrawn past s due None flight short = flight
undrawn past s due (Some f) flight short = absurd (false≢true (sym short))

drawn : (past : Past) (s : ℕ) (due : Option StepKind) (o : Option Flight) → IsFlight past s o → comes due (entry.Draw s) o ≡ true → is_drawing past s ≡ true
drawn past s due None flight come = absurd (false≢true come)
drawn past s due (Some f) flight come = flight_drawing past s (Some f) flight

unwritten : (past : Past) (s n : ℕ) (due : Option StepKind) (o : Option Flight) → IsFlight past s o → comes due (entry.Write s n) o ≡ false → has_written n past s ≡ false
unwritten past s n due None flight short = ap (λ b. b && nat_le n (count_by (is_write_of s) (since_draw past s))) flight
unwritten past s n due (Some f) flight short = flight_written past s n f flight ∙ short

wrote : (past : Past) (s n : ℕ) (due : Option StepKind) (o : Option Flight) → IsFlight past s o → comes due (entry.Write s n) o ≡ true → has_written n past s ≡ true
wrote past s n due None flight come = absurd (false≢true come)
wrote past s n due (Some f) flight come = flight_written past s n f flight ∙ come

-- at no last write, where one is due and what is kept hasn't come to it
no_last_write : (past : Past) (s : ℕ) (due : Option StepKind) (o : Option Flight) → IsFlight past s o → comes due (entry.Last s) o ≡ false → is_last_due due ≡ true → is_at_last past s ≡ false
no_last_write past s due None flight short last = idle_not_at_last past s flight
no_last_write past s due (Some f) flight short last = by (nat_le f.documents f.written) f.undecided refl refl short
  where
    by : (a u : Bool) → nat_le f.documents f.written ≡ a → f.undecided ≡ u → (a && u && is_last_due due) ≡ false → is_at_last past s ≡ false
    by false u all open_now k = flight_not_at_last past s f flight all
    by true false all open_now k = flight_decided past s f flight open_now
    by true true all open_now k = absurd (false≢true (sym k ∙ last))

last_write : (past : Past) (s : ℕ) (due : Option StepKind) (o : Option Flight) → IsFlight past s o → comes due (entry.Last s) o ≡ true → (is_at_last past s ≡ true) × (is_last_due due ≡ true)
last_write past s due None flight come = absurd (false≢true come)
last_write past s due (Some f) flight come =
    let p = three_of (nat_le f.documents f.written) f.undecided (is_last_due due) come in
    (flight_at_last past s f flight p.0 p.1, p.2)

module _ (script : Script) (s : ℕ) (due : Option StepKind) (o : Option Flight) (before part : Past) (flight : IsFlight (part ++ before) s o) where
  -- where it hasn't come, the part isn't done
  not_done : (e : Entry) → IsOfCommit s e → has_just_said s part ≡ false → is_resting script (part ++ before) s ≡ false → comes due e o ≡ false → is_entry_done script e before part ≡ false
  not_done e same unsaid awake short = of_commit (λ x. comes due x o ≡ false → is_entry_done script x before part ≡ false) s
      (λ k. none_true (is_drawing (part ++ before) s) (has_just_said s part) (is_resting script (part ++ before) s) (undrawn (part ++ before) s due o flight k) unsaid awake)
      (λ n k. none_true (has_written n (part ++ before) s) (has_just_said s part) (is_resting script (part ++ before) s) (unwritten (part ++ before) s n due o flight k) unsaid awake)
      (λ k. neither_true (has_just_said s part) (is_resting script (part ++ before) s) unsaid awake)
      e same short

-- ---- a part is closed

close_done : (first new : Stage) (s : ℕ) (part : Past) (e : Entry) → IsOfCommit s e → IsUnder first new (by_entry e) part → is_entry_done first.script.value e (past_of first) part ≡ true → Closes first new (by_entry e)
close_done first new s part e same under done = of_commit (λ x. IsUnder first new (by_entry x) part → is_entry_done first.script.value x (past_of first) part ≡ true → Closes first new (by_entry x)) s
    (λ u d. under_closes first new (by_entry (entry.Draw s)) part u (part_draws first.script.value (past_of first) s part u.way d) tt)
    (λ n u d. under_closes first new (by_entry (entry.Write s n)) part u (part_writes first.script.value (past_of first) s n part u.way d) tt)
    (λ u d. under_closes first new (by_entry (entry.Last s)) part u (part_rests first.script.value (past_of first) s part u.way d) (u.way.knows, inl d))
    e same under done

-- where it has come, the part may end
close_come : (first new : Stage) (s : ℕ) (o : Option Flight) (part : Past) → IsFlight (part ++ past_of first) s o → (e : Entry) → IsOfCommit s e → IsUnder first new (by_entry e) part → comes (due_at new.world s) e o ≡ true → Closes first new (by_entry e)
close_come first new s o part flight e same under come = of_commit (λ x. IsUnder first new (by_entry x) part → comes (due_at new.world s) x o ≡ true → Closes first new (by_entry x)) s
    (λ u k. under_closes first new (by_entry (entry.Draw s)) part u
    (part_draws first.script.value (past_of first) s part u.way
    (first_true (is_drawing (part ++ past_of first) s) (has_just_said s part) (is_resting first.script.value (part ++ past_of first) s) (drawn (part ++ past_of first) s (due_at new.world s) o flight k))) tt)
    (λ n u k. under_closes first new (by_entry (entry.Write s n)) part u
    (part_writes first.script.value (past_of first) s n part u.way
    (first_true (has_written n (part ++ past_of first) s) (has_just_said s part) (is_resting first.script.value (part ++ past_of first) s) (wrote (part ++ past_of first) s n (due_at new.world s) o flight k))) tt)
    (λ u k. close_last u (last_write (part ++ past_of first) s (due_at new.world s) o flight k))
    e same under come
  where
    close_last : IsUnder first new (by_entry (entry.Last s)) part → (is_at_last (part ++ past_of first) s ≡ true) × (is_last_due (due_at new.world s) ≡ true) → Closes first new (by_entry (entry.Last s))
    close_last u (at, last) = under_closes first new (by_entry (entry.Last s)) part u (part_at_last first.script.value (past_of first) s part u.way at) (u.way.knows, inr last)

-- ---- turns

abbrev entry_in : Rule → Entry → Entry
entry_in (by_entry x) d = x
entry_in r d = d

-- an entry that waits for a last write of t waits for one of s, where it waits for a commit of s
last_of : (s t : ℕ) (e : Entry) → IsOfCommit s e → by_entry e ≡ by_entry (entry.Last t) → (e ≡ entry.Last s) × (t ≡ s)
last_of s t e named same =
    let it : e ≡ entry.Last t = ap (λ r. entry_in r e) same in
    let mine : t ≡ s = subst (λ (x : Entry). IsOfCommit s x) it named in
    (subst (λ (x : ℕ). e ≡ entry.Last x) mine it, mine)

module _ (first stage : Stage) (s : ℕ) (e : Entry) (named : IsOfCommit s e) (has : HasGone first stage (by_entry e) s) (seat : Seat) (at : slice_get stage.seats.items s ≡ Some seat) where
  come_is : has_come stage s e ≡ comes (due_at stage.world s) e seat.flight
  come_is = ap (λ (o : Option Seat). option_map_or (λ x. option_map_or (λ f. has_come_by f (due_at stage.world s) e) x.flight false) o false) at

  flight : IsFlight (has.part ++ past_of first) s seat.flight
  flight = subst (λ (p : Past). IsFlight p s seat.flight) has.under.whole (has.under.stage_is.each s seat at).flight

  pub go_done : has_come stage s e ≡ true → Closes first stage (by_entry e)
  go_done come = close_come first stage s seat.flight has.part flight e named has.under (sym come_is ∙ come)

  module _ (short : has_come stage s e ≡ false) (new : Stage) where
    late : (t : ℕ) → by_entry e ≡ by_entry (entry.Last t) → is_last_due (due_at stage.world s) ≡ true → is_at_last (has.part ++ past_of first) t ≡ false
    late t same last =
        let it = last_of s t e named same in
        subst (λ (x : ℕ). is_at_last (has.part ++ past_of first) x ≡ false) (sym it.1)
        (no_last_write (has.part ++ past_of first) s (due_at stage.world s) seat.flight flight (subst (λ (x : Entry). comes (due_at stage.world s) x seat.flight ≡ false) it.0 (sym come_is ∙ short)) last)

    made_one : (answer : Turn) (come : HasCome stage new s answer) → IsStepAt stage.script.value (past_of stage) s (due_at stage.world s) come.own → IsUnder first new (by_entry e) (come.own ++ has.part)
    made_one answer come step = under_steps first stage new (by_entry e) has.part s answer has.under come step (session_of_commit s e named)
        (not_done first.script.value s (due_at stage.world s) seat.flight (past_of first) has.part flight e named has.unsaid (awake_part first stage new (by_entry e) has.part s answer has.under come step) (sym come_is ∙ short))
        late

    pub go_steps : (k : StepKind) → HasCome stage new s (turn.Stepped k) → HasGone first new (by_entry e) s
    go_steps k come = record {
      part = come.own ++ has.part;
      under = made_one (turn.Stepped k) come come.came.0;
      unsaid = not_said s has.part come.own stage.script.value (past_of stage) come.came.0.events come.came.1;
    }

    pub go_said : (i : ℕ) → HasCome stage new s (turn.Said i) → Closes first new (by_entry e)
    go_said i come = close_done first new s (come.own ++ has.part) e named (made_one (turn.Said i) come come.came.4)
        (done_said first.script.value s (past_of first) (come.own ++ has.part) e named (subst (λ (o : Past). has_just_said s (o ++ has.part) ≡ true) (sym come.came.2) (number_itself s)))

    at_rest : (answer : Turn) (come : HasCome stage new s answer) → come.own ≡ [] → is_resting stage.script.value (past_of stage) s ≡ true → Closes first new (by_entry e)
    at_rest answer come none rest = close_done first new s has.part e named (under_stays first stage new (by_entry e) has.part s answer has.under come none)
        (done_rests first.script.value s (past_of first) has.part e named (subst (λ (p : Past). is_resting first.script.value p s ≡ true) has.under.whole (subst (λ (x : Script). is_resting x (past_of stage) s ≡ true) has.under.script rest)))

    pub go_waits : (q : _) → HasCome stage new s (turn.Waiting q) → Closes first new (by_entry e)
    go_waits q come = at_rest (turn.Waiting q) come come.came.0 (rests stage.script.value (past_of stage) s (inl come.came.1))

    pub go_over : HasCome stage new s turn.Ended → Closes first new (by_entry e)
    go_over come = at_rest turn.Ended come come.came.0 (rests stage.script.value (past_of stage) s (inr come.came.1))

-- ---- the turns of an entry

no_place : {A : Type 0} (i : ℕ) → i < 0 → A
no_place i h = absurd (omega arith)

earlier_place : (j n : ℕ) → suc j < suc n → j < n
earlier_place j n h = omega arith

-- a seat stands at each place
pub seat_at : {X : Type 0} (xs : List X) (i : ℕ) → i < length xs → (x : X) × (slice_get xs i ≡ Some x)
seat_at [] i below = no_place i below
seat_at (x ∷ xs) zero below = (x, refl)
seat_at (x ∷ xs) (suc j) below = seat_at xs j (earlier_place j (length xs) below)

-- the script, and so the number of seats, stays
pub seats_stay : (first stage : Stage) → IsStage first → IsStage stage → stage.script.value ≡ first.script.value → length stage.seats.items ≡ length first.seats.items
seats_stay first stage is now same = now.seats ∙ (ap (λ (x : Script). length x.sessions) same ∙ sym is.seats)

-- each seat is of a session of the world
pub session_there : (stage : Stage) (s : ℕ) → IsStage stage → s < length stage.seats.items → s < length stage.world.history.sessions
session_there stage s is below = subst (λ (n : ℕ). s < n) (is.seats ∙ sym (ap (λ (h : History). length h.sessions) is.history ∙ length-map stage.script.value.sessions (λ (x : SessionScript). x.cluster))) below

pub has_session : (stage : Stage) (s : ℕ) → IsStage stage → s < length stage.seats.items → is_some (slice_get stage.world.history.sessions s) ≡ true
has_session stage s is below = ap is_some (seat_at stage.world.history.sessions s (session_there stage s is below)).1

pub as_many : (stage : Stage) → IsStage stage → length stage.seats.items ≡ length stage.world.history.sessions
as_many stage is = is.seats ∙ sym (ap (λ (h : History). length h.sessions) is.history ∙ length-map stage.script.value.sessions (λ (x : SessionScript). x.cluster))

abbrev pub is_stepped : Turn → Bool
is_stepped (turn.Stepped k) = true
is_stepped a = false

pub place_there : {X : Type 0} (xs : List X) (i : ℕ) → i < length xs → is_some (slice_get xs i) ≡ true
place_there xs i below = ap is_some (seat_at xs i below).1

module _ (first stage : Stage) (s : ℕ) (e : Entry) (named : IsOfCommit s e) (has : HasGone first stage (by_entry e) s) where
  pub still_there : IsStage first → s < length first.seats.items → s < length stage.seats.items
  still_there is below = subst (λ (n : ℕ). s < n) (sym (seats_stay first stage is has.under.stage_is has.under.script)) below

  module _ (below : s < length stage.seats.items) where
    pub go_closes : has_come stage s e ≡ true → Closes first stage (by_entry e)
    go_closes come = let p = seat_at stage.seats.items s below in go_done first stage s e named has p.0 p.1 come

    pub goes : has_come stage s e ≡ false → (new : Stage) (k : StepKind) → HasCome stage new s (turn.Stepped k) → HasGone first new (by_entry e) s
    goes short new k come = let p = seat_at stage.seats.items s below in go_steps first stage s e named has p.0 p.1 short new k come

    pub go_ends : has_come stage s e ≡ false → (new : Stage) (answer : Turn) → HasCome stage new s answer → is_stepped answer ≡ false → Closes first new (by_entry e)
    go_ends short new answer come apart = by (seat_at stage.seats.items s below) answer come apart
      where
        by : (seat : Seat) × (slice_get stage.seats.items s ≡ Some seat) → (answer : Turn) → HasCome stage new s answer → is_stepped answer ≡ false → Closes first new (by_entry e)
        by (seat, at) (turn.Stepped k) come apart = absurd (false≢true (sym apart))
        by (seat, at) (turn.Said i) come apart = go_said first stage s e named has seat at short new i come
        by (seat, at) (turn.Waiting q) come apart = go_waits first stage s e named has seat at short new q come
        by (seat, at) turn.Ended come apart = go_over first stage s e named has seat at short new come
        by (seat, at) turn.Read come apart = absurd come.came
        by (seat, at) turn.Memory come apart = absurd come.came

-- ---- turns until it has come

module _ (first stage : Stage) (s : ℕ) (e : Entry) (named : IsOfCommit s e) (is : IsStage first) (below : s < length first.seats.items) (has : HasGone first stage (by_entry e) s) where
  gone_on : (last : Stage) → AreSteps s (Some e) stage last → HasGone first last (by_entry e) s
  gone_on last steps =
      steps_keep s (Some e) stage (λ x. HasGone first x (by_entry e) s) has
      (λ mid new k before short come. goes first mid s e named before (still_there first mid s e named before is below) short new k come)
      (λ mid new before read. gone_reads first mid s (by_entry e) before new read) last steps

  pub goes_until : (X : Type 0) (new : Stage) (answer : Turn) (k : StepKind) → answer ≡ turn.Stepped k → StepsUntil X stage new s (Some e) answer → HasGone first new (by_entry e) s
  goes_until X new answer k same h = gone_on new (until_as X stage new s (Some e) answer (turn.Stepped k) same h).0

  pub ends_until : (X : Type 0) (new : Stage) (answer : Turn) → is_stepped answer ≡ false → StepsUntil X stage new s (Some e) answer → Closes first new (by_entry e)
  ends_until X new answer apart h = by answer apart h
    where
      ends : (a : Turn) → is_stepped a ≡ false → EndsSteps stage new s (Some e) a → Closes first new (by_entry e)
      ends a apart turned =
          let before = gone_on turned.mid turned.steps in
          go_ends first turned.mid s e named before (still_there first turned.mid s e named before is below) turned.short new a turned.come apart

      by : (a : Turn) → is_stepped a ≡ false → StepsUntil X stage new s (Some e) a → Closes first new (by_entry e)
      by (turn.Stepped k) apart h = absurd (false≢true (sym apart))
      by (turn.Said i) apart h = ends (turn.Said i) apart h
      by (turn.Waiting q) apart h = ends (turn.Waiting q) apart h
      by turn.Ended apart h = ends turn.Ended apart h
      by turn.Read apart h = let before = gone_on new h.0 in go_closes first new s e named before (still_there first new s e named before is below) h.1
      by turn.Memory apart h = ends turn.Memory apart h

-- ---- what a seat tells

-- the seat of a session stands where it stood
pub seats_on : (first stage : Stage) (s : ℕ) → IsStage first → IsStage stage → stage.script.value ≡ first.script.value → s < length first.seats.items → s < length stage.seats.items
seats_on first stage s is now same below = subst (λ (n : ℕ). s < n) (sym (seats_stay first stage is now same)) below

module _ (stage : Stage) (s : ℕ) (seat : Seat) (below : s < length stage.seats.items) (at : seat ≡ get_or stage.seats.items s seat) where
  seat_there : slice_get stage.seats.items s ≡ Some seat
  seat_there = slice_get_read stage.seats.items (length stage.seats.items) s seat refl below at

  pub reads_of_seat : reads_at stage s ≡ is_some seat.run.fetch
  reads_of_seat = ap (λ (o : Option Seat). option_map_or (λ x. is_some x.run.fetch) o false) seat_there

  pub place_of_seat : place_at stage s ≡ stages_left seat.run.phase
  place_of_seat = ap (λ (o : Option Seat). option_map_or stages_left (option_map (λ x. x.run.phase) o) 0) seat_there

  pub works_of_seat : works_at stage s ≡ is_working seat.run.phase
  works_of_seat = ap (λ (o : Option Seat). option_map_or is_working (option_map (λ x. x.run.phase) o) false) seat_there

-- ---- whether a commit has come

module _ (stage : Stage) (s : ℕ) (e : Entry) (seat : Seat) (below : s < length stage.seats.items) (at : seat ≡ get_or stage.seats.items s seat) where
  seat_is : slice_get stage.seats.items s ≡ Some seat
  seat_is = slice_get_read stage.seats.items (length stage.seats.items) s seat refl below at

  come_of_seat : has_come stage s e ≡ comes (due_at stage.world s) e seat.flight
  come_of_seat = ap (λ (o : Option Seat). option_map_or (λ x. option_map_or (λ f. has_come_by f (due_at stage.world s) e) x.flight false) o false) seat_is

  pub come_flying : (f : Flight) → seat.flight ≡ Some f → has_come stage s e ≡ has_come_by f (due_at stage.world s) e
  come_flying f has = come_of_seat ∙ ap (comes (due_at stage.world s) e) has

  pub come_idle : seat.flight ≡ None → has_come stage s e ≡ false
  come_idle none = come_of_seat ∙ ap (comes (due_at stage.world s) e) none
