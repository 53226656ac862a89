-- Turns until so many replies are said, to the next reply, and to the end: steps, and a turn behind them.
use Rattle.std.proofs.Common.{◌≡◌, ℕ, ◌+◌, ◌<◌, length, true, false, Some, None, Option, ◌++◌, refl, sym, ap, ◌∙◌, subst}
use Rattle.std.specs.Prelude.{◌==◌, slice_get}
use Rattle.std.specs.Option.{option_map, option_map_or}
use mathlib.Core.Bool.{false≢true}
use Rattle.jr_rev.specs.declared.revision.Revision.{Revision}
use Rattle.oak_machine.specs.declared.event.StepKind.{StepKind}
use Rattle.oak_machine.specs.History.{Past}
use Rattle.oak_machine.specs.Sessions.{has_left, is_drawing, next_index}
use Rattle.oak_world.specs.Seen.{shown_at}
use Rattle.jcr_run.specs.Standing.{is_saving}
use Rattle.jcr_run.specs.declared.turn.Turn.{Turn}
use Rattle.jcr_run.specs.declared.turn.Turn.TheVariants as turn
use Rattle.jr_script.specs.declared.script.Script.{Script}
use Rattle.jr_script.specs.declared.script.Entry.TheVariants as entry
use Rattle.jr_stage.specs.declared.stage.Seat.{Seat}
use Rattle.jr_stage.specs.declared.stage.Stage.{Stage}
use Rattle.jr_stage.specs.Awaited.{IsAlone, IsNextToReply, IsStill, LeavesOtherSessions}
use Rattle.jr_stage.specs.Nearing.{saves_at}
use Rattle.jr_stage.specs.Parts.{by_entry, to_end, to_reply}
use Rattle.jr_stage.specs.Places.{commands_of, is_over}
use Rattle.jr_stage.specs.Stages.{AreSteps, Closes, EndsSteps, HasCome, HasOnlyRead, IsStage, StepsUntil, past_of}
use Rattle.jr_stage.proofs.Counting.{HasGone, HasSaid, IsEnding, end_begins, end_is_over, end_over, end_reads, end_said, end_steps, gone_begins, gone_reads, reply_said, reply_steps, say_over, say_reads, say_said, say_steps, say_waits}
use Rattle.jr_stage.proofs.First.{alone_first, alone_stays, alone_still, first_stays, leaves_on, leaves_same}
use Rattle.jr_stage.proofs.Flying.{halves}
use Rattle.jr_stage.proofs.Going.{steps_keep, until_as}
use Rattle.jr_stage.proofs.Reaching.{seat_at, seats_on}
use Rattle.jr_stage.proofs.Saving.{committing_saves, flying_commits, left_idle, said_idle, saving_stays_in}

-- ---- so many replies

module _ (first stage : Stage) (s n said : ℕ) (has : HasSaid first stage s n said) (short : said < n) where
  said_on : (last : Stage) → AreSteps s None stage last → HasSaid first last s n said
  said_on last steps = steps_keep s None stage (λ x. HasSaid first x s n said) has (λ mid new k before none come. say_steps first mid s n said before short new k come) (λ mid new before read. say_reads first mid s n said before new read) last steps

  pub says_until : (X : Type 0) (new : Stage) (answer : Turn) (k : StepKind) → answer ≡ turn.Stepped k → StepsUntil X stage new s None answer → HasSaid first new s n said
  says_until X new answer k is h = said_on new (until_as X stage new s None answer (turn.Stepped k) is h).0

  pub says_one : (X : Type 0) (new : Stage) (answer : Turn) (i : ℕ) → answer ≡ turn.Said i → StepsUntil X stage new s None answer → HasSaid first new s n (said + 1)
  says_one X new answer i is h =
      let ends = until_as X stage new s None answer (turn.Said i) is h in
      say_said first ends.mid s n said (said_on ends.mid ends.steps) short new i ends.come

  pub says_waits : (X : Type 0) (new : Stage) (answer : Turn) (q : Revision) → answer ≡ turn.Waiting q → StepsUntil X stage new s None answer → Closes first new (by_entry (entry.Say s n))
  says_waits X new answer q is h =
      let ends = until_as X stage new s None answer (turn.Waiting q) is h in
      say_waits first ends.mid s n said (said_on ends.mid ends.steps) new q ends.come

  pub says_over : (X : Type 0) (new : Stage) (answer : Turn) → answer ≡ turn.Ended → StepsUntil X stage new s None answer → Closes first new (by_entry (entry.Say s n))
  says_over X new answer is h =
      let ends = until_as X stage new s None answer turn.Ended is h in
      say_over first ends.mid s n said (said_on ends.mid ends.steps) new ends.come

-- ---- what a seat tells

module _ (stage : Stage) (s : ℕ) (is : IsStage stage) (seat : Seat) (at : slice_get stage.seats.items s ≡ Some seat) where
  saves_is : saves_at stage s ≡ is_saving seat.run.phase
  saves_is = ap (λ (o : Option Seat). option_map_or is_saving (option_map (λ x. x.run.phase) o) false) at

  flies_saves : is_drawing (past_of stage) s ≡ true → saves_at stage s ≡ true
  flies_saves flies = saves_is ∙ committing_saves seat.run.phase (flying_commits stage.world.law (shown_at 0 stage.world s) seat.run ((is.each s seat at).stands 0) flies)

  saves_stays : saves_at stage s ≡ true → has_left (past_of stage) s ≡ false
  saves_stays saves = saving_stays_in stage.world.law (shown_at 0 stage.world s) seat.run ((is.each s seat at).stands 0) (sym saves_is ∙ saves)

  idle_left : has_left (past_of stage) s ≡ true → is_drawing (past_of stage) s ≡ false
  idle_left left = left_idle stage.world.law (shown_at 0 stage.world s) seat.run ((is.each s seat at).stands 0) left

  idle_said : (old : Stage) (i : ℕ) → HasCome old stage s (turn.Said i) → is_drawing (past_of stage) s ≡ false
  idle_said old i come = said_idle stage.world.law (shown_at 0 stage.world s) seat.run ((is.each s seat at).stands 0) i come.came.0 (come.came.1 ++ past_of old) (come.past ∙ ap (λ (o : Past). o ++ past_of old) come.came.2)

pub has_left_over : (script : Script) (past : Past) (s : ℕ) → is_over script past s ≡ true → has_left past s ≡ true
has_left_over script past s over = (halves (next_index past s == length (commands_of script s)) (has_left past s) over).1

-- ---- to the next reply

-- turns of s were made, none of which said a reply: it saves, and no other session keeps it waiting
pub record IsReplying (first stage : Stage) (s : ℕ) : Type 0 where
  pub gone : HasGone first stage (to_reply s) s
  pub saves : saves_at stage s ≡ true
  pub waits : IsNextToReply (past_of stage) s
  pub leaves : LeavesOtherSessions (past_of first) (past_of stage) s

pub replying_begins : (stage : Stage) (s : ℕ) → IsStage stage → s < length stage.seats.items → is_drawing (past_of stage) s ≡ true → IsNextToReply (past_of stage) s → IsReplying stage stage s
replying_begins stage s is below flies waits =
    let p = seat_at stage.seats.items s below in
    record { gone = gone_begins stage stage s (to_reply s) is; saves = flies_saves stage s is p.0 p.1 flies; waits = waits; leaves = leaves_same (past_of stage) s }

replying_step : (first stage : Stage) (s : ℕ) → IsReplying first stage s → (new : Stage) (k : StepKind) → HasCome stage new s (turn.Stepped k) → IsReplying first new s
replying_step first stage s has new k come = record {
  gone = reply_steps first stage s has.gone new k come;
  saves = come.saves has.saves;
  waits = first_stays (past_of stage) (past_of new) s come.leaves (come.draws has.saves) has.waits;
  leaves = leaves_on (past_of first) (past_of stage) (past_of new) s has.leaves come.leaves;
}

replying_reads : (first stage : Stage) (s : ℕ) → IsReplying first stage s → (new : Stage) → HasOnlyRead stage new s → IsReplying first new s
replying_reads first stage s has new read = record {
  gone = gone_reads first stage s (to_reply s) has.gone new read;
  saves = read.saves ∙ has.saves;
  waits = subst (λ (p : Past). IsNextToReply p s) (sym read.past) has.waits;
  leaves = subst (λ (p : Past). LeavesOtherSessions (past_of first) p s) (sym read.past) has.leaves;
}

module _ (first stage : Stage) (s : ℕ) (is : IsStage first) (below : s < length first.seats.items) (has : IsReplying first stage s) where
  pub replying_there : s < length stage.seats.items
  replying_there = seats_on first stage s is has.gone.under.stage_is has.gone.under.script below

  replying_on : (last : Stage) → AreSteps s None stage last → IsReplying first last s
  replying_on last steps = steps_keep s None stage (λ x. IsReplying first x s) has (λ mid new k before none come. replying_step first mid s before new k come) (λ mid new before read. replying_reads first mid s before new read) last steps

  pub replies_until : (X : Type 0) (new : Stage) (answer : Turn) (k : StepKind) → answer ≡ turn.Stepped k → StepsUntil X stage new s None answer → IsReplying first new s
  replies_until X new answer k same h = replying_on new (until_as X stage new s None answer (turn.Stepped k) same h).0

  module _ (X : Type 0) (new : Stage) (answer : Turn) (i : ℕ) (same : answer ≡ turn.Said i) (h : StepsUntil X stage new s None answer) where
    ends : EndsSteps stage new s None (turn.Said i)
    ends = until_as X stage new s None answer (turn.Said i) same h

    before : IsReplying first ends.mid s
    before = replying_on ends.mid ends.steps

    pub replied_closes : Closes first new (to_reply s)
    replied_closes = reply_said first ends.mid s before.gone new i ends.come

    pub replied_leaves : LeavesOtherSessions (past_of first) (past_of new) s
    replied_leaves = leaves_on (past_of first) (past_of ends.mid) (past_of new) s before.leaves ends.come.leaves

    pub replied_lands : is_drawing (past_of new) s ≡ false
    replied_lands =
        let p = seat_at new.seats.items s (seats_on first new s is ends.come.stage replied_closes.script below) in
        idle_said new s ends.come.stage p.0 p.1 ends.mid i ends.come

  -- nothing else comes
  pub replies_only : (X : Type 0) {A : Type 0} (new : Stage) (answer : Turn) → ((i : ℕ) → answer ≡ turn.Said i → ⊥) → ((k : StepKind) → answer ≡ turn.Stepped k → ⊥) → StepsUntil X stage new s None answer → A
  replies_only X new (turn.Stepped k) unsaid none h = absurd (none k refl)
  replies_only X new (turn.Said i) unsaid none h = absurd (unsaid i refl)
  replies_only X new (turn.Waiting q) unsaid none h = let kept = h.come.kept in absurd ((replying_on h.mid h.steps).waits kept.0 kept.1 kept.2)
  replies_only X new turn.Ended unsaid none h =
      let before = replying_on h.mid h.steps in
      let p = seat_at h.mid.seats.items s (seats_on first h.mid s is before.gone.under.stage_is before.gone.under.script below) in
      absurd (false≢true (sym (saves_stays h.mid s before.gone.under.stage_is p.0 p.1 before.saves) ∙ has_left_over h.mid.script.value (past_of h.mid) s h.come.came.1))
  replies_only X new turn.Read unsaid none h = absurd (false≢true h.1)
  replies_only X new turn.Memory unsaid none h = absurd h.come.came

-- ---- to the end

-- turns of s were made towards its end, while no other session has a commit in flight
pub record IsFinishing (first stage : Stage) (s : ℕ) : Type 0 where
  pub ending : IsEnding first stage s
  pub alone : IsAlone (past_of stage) s

pub finishing_begins : (stage : Stage) (s : ℕ) → IsStage stage → IsAlone (past_of stage) s → IsFinishing stage stage s
finishing_begins stage s is alone = record { ending = end_begins stage stage s is; alone = alone }

finishing_step : (first stage : Stage) (s : ℕ) → IsFinishing first stage s → (new : Stage) (k : StepKind) → HasCome stage new s (turn.Stepped k) → IsFinishing first new s
finishing_step first stage s has new k come = record {
  ending = end_steps first stage s has.ending new k come;
  alone = alone_stays (past_of stage) (past_of new) s come.leaves has.alone;
}

finishing_reads : (first stage : Stage) (s : ℕ) → IsFinishing first stage s → (new : Stage) → HasOnlyRead stage new s → IsFinishing first new s
finishing_reads first stage s has new read = record {
  ending = end_reads first stage s has.ending new read;
  alone = subst (λ (p : Past). IsAlone p s) (sym read.past) has.alone;
}

module _ (first stage : Stage) (s : ℕ) (is : IsStage first) (below : s < length first.seats.items) (has : IsFinishing first stage s) where
  pub finishing_there : s < length stage.seats.items
  finishing_there = seats_on first stage s is has.ending.under.stage_is has.ending.under.script below

  finishing_on : (last : Stage) → AreSteps s None stage last → IsFinishing first last s
  finishing_on last steps = steps_keep s None stage (λ x. IsFinishing first x s) has (λ mid new k before none come. finishing_step first mid s before new k come) (λ mid new before read. finishing_reads first mid s before new read) last steps

  pub finishes_until : (X : Type 0) (new : Stage) (answer : Turn) (k : StepKind) → answer ≡ turn.Stepped k → StepsUntil X stage new s None answer → IsFinishing first new s
  finishes_until X new answer k same h = finishing_on new (until_as X stage new s None answer (turn.Stepped k) same h).0

  pub finishes_said : (X : Type 0) (new : Stage) (answer : Turn) (i : ℕ) → answer ≡ turn.Said i → StepsUntil X stage new s None answer → IsFinishing first new s
  finishes_said X new answer i same h =
      let ends = until_as X stage new s None answer (turn.Said i) same h in
      let before = finishing_on ends.mid ends.steps in
      record { ending = end_said first ends.mid s before.ending new i ends.come; alone = alone_stays (past_of ends.mid) (past_of new) s ends.come.leaves before.alone }

  module _ (X : Type 0) (new : Stage) (answer : Turn) (same : answer ≡ turn.Ended) (h : StepsUntil X stage new s None answer) where
    end_turn : EndsSteps stage new s None turn.Ended
    end_turn = until_as X stage new s None answer turn.Ended same h

    at_end : IsFinishing first end_turn.mid s
    at_end = finishing_on end_turn.mid end_turn.steps

    pub finished_closes : Closes first new (to_end s)
    finished_closes = end_over first end_turn.mid s at_end.ending new end_turn.come

    pub finished_over : is_over new.script.value (past_of new) s ≡ true
    finished_over = end_is_over first end_turn.mid s at_end.ending new end_turn.come

    pub finished_still : IsStill (past_of new)
    finished_still =
        let p = seat_at new.seats.items s (seats_on first new s is end_turn.come.stage finished_closes.script below) in
        alone_still (past_of new) s (alone_stays (past_of end_turn.mid) (past_of new) s end_turn.come.leaves at_end.alone)
        (idle_left new s end_turn.come.stage p.0 p.1 (has_left_over new.script.value (past_of new) s finished_over))

  -- nothing else comes
  pub finishes_only : (X : Type 0) {A : Type 0} (new : Stage) (answer : Turn) → (answer ≡ turn.Ended → ⊥) → ((i : ℕ) → answer ≡ turn.Said i → ⊥) → ((k : StepKind) → answer ≡ turn.Stepped k → ⊥) → StepsUntil X stage new s None answer → A
  finishes_only X new (turn.Stepped k) more unsaid none h = absurd (none k refl)
  finishes_only X new (turn.Said i) more unsaid none h = absurd (unsaid i refl)
  finishes_only X new (turn.Waiting q) more unsaid none h =
      let kept = h.come.kept in
      absurd (alone_first (past_of h.mid) s (finishing_on h.mid h.steps).alone kept.0 kept.1 kept.2)
  finishes_only X new turn.Ended more unsaid none h = absurd (more refl)
  finishes_only X new turn.Read more unsaid none h = absurd (false≢true h.1)
  finishes_only X new turn.Memory more unsaid none h = absurd h.come.came
