-- What a port of a world tells of each call.
use mathlib.Core.Bool.{false≢true}
use Rattle.std.proofs.Common.{◌≡◌, ◌↔◌, ℕ, ◌<◌, ◌≤◌, true, Option, Some, None, Result, Ok, Err, List, length, is_some, refl, sym, ap, subst, ◌∙◌}
use Rattle.std.specs.Prelude.{OnErr, OnOk, slice_get}
use Rattle.std.specs.Borrow.{GName}
use Rattle.std.specs.Option.{IsSomeAnd}
use Rattle.std.specs.declared.alloc.AllocError.{AllocError}
use Rattle.std.proofs.lemmas.Option.{slice_get_within}
use Rattle.jr_path.specs.Lists.{Text}
use Rattle.jr_rev.specs.declared.vector.Pin.{Pin}
use Rattle.oak_machine.specs.History.{Past}
use Rattle.oak_machine.specs.Laws.{Says, Starts, after}
use Rattle.oak_machine.specs.Runs.{IsRun}
use Rattle.oak_port.specs.declared.task.Task.{Task}
use Rattle.oak_port.specs.Ports.{Answers, HasRoom, Idle, IsAtRest as IsShownAtRest, OthersAlone, Starting, end_told}
use Rattle.oak_step.specs.declared.work.Work.{Work}
use Rattle.oak_step.specs.declared.work.Work.TheVariants as work
use Rattle.oak_world.specs.Left.{left_in}
use Rattle.oak_world.specs.Seen.{shown_at, shown_work}
use Rattle.oak_step.specs.Works.{Begins}
use Rattle.oak_world.specs.Steps.{IsIdle, IsResting}
use Rattle.oak_world.specs.Worlds.{IsAtRest, WorldOf, actor_in, live, said_in, told_first, with_reply, with_work, work_in}
use Rattle.oak_world.proofs.Left.{same_left}
use Rattle.oak_world.proofs.States.{replied_state, replied_work}
use Rattle.oak_world.proofs.Keeping.{answers_shown, begins_shown, idle_shown, rest_shown, shown_rest, still_waits, told_shown, waits}

-- a session that has nothing left to do but to tell is shown so, and the other way round
pub busy_shown : {X : Type 0} (o : Option X) (v : Work) → (is_some o ≡ true) ↔ (IsAtRest v → ⊥) → (is_some o ≡ true) ↔ (IsShownAtRest (shown_work v) → ⊥)
busy_shown o v h = (λ k e. h.0 k (rest_shown v e), λ busy. h.1 (λ e. busy (shown_rest v e)))

pub at_work : (v : Work) → (IsShownAtRest (shown_work v) → ⊥) → IsAtRest v → ⊥
at_work v busy e = busy (shown_rest v e)

within : {X : Type 0} (xs : List X) (s : ℕ) (o : Option X) → slice_get xs s ≡ o → is_some o ≡ true → s < length xs
within xs s None e h = absurd (false≢true h)
within xs s (Some x) e h = slice_get_within xs s x e

-- the law stays
module _ {L : Type 0} (w u : WorldOf L) (s : ℕ) (r : Result Unit AllocError) where
  pub start_law : (n : ℕ) (pin : Option Pin) (t : Task) → OnOk r ((v : Work) × Begins n pin t v × (u ≡ with_work w s v)) → OnErr r (u ≡ w) → u.law ≡ w.law
  start_law n pin t ok err = by r ok err
    where
      by : (r : Result Unit AllocError) → OnOk r ((v : Work) × Begins n pin t v × (u ≡ with_work w s v)) → OnErr r (u ≡ w) → u.law ≡ w.law
      by (Ok x) ok err = ap (λ (x : WorldOf L). x.law) ok.2
      by (Err x) ok err = ap (λ (x : WorldOf L). x.law) err

  pub reserve_law : (room : Option ℕ) → OnOk r (u ≡ with_reply w s room) → OnErr r (u ≡ w) → u.law ≡ w.law
  reserve_law room ok err = by r ok err
    where
      by : (r : Result Unit AllocError) → OnOk r (u ≡ with_reply w s room) → OnErr r (u ≡ w) → u.law ≡ w.law
      by (Ok x) ok err = ap (λ (x : WorldOf L). x.law) ok
      by (Err x) ok err = ap (λ (x : WorldOf L). x.law) err

-- room for a reply leaves as many steps
pub reserve_left : {L : Type 0} (w u : WorldOf L) (s : ℕ) → s < length w.actors → (room : Option ℕ) (r : Result Unit AllocError) → OnOk r (u ≡ with_reply w s room) → OnErr r (u ≡ w) → left_in u s ≡ left_in w s
reserve_left {L} w u s seat room (Ok x) ok err = ap (λ (v : WorldOf L). left_in v s) ok ∙ same_left w (with_reply w s room) s (replied_state w s seat room) (replied_work w s seat room)
reserve_left {L} w u s seat room (Err x) ok err = ap (λ (v : WorldOf L). left_in v s) err

module _ (starts : Starts) (says : Says) {L : Type 0} (w : WorldOf L) (s : ℕ) (there : is_some (slice_get w.history.sessions s) ≡ true) (run : IsRun starts says (live w.history)) (seats : length w.actors ≡ length w.history.sessions) (name : GName) where
  pub seat : s < length w.actors
  seat = subst (λ (n : ℕ). s < n) (sym seats) (within w.history.sessions s (slice_get w.history.sessions s) refl there)

  -- nothing changes
  pub same_waits : (u : WorldOf L) → u ≡ w → OthersAlone starts says (shown_at name w s) (shown_at name u s) (shown_work (work_in w.actors s)) (actor_in w.actors s).reply
  same_waits u e = subst (λ (x : WorldOf L). OthersAlone starts says (shown_at name w s) (shown_at name x s) (shown_work (work_in w.actors s)) (actor_in w.actors s).reply) (sym e) (still_waits starts says w s name run)

  -- room for a reply is kept
  pub reserve_waits : (u : WorldOf L) (room : Option ℕ) → u ≡ with_reply w s room → OthersAlone starts says (shown_at name w s) (shown_at name u s) (shown_work (work_in w.actors s)) room
  reserve_waits u room e = waits w s seat starts says run name u (record (actor_in w.actors s) { reply = room }) (ap (λ (x : WorldOf L). x.history) e) (ap (λ (x : WorldOf L). x.actors) e) (shown_work (work_in w.actors s)) refl room refl (λ k. refl)

  module _ (idle : shown_work (work_in w.actors s) ≡ Idle) where
    rests : work_in w.actors s ≡ work.Rest
    rests = idle_shown (work_in w.actors s) idle

    pub is_idle : IsIdle w s
    is_idle = record { there = there; idle = rests }

    -- a task begins, or none does
    pub start_waits : (u : WorldOf L) (n : ℕ) (pin : Option Pin) (t : Task) → (v : Work) × Begins n pin t v × (u ≡ with_work w s v) → OthersAlone starts says (shown_at name w s) (shown_at name u s) (Starting t) (actor_in w.actors s).reply
    start_waits u n pin t b = waits w s seat starts says run name u (record (actor_in w.actors s) { work = b.0; began = length w.history.past }) (ap (λ (x : WorldOf L). x.history) b.2) (ap (λ (x : WorldOf L). x.actors) b.2) (Starting t) (begins_shown n pin t b.0 b.1) (actor_in w.actors s).reply refl
        (λ k. let e : Starting t ≡ Idle = k ∙ idle in cc)

    pub none_waits : (u : WorldOf L) → u ≡ w → OthersAlone starts says (shown_at name w s) (shown_at name u s) Idle (actor_in w.actors s).reply
    none_waits u e = subst (λ x. OthersAlone starts says (shown_at name w s) (shown_at name u s) x (actor_in w.actors s).reply) idle (same_waits u e)

  -- a reply is said
  module _ (rest : IsShownAtRest (shown_work (work_in w.actors s))) where
    pub is_resting : IsResting w s
    is_resting = record { there = there; rest = rest_shown (work_in w.actors s) rest }

    pub say_answers : (u : WorldOf L) (i : ℕ) (text : Text) → u ≡ said_in w s i text → IsRun starts says (live u.history) → Answers starts says (shown_at name w s) (shown_at name u s) i text
    say_answers u i text e now = subst (λ (x : WorldOf L). Answers starts says (shown_at name w s) (shown_at name x s) i text) (sym e) (answers_shown starts says w s seat (rest_shown (work_in w.actors s) rest) name i text (subst (λ (x : WorldOf L). IsRun starts says (live x.history)) e now))

-- the law lets the reply be said behind how the session's task ended
pub lawful_told : {L : Type 0} (w : WorldOf L) (s : ℕ) (says : Says) (i : ℕ) (text : Text) → IsAtRest (work_in w.actors s) → says (after (end_told (shown_work (work_in w.actors s))) (live w.history)) s i text → says (after (told_first (work_in w.actors s)) (live w.history)) s i text
lawful_told w s says i text rest lawful = subst (λ (own : Past). says (after own (live w.history)) s i text) (told_shown (work_in w.actors s) rest) lawful

-- the room of a reply
pub room_by : (o : Option ℕ) (n : ℕ) → HasRoom o n → IsSomeAnd o (λ bytes. n ≤ bytes)
room_by None n h = absurd h
room_by (Some bytes) n h = h
