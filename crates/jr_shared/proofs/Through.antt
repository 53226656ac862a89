-- What a port over a pass tells of a call that was made under one hold.
use Rattle.std.proofs.Common.{◌≡◌, ◌≢◌, ◌↔◌, ◌⊎◌, inl, inr, ℕ, ◌+◌, ◌<◌, true, false, Option, Some, None, Result, Ok, Err, List, [], ◌∷◌, ◌++◌, length, is_some, refl, sym, ap, subst, ◌∙◌, arith, length-append}
use Rattle.std.specs.Prelude.{◌==◌, IfOk, IfSome, reverse, slice_get}
use Rattle.std.specs.Borrow.{GName}
use Rattle.std.specs.Map.{lookup}
use Rattle.std.specs.Option.{option_and_then, option_map, option_map_or, unwrap_or}
use Rattle.std.specs.declared.alloc.AllocError.{AllocError}
use Rattle.std.proofs.lemmas.List.{append_assoc, reverse-reverse}
use Rattle.jr_path.specs.declared.path.Path.{Path}
use Rattle.jr_path.specs.Lists.{Text}
use Rattle.jr_rev.specs.declared.vector.Pin.{Pin}
use Rattle.jr_rev.specs.declared.vector.RevVec.{RevVec}
use Rattle.oak_machine.specs.declared.event.Event.TheVariants as event
use Rattle.oak_machine.specs.declared.event.StepKind.{StepKind}
use Rattle.oak_machine.specs.declared.event.StepKind.TheVariants as kind
use Rattle.oak_machine.specs.declared.law.Law.{Ghosts}
use Rattle.oak_machine.specs.History.{History, Past}
use Rattle.oak_machine.specs.Laws.{AreOthers, after}
use Rattle.oak_machine.specs.Runs.{IsRun}
use Rattle.oak_machine.specs.Sessions.{base_of, has_left}
use Rattle.core_world.specs.States.{State, actor_pin, memory_of}
use Rattle.oak_port.specs.declared.task.StepOut.{StepOut}
use Rattle.oak_port.specs.declared.task.Task.{Task}
use Rattle.oak_port.specs.Ports.{ActedAlone, AreOfStep, Answers, Grows, Idle, IsAtRest as IsShownAtRest, IsWait, Makes, OthersAlone, ReadsAsDue, SplitsAsDue, Starting, StaysSo, Steps, TellsChanges, Work as Shows, end_told, is_by_due, is_due}
use Rattle.oak_step.specs.declared.work.Work.{Work}
use Rattle.oak_step.specs.declared.work.Work.TheVariants as work
use Rattle.oak_world.specs.Left.{left_in, steps_left}
use Rattle.oak_world.specs.Seen.{shown_at, shown_work}
use Rattle.oak_step.specs.Works.{Begins, kind_due}
use Rattle.oak_world.specs.Worlds.{ActorState, IsAtRest, WorldOf, actor_in, idle, live, said_in, state_of, told_first, with_reply, with_work, work_in}
use Rattle.oak_world.proofs.Keeping.{begins_shown, shown_rest, told_shown}
use Rattle.oak_world.proofs.Porting.{busy_shown, reserve_left}
use Rattle.oak_world.proofs.States.{actor_set}
use Rattle.seat_lock.specs.declared.rule.Round.TheVariants as round
use Rattle.jr_shared.specs.declared.locked.WorldFrame.{WorldFrame}
use Rattle.jr_shared.specs.Meanings.{Owned, frame_of, journal_of, owned_of, steady_of}
use Rattle.jr_shared.specs.Holds.{ChangesAre, DueIs, IsTold, IsToldOf, PassKnown, OneHold, PinIs, Reserved, Stepped, actor_by, has_seat, owned_by, seat_by}
use Rattle.jr_shared.specs.Seen.{history_by, law_by, left_by, shown_through, state_by}
use Rattle.jr_shared.proofs.Acts.{step_grows}
use Rattle.jr_shared.proofs.Got
use Rattle.jr_shared.proofs.Got.{blank, some_within, the_is}
use Rattle.jr_shared.proofs.Handing.{told_of}
use Rattle.jr_shared.proofs.Lists.{found_part, found_retold}
use Rattle.jr_shared.proofs.Over.{none_left}
use Rattle.jr_shared.proofs.Shapes.{none_between, shaped}

-- lists that end alike begin alike
cancel : (xs ys zs : Past) → xs ++ zs ≡ ys ++ zs → xs ≡ ys
cancel [] [] zs h = refl
cancel [] (y ∷ ys) zs h = let l : length zs ≡ length (y ∷ ys) + length zs = ap length h ∙ length-append (y ∷ ys) zs in absurd (omega arith)
cancel (x ∷ xs) [] zs h = let l : length (x ∷ xs) + length zs ≡ length zs = sym (length-append (x ∷ xs) zs) ∙ ap length h in absurd (omega arith)
cancel (x ∷ xs) (y ∷ ys) zs h =
    let first : x ≡ y = cc in
    let rest : xs ++ zs ≡ ys ++ zs = cc in
    let same = cancel xs ys zs rest in
    λ i. first i ∷ same i

module _ {L : Type 0} (law : Ghosts L) (old new : PassKnown L) (s : ℕ) (made : WorldOf L → WorldOf L → Type 0) (h : OneHold law old new s made) where
  abbrev got : WorldOf L
  got = h.got

  abbrev left : WorldOf L
  left = h.left

  abbrev more : Past
  more = Got.more law old got h.got_is

  -- ---- the frame

  frame_new : new.frame ≡ Some (frame_of left)
  frame_new = ap (λ (v : PassKnown L). v.frame) h.known ∙ (h.got_is.frame_is ∙ ap Some (sym h.alone.frame_is))

  pub framed_new : is_some new.frame ≡ true
  framed_new = ap is_some frame_new

  law_left : left.law ≡ got.law
  law_left = ap (λ (f : WorldFrame L). f.law) h.alone.frame_is

  pub law_stays : (was : is_some old.frame ≡ true) (now : is_some new.frame ≡ true) → law_by new now ≡ law_by old was
  law_stays was now = ap (λ (f : WorldFrame L). f.law) (the_is new.frame (frame_of left) frame_new now) ∙ (law_left ∙ sym (Got.law_old law old got h.got_is was))

  -- ---- the history

  history_new : history_by new ≡ live left.history
  history_new =
      ap (λ (o : Option (WorldFrame L)). record { clusters = option_map_or (λ f. f.clusters) o 0; sessions = option_map_or (λ f. f.sessions) o []; begin = None; past = reverse new.seen }) frame_new
      ∙ ap (λ (xs : Past). record (live left.history) { past = xs }) (ap (λ (v : PassKnown L). reverse v.seen) h.known ∙ reverse-reverse left.history.past)

  run_new : IsRun (law.may_start got.law) (law.may_say got.law) (live left.history)
  run_new = subst (λ (l : L). IsRun (law.may_start l) (law.may_say l) (live left.history)) law_left h.left_whole.kept.1.sessions.run

  -- ---- what is owned

  owned_new : (q : ℕ) → owned_by new q ≡ option_map (λ p. owned_of left q) (owned_by old q)
  owned_new q = ap (λ (v : PassKnown L). lookup (λ a. a == q) v.parts) h.known ∙ found_retold (owned_of left) old.parts q

  -- the pass knows of each of its sessions just the events that it has seen
  pub told_new : IsTold new
  told_new q = subst (λ (o : Option Owned). IfSome o (IsToldOf (reverse new.seen) q)) (sym (owned_new q)) (by (owned_by old q))
    where
      seen_is : new.seen ≡ journal_of left
      seen_is = ap (λ (v : PassKnown L). v.seen) h.known

      by : (o : Option Owned) → IfSome (option_map (λ p. owned_of left q) o) (IsToldOf (reverse new.seen) q)
      by None = tt
      by (Some p) = subst (λ xs. IsToldOf (reverse xs) q (owned_of left q)) (sym seen_is) (told_of left h.left_whole.told q)

  -- what the pass's other sessions own stays
  pub others_new : (q : ℕ) → q ≢ s → owned_by new q ≡ owned_by old q
  others_new q apart = owned_new q ∙ by (owned_by old q) refl
    where
      by : (o : Option Owned) → owned_by old q ≡ o → option_map (λ p. owned_of left q) o ≡ o
      by None is = refl
      by (Some p) is = ap Some (h.alone.others q apart ∙ h.got_is.parts q p (found_part old.parts q p is))

  pub weight_new : new.weight ≡ old.weight
  weight_new = ap (λ (v : PassKnown L). v.weight) h.known

  pub rest_new : new.round ≡ round.Idle
  rest_new = ap (λ (v : PassKnown L). v.round) h.known

  module _ (seat : has_seat old s ≡ true) where
    actor_got : actor_by old s ≡ actor_in got.actors s
    actor_got = Got.actor_got law old got h.got_is s seat

    seat_new : seat_by new s ≡ slice_get left.actors s
    seat_new = ap (option_and_then (λ (p : Owned). p.seat)) (owned_new s ∙ ap (option_map (λ (p : Owned). owned_of left s)) (Got.owned_got law old got h.got_is s seat))

    actor_new : actor_by new s ≡ actor_in left.actors s
    actor_new = ap (λ (o : Option ActorState). unwrap_or o idle) seat_new

    seated_left : s < length left.actors
    seated_left =
        let was : s < length got.actors = Got.seated law old got h.got_is s seat in
        let one : length left.actors ≡ length left.history.sessions = h.left_whole.seats in
        let two : length got.actors ≡ length got.history.sessions = h.got_is.whole.seats in
        let same : length left.history.sessions ≡ length got.history.sessions = ap (λ (f : WorldFrame L). length f.sessions) h.alone.frame_is in
        omega (arith, was, one, two, same)

    pub has_new : has_seat new s ≡ true
    has_new = ap is_some seat_new ∙ some_within left.actors s idle seated_left

    pub left_new : left_by new s ≡ left_in left s
    left_new =
        let steady : new.steady ≡ Some (steady_of left) = ap (λ (v : PassKnown L). v.steady) h.known in
        let same : state_by new ≡ blank (state_of left) =
        ap (λ (x : History). record (state_by new) { clusters = x.clusters; sessions = x.sessions; past = x.past }) history_new
        ∙ ap (λ (o : Option (WorldOf L)). record (blank (state_of left)) { table = option_map_or (λ w. w.table) o (state_by (record new { steady = None })).table; memories = option_map_or (λ w. w.memories) o [] }) steady in
        ap (λ (x : State). steps_left s x.table (memory_of x s) (actor_by new s).work) same
        ∙ ap (λ (a : ActorState). steps_left s left.table (memory_of (state_of left) s) a.work) actor_new

    -- ---- what is due

    pub due_is : (r : Option StepKind) → DueIs got s r left → r ≡ kind_due (actor_by new s).work
    due_is r d = d.due ∙ (ap (λ (w : WorldOf L). kind_due (work_in w.actors s)) (sym d.same) ∙ sym (ap (λ (a : ActorState). kind_due a.work) actor_new))

    pub busy_is : (r : Option StepKind) → DueIs got s r left → (is_some r ≡ true) ↔ (IsShownAtRest (shown_work (actor_by old s).work) → ⊥)
    busy_is r d = subst (λ (v : Work). (is_some r ≡ true) ↔ (IsShownAtRest (shown_work v) → ⊥)) (sym (ap (λ (a : ActorState). a.work) actor_got)) (busy_shown r (work_in got.actors s) d.busy)

    -- where no step is left nothing is left to be done but to tell how a task ended
    pub over_is : (r : Option StepKind) → DueIs got s r left → left_by old s ≡ 0 → IsShownAtRest (shown_work (actor_by old s).work)
    over_is r d none =
        let left_got : left_in got s ≡ 0 =
        subst (λ (v : Work). steps_left s got.table (memory_of (state_of got) s) v ≡ 0) (ap (λ (a : ActorState). a.work) actor_got)
        (none_left s (state_by old) (state_of got) (actor_by old s).work none) in
        subst (λ (v : Work). IsShownAtRest (shown_work v)) (sym (ap (λ (a : ActorState). a.work) actor_got)) (shown_rest (work_in got.actors s) (d.over left_got))

    module _ (told : IsTold old) (framed : is_some old.frame ≡ true) (name : GName) where
      others : AreOthers s more (reverse old.seen)
      others = Got.others law old got h.got_is s seat told

      abbrev l : L
      l = law_by old framed

      law_is : got.law ≡ l
      law_is = sym (Got.law_old law old got h.got_is framed)

      -- events of others were added, and then these
      grows : (own : Past) → live left.history ≡ after own (live got.history) → Grows (law.may_start l) (law.may_say l) s (history_by old) (history_by new) more own
      grows own is = record {
        grown = history_new ∙ (is ∙ ap (after own) (Got.history_got law old got h.got_is));
        theirs = others;
        run = subst (λ (k : L). IsRun (law.may_start k) (law.may_say k) (history_by new)) law_is (subst (λ (x : History). IsRun (law.may_start got.law) (law.may_say got.law) x) (sym history_new) run_new);
      }

      -- others alone have acted; the session does this now, and its reply has this place
      others_alone : (w : Shows) (room : Option ℕ) → left.history ≡ got.history → shown_work (work_in left.actors s) ≡ w → (actor_in left.actors s).reply ≡ room
          → (w ≡ shown_work (work_in got.actors s) → kind_due (work_in left.actors s) ≡ kind_due (work_in got.actors s))
          → OthersAlone (law.may_start l) (law.may_say l) (shown_through name old s) (shown_through name new s) w room
      others_alone w room same does replies due = record {
        others = more;
        grows = grows [] (ap live same);
        session = refl;
        work_is = ap (λ (a : ActorState). shown_work a.work) actor_new ∙ does;
        room_is = ap (λ (a : ActorState). a.reply) actor_new ∙ replies;
        same_due = λ k. ap (λ (a : ActorState). kind_due a.work) actor_new ∙ (due (k ∙ ap (λ (a : ActorState). shown_work a.work) actor_got) ∙ sym (ap (λ (a : ActorState). kind_due a.work) actor_got));
        beside = refl;
        alone = tt;
      }

      -- ---- where nothing is changed

      module _ (same : left ≡ got) where
        pub stays_so : StaysSo (law.may_start l) (law.may_say l) (shown_through name old s) (shown_through name new s)
        stays_so = others_alone (shown_work (actor_by old s).work) (actor_by old s).reply (ap (λ (w : WorldOf L). w.history) same)
            (ap (λ (w : WorldOf L). shown_work (work_in w.actors s)) same ∙ sym (ap (λ (a : ActorState). shown_work a.work) actor_got))
            (ap (λ (w : WorldOf L). (actor_in w.actors s).reply) same ∙ sym (ap (λ (a : ActorState). a.reply) actor_got))
            (λ k. ap (λ (w : WorldOf L). kind_due (work_in w.actors s)) same)

      pub pin_is : (r : Option Pin) → PinIs got s r left → has_left (reverse old.seen) s ≡ false → option_map (λ pin. pin.base) r ≡ base_of (reverse old.seen) s
      pin_is r p stays = p.base (Got.left_got law old got h.got_is s seat told ∙ stays) ∙ Got.base_got law old got h.got_is s seat told

      pub changes_are : (since : RevVec) (r : Result (Option (List Path)) AllocError) → ChangesAre got s since r left → IfOk r (λ o. IfSome o (TellsChanges (history_by new) s since))
      changes_are since r c = subst (λ (x : History). IfOk r (λ o. IfSome o (TellsChanges x s since))) (sym (history_new ∙ ap (λ (w : WorldOf L). live w.history) c.same)) c.told

      -- where no event was added, none was before
      none_added : live left.history ≡ live got.history → history_by new ≡ history_by old → more ≡ []
      none_added same stays = cancel more [] (reverse old.seen) (ap (λ (x : History). x.past) (sym (Got.history_got law old got h.got_is) ∙ (sym same ∙ (sym history_new ∙ stays))))

      -- how many steps are left, if no event was added and the call leaves that
      pub left_on : left.history ≡ got.history → left_in left s ≡ left_in got s → history_by new ≡ history_by old → left_by new s ≡ left_by old s
      left_on same on stays = left_new ∙ (on ∙ sym (Got.left_old law old got h.got_is s seat (none_added (ap live same) stays)))

      pub left_same : left ≡ got → history_by new ≡ history_by old → left_by new s ≡ left_by old s
      left_same same = left_on (ap (λ (w : WorldOf L). w.history) same) (ap (λ (w : WorldOf L). left_in w s) same)

      -- ---- a task begins

      pub starts_ok : (t : Task) → (v : Work) × Begins got.history.clusters (actor_pin (state_of got) s) t v × (left ≡ with_work got s v)
          → (actor_by old s).work ≡ work.Rest
          → OthersAlone (law.may_start l) (law.may_say l) (shown_through name old s) (shown_through name new s) (Starting t) (actor_by old s).reply
      starts_ok t b rests =
          let is : actor_in left.actors s ≡ record (actor_in got.actors s) { work = b.0; began = length got.history.past } =
          ap (λ (w : WorldOf L). actor_in w.actors s) b.2 ∙ actor_set got.actors s (record (actor_in got.actors s) { work = b.0; began = length got.history.past }) (Got.seated law old got h.got_is s seat) in
          others_alone (Starting t) (actor_by old s).reply (ap (λ (w : WorldOf L). w.history) b.2)
          (ap (λ (a : ActorState). shown_work a.work) is ∙ begins_shown got.history.clusters (actor_pin (state_of got) s) t b.0 b.1)
          (ap (λ (a : ActorState). a.reply) is ∙ sym (ap (λ (a : ActorState). a.reply) actor_got))
          (λ k. let e : Starting t ≡ Idle = k ∙ (ap shown_work (sym (Got.work_got law old got h.got_is s seat) ∙ rests)) in cc)

      pub starts_err : left ≡ got → (actor_by old s).work ≡ work.Rest → OthersAlone (law.may_start l) (law.may_say l) (shown_through name old s) (shown_through name new s) Idle (actor_by old s).reply
      starts_err same rests = subst (λ (w : Shows). OthersAlone (law.may_start l) (law.may_say l) (shown_through name old s) (shown_through name new s) w (actor_by old s).reply) (ap shown_work rests) (stays_so same)

      -- ---- a place is kept

      module _ (bytes : ℕ) (is : left ≡ with_reply got s (Some bytes)) where
        replied : actor_in left.actors s ≡ record (actor_in got.actors s) { reply = Some bytes }
        replied = ap (λ (w : WorldOf L). actor_in w.actors s) is ∙ actor_set got.actors s (record (actor_in got.actors s) { reply = Some bytes }) (Got.seated law old got h.got_is s seat)

        pub reserved_ok : OthersAlone (law.may_start l) (law.may_say l) (shown_through name old s) (shown_through name new s) (shown_work (actor_by old s).work) (Some bytes)
        reserved_ok = others_alone (shown_work (actor_by old s).work) (Some bytes) (ap (λ (w : WorldOf L). w.history) is)
            (ap (λ (a : ActorState). shown_work a.work) replied ∙ sym (ap (λ (a : ActorState). shown_work a.work) actor_got))
            (ap (λ (a : ActorState). a.reply) replied)
            (λ k. ap (λ (a : ActorState). kind_due a.work) replied)

      reserved_history : (bytes : ℕ) (r : Result Unit AllocError) → Reserved got s bytes r left → left.history ≡ got.history
      reserved_history bytes (Ok x) m = ap (λ (w : WorldOf L). w.history) m.ok
      reserved_history bytes (Err x) m = ap (λ (w : WorldOf L). w.history) m.err

      pub reserved_left : (bytes : ℕ) (r : Result Unit AllocError) → Reserved got s bytes r left → history_by new ≡ history_by old → left_by new s ≡ left_by old s
      reserved_left bytes r m = left_on (reserved_history bytes r m) (reserve_left got left s (Got.seated law old got h.got_is s seat) (Some bytes) r m.ok m.err)

      -- ---- a reply is said

      pub answers : (i : ℕ) (text : Text) → left ≡ said_in got s i text → IsAtRest (actor_by old s).work → Answers (law.may_start l) (law.may_say l) (shown_through name old s) (shown_through name new s) i text
      answers i text is rests =
          let quiet : ActorState = record (actor_in got.actors s) { work = work.Rest; reply = None } in
          let seat_is : actor_in left.actors s ≡ quiet = ap (λ (w : WorldOf L). actor_in w.actors s) is ∙ actor_set got.actors s quiet (Got.seated law old got h.got_is s seat) in
          let first : told_first (work_in got.actors s) ≡ end_told (shown_work (actor_by old s).work) =
          sym (ap told_first (ap (λ (a : ActorState). a.work) actor_got)) ∙ sym (told_shown (actor_by old s).work rests) in
          record {
            others = more;
            grows = grows (event.Said s i text ∷ end_told (shown_work (actor_by old s).work))
                (ap (λ (w : WorldOf L). live w.history) is ∙ ap (λ (es : Past). after (event.Said s i text ∷ es) (live got.history)) first);
            session = refl;
            work = ap (λ (a : ActorState). shown_work a.work) (actor_new ∙ seat_is);
            room = ap (λ (a : ActorState). a.reply) (actor_new ∙ seat_is);
            beside = refl;
            alone = tt;
          }

      -- ---- a step

      module _ (o : StepOut) (m : Stepped law got s o left) where
        abbrev told_step : Steps (law.may_start got.law) (law.may_say got.law) (shown_at name got s) (shown_at name left s) o
        told_step = m.told name

        -- the history before the step, as the world and as the pass tells it
        before : after told_step.others (live got.history) ≡ after more (history_by old)
        before = ap (λ (xs : Past). after xs (live got.history)) told_step.alone ∙ Got.history_got law old got h.got_is

        was : shown_work (work_in got.actors s) ≡ shown_work (actor_by old s).work
        was = sym (ap (λ (a : ActorState). shown_work a.work) actor_got)

        now : shown_work (work_in left.actors s) ≡ shown_work (actor_by new s).work
        now = sym (ap (λ (a : ActorState). shown_work a.work) actor_new)

        makes : Makes (after more (history_by old)) s (shown_work (actor_by old s).work) o told_step.own (shown_work (actor_by new s).work)
        makes = subst (λ (x : History). Makes x s (shown_work (actor_by old s).work) o told_step.own (shown_work (actor_by new s).work)) before
            (subst (λ (w : Shows). Makes (after told_step.others (live got.history)) s w o told_step.own (shown_work (actor_by new s).work)) was
            (subst (λ (w : Shows). Makes (after told_step.others (live got.history)) s (shown_work (work_in got.actors s)) o told_step.own w) now told_step.makes))

        pub steps : Steps (law.may_start l) (law.may_say l) (shown_through name old s) (shown_through name new s) o
        steps = record {
          others = more;
          own = told_step.own;
          grows = grows told_step.own (step_grows law s got left o m name);
          makes = makes;
          of_step = subst (λ (x : History). AreOfStep x s (shown_work (actor_by old s).work) o told_step.own) before
              (subst (λ (w : Shows). AreOfStep (after told_step.others (live got.history)) s w o told_step.own) was told_step.of_step);
          as_due = subst (λ (k : Option StepKind). is_by_due k told_step.own ≡ true) (sym (ap (λ (a : ActorState). kind_due a.work) actor_got)) told_step.as_due;
          reads_due = λ r is. subst (λ (k : Option StepKind). ReadsAsDue (is_due kind.Read k) o told_step.own) (sym (ap (λ (a : ActorState). kind_due a.work) actor_got)) (told_step.reads_due r (was ∙ is));
          splits_due = λ p is. subst (λ (k : Option StepKind). SplitsAsDue (is_due kind.Read k) o told_step.own) (sym (ap (λ (a : ActorState). kind_due a.work) actor_got)) (told_step.splits_due p (was ∙ is));
          session = refl;
          room = ap (λ (a : ActorState). a.reply) actor_new ∙ (told_step.room ∙ sym (ap (λ (a : ActorState). a.reply) actor_got));
          beside = refl;
          alone = tt;
        }

        none_by : ActedAlone (shown_through name old s) (shown_through name new s) o → more ≡ []
        unfolding steps
        none_by a =
            let grown : a.own ++ reverse old.seen ≡ told_step.own ++ (more ++ reverse old.seen) = ap (λ (x : History). x.past) (sym a.grown ∙ steps.grows.grown) in
            let same : told_step.own ++ more ≡ a.own = cancel (told_step.own ++ more) a.own (reverse old.seen) (append_assoc told_step.own more (reverse old.seen) ∙ sym grown) in
            none_between s (reverse old.seen) _ a.own told_step.own more others
            (shaped (history_by old) s (shown_work (actor_by old s).work) o a.own (shown_work (actor_by new s).work) a.makes)
            (shaped (after more (history_by old)) s (shown_work (actor_by old s).work) o told_step.own (shown_work (actor_by new s).work) makes)
            same

        pub lowers : ActedAlone (shown_through name old s) (shown_through name new s) o → IsWait o ⊎ (left_by new s < left_by old s)
        lowers a = elim m.lowers [
          | inl k ↦ inl k
          | inr k ↦ let was = Got.left_old law old got h.got_is s seat (none_by a) in let now = left_new in inr (omega (arith, k, was, now))
        ]
