-- By each call of a world only its session acts.
use Rattle.std.proofs.Common.{◌≡◌, ◌≢◌, ℕ, Bool, true, false, cond, Option, Some, None, Result, Ok, Err, List, [], ◌∷◌, ◌++◌, length, refl, sym, ap, subst, ◌∙◌}
use Rattle.std.specs.Prelude.{◌==◌, reverse, slice_get, slice_set}
use Rattle.std.specs.Borrow.{GName}
use Rattle.std.specs.declared.alloc.AllocError.{AllocError}
use Rattle.std.proofs.lemmas.List.{reverse-reverse}
use Rattle.jr_path.specs.Lists.{Text}
use Rattle.oak_machine.specs.declared.event.Event.{Event}
use Rattle.oak_machine.specs.declared.event.Event.TheVariants as event
use Rattle.oak_machine.specs.declared.law.Law.{Ghosts}
use Rattle.oak_machine.specs.History.{History, Past}
use Rattle.core_world.proofs.Flights.{same_number}
use Rattle.oak_port.specs.declared.task.StepOut.{StepOut}
use Rattle.oak_port.specs.declared.task.Task.{Task}
use Rattle.oak_port.specs.Ports.{Steps}
use Rattle.oak_world.specs.Seen.{shown_at, shown_work}
use Rattle.oak_step.specs.declared.work.Work.TheVariants as work
use Rattle.oak_world.specs.Ends.{MayTell}
use Rattle.oak_world.specs.Worlds.{ActorState, WorldOf, actor_in, live, reply_events, said_in, state_of, told_first, work_in}
use Rattle.jr_shared.specs.Meanings.{frame_of, journal_of, own_events, owned_of, steady_of}
use Rattle.jr_shared.specs.Holds.{Begun, OneActed, Reserved, Stepped}
use Rattle.jr_shared.proofs.Lists.{begins_by, begins_itself, set_other}
use Rattle.jr_shared.proofs.Shapes.{shaped, step_apart}
use Rattle.jr_shared.proofs.Calm.{calm}
use Rattle.jr_shared.proofs.Ends.{told_apart}

pub apart_by : (q s : ℕ) → q ≢ s → (q == s) ≡ false
apart_by q s apart = by (q == s) refl
  where
    by : (b : Bool) → (q == s) ≡ b → b ≡ false
    by true is = absurd (apart (same_number q s is))
    by false is = refl

module _ {L : Type 0} where
  pub unmoved : (s : ℕ) (w : WorldOf L) → OneActed s w w
  unmoved s w = record { longer = begins_itself (journal_of w); frame_is = refl; others = λ q apart. refl; steady_is = λ same. refl }

  pub same_acts : (s : ℕ) (w u : WorldOf L) → u ≡ w → OneActed s w u
  same_acts s w u is = subst (λ (x : WorldOf L). OneActed s w x) (sym is) (unmoved s w)

  -- what another session owns, where the seat of session s is set
  owned_set : (s : ℕ) (w : WorldOf L) (a : ActorState) (q : ℕ) → q ≢ s → owned_of (record w { actors = slice_set w.actors s a }) q ≡ owned_of w q
  owned_set s w a q apart = ap (λ (o : Option ActorState). record { seat = o; events = own_events w.history.past q }) (set_other w.actors s q a apart)

  seat_acts : (s : ℕ) (w : WorldOf L) (a : ActorState) → OneActed s w (record w { actors = slice_set w.actors s a })
  seat_acts s w a = record { longer = begins_itself (journal_of w); frame_is = refl; others = owned_set s w a; steady_is = λ same. refl }

  start_by : (s : ℕ) (w u : WorldOf L) (t : Task) (r : Result Unit AllocError) → Begun w s t r u → OneActed s w u
  start_by s w u t (Ok x) h = let b = h.ok in subst (λ (y : WorldOf L). OneActed s w y) (sym b.2) (seat_acts s w (record (actor_in w.actors s) { work = b.0; began = length w.history.past }))
  start_by s w u t (Err x) h = same_acts s w u h.err

  pub start_acts : (s : ℕ) (w u : WorldOf L) (t : Task) (r : Result Unit AllocError) → Begun w s t r u → OneActed s w u
  start_acts = start_by

  pub reserve_acts : (s bytes : ℕ) (w u : WorldOf L) (r : Result Unit AllocError) → Reserved w s bytes r u → OneActed s w u
  reserve_acts s bytes w u (Ok x) h = subst (λ (y : WorldOf L). OneActed s w y) (sym h.ok) (seat_acts s w (record (actor_in w.actors s) { reply = Some bytes }))
  reserve_acts s bytes w u (Err x) h = same_acts s w u h.err

  -- a reply, and what is told before it, are none of another session's
  module _ (s i : ℕ) (text : Text) (w : WorldOf L) (told : (q : ℕ) (e : Event) → work_in w.actors q ≡ work.Told e → MayTell (live w.history) q e) where
    abbrev first : Past
    first = told_first (work_in w.actors s)

    abbrev quiet : ActorState
    quiet = record (actor_in w.actors s) { work = work.Rest; reply = None }

    said : OneActed s w (said_in w s i text)
    said = record {
      longer = begins_by (reply_events s i text (work_in w.actors s)) w.history.past (reply_events s i text (work_in w.actors s) ++ w.history.past) refl;
      frame_is = refl;
      others = λ q apart. by q apart (s == q) refl;
      steady_is = λ same. refl;
    }
      where
        by : (q : ℕ) → q ≢ s → (b : Bool) → (s == q) ≡ b → owned_of (said_in w s i text) q ≡ owned_of w q
        by q apart true is = absurd (apart (sym (same_number s q is)))
        by q apart false is =
            ap (λ (c : Bool). record { seat = slice_get (slice_set w.actors s quiet) q; events = cond c (event.Said s i text ∷ own_events (first ++ w.history.past) q) (own_events (first ++ w.history.past) q) }) is
            ∙ (ap (λ (xs : Past). record { seat = slice_get (slice_set w.actors s quiet) q; events = xs })
            (told_apart w.history.past s q (work_in w.actors s) (λ e at. (told s e at).own) (apart_by q s apart))
            ∙ owned_set s w quiet q apart)

    pub say_acts : (u : WorldOf L) → u ≡ said_in w s i text → OneActed s w u
    say_acts u is = subst (λ (y : WorldOf L). OneActed s w y) (sym is) said

  module _ (law : Ghosts L) (s : ℕ) (w u : WorldOf L) (o : StepOut) (h : Stepped law w s o u) (name : GName) where
    abbrev told : Steps (law.may_start w.law) (law.may_say w.law) (shown_at name w s) (shown_at name u s) o
    told = h.told name

    alone : told.others ≡ []
    alone = told.alone

    -- what the step adds
    pub step_grows : live u.history ≡ record (live w.history) { past = told.own ++ w.history.past }
    step_grows = told.grows.grown ∙ ap (λ (xs : Past). record (live w.history) { past = told.own ++ (xs ++ w.history.past) }) alone

    pub past_grows : u.history.past ≡ told.own ++ w.history.past
    past_grows = ap (λ (x : History). x.past) step_grows

    frame_stays : frame_of u ≡ frame_of w
    frame_stays = ap (λ (x : L). record { law = x; clusters = u.history.clusters; sessions = u.history.sessions }) h.made.law
        ∙ ap (λ (x : History). record { law = w.law; clusters = x.clusters; sessions = x.sessions }) step_grows

    others_stay : (q : ℕ) → q ≢ s → owned_of u q ≡ owned_of w q
    others_stay q apart =
        let before : History = record (live w.history) { past = told.others ++ w.history.past } in
        let is : before ≡ live w.history = ap (λ (xs : Past). record (live w.history) { past = xs ++ w.history.past }) alone in
        let events : own_events (told.own ++ w.history.past) q ≡ own_events w.history.past q =
        subst (λ (x : History). own_events (told.own ++ x.past) q ≡ own_events x.past q) is
        (step_apart before s q (apart_by q s apart) (shown_work (work_in w.actors s)) o told.own _ (shaped before s (shown_work (work_in w.actors s)) o told.own (shown_work (work_in u.actors s)) told.makes) told.of_step) in
        ap (λ (xs : List ActorState). record { seat = slice_get xs q; events = own_events u.history.past q }) h.made.actors
        ∙ (ap (λ (y : Option ActorState). record { seat = y; events = own_events u.history.past q }) (set_other w.actors s q _ apart)
        ∙ (ap (λ (xs : Past). record { seat = slice_get w.actors q; events = own_events xs q }) past_grows
        ∙ ap (λ (xs : Past). record { seat = slice_get w.actors q; events = xs }) events))

    steady_stays : journal_of u ≡ journal_of w → steady_of u ≡ steady_of w
    steady_stays same =
        let past : u.history.past ≡ w.history.past = sym (reverse-reverse u.history.past) ∙ (ap reverse same ∙ reverse-reverse w.history.past) in
        let kept = calm s (state_of w) (state_of u) past (work_in w.actors s) h.made.does o h.made.makes in
        ap (λ (x : L). record { law = x; history = record u.history { past = [] }; table = u.table; memories = u.memories; actors = [] }) h.made.law
        ∙ (ap (λ (x : History). record { law = w.law; history = record { clusters = x.clusters; sessions = x.sessions; past = [] }; table = u.table; memories = u.memories; actors = [] }) step_grows
        ∙ (ap (λ x. record { law = w.law; history = record w.history { past = [] }; table = x; memories = u.memories; actors = [] }) kept.0
        ∙ ap (λ x. record { law = w.law; history = record w.history { past = [] }; table = w.table; memories = x; actors = [] }) kept.1))

    pub step_acts : OneActed s w u
    step_acts = record {
      longer = begins_by told.own w.history.past u.history.past past_grows;
      frame_is = frame_stays;
      others = others_stay;
      steady_is = steady_stays;
    }
