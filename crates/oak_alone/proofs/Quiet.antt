-- What tidies in a world in which nobody else adds an event steps as it does alone.
use mathlib.Core.Bool.{false≢true}
use Rattle.std.proofs.Common.{◌≡◌, ◌≢◌, inl, inr, ℕ, ◌<◌, Bool, true, false, List, [], ◌∷◌, ◌++◌, length, Option, Some, None, refl, sym, ap, ◌∙◌, subst, arith, append_assoc}
use Rattle.std.specs.Prelude.{◌==◌, slice_get, slice_set}
use Rattle.std.specs.List.{AllByRecursion}
use Rattle.std.specs.Option.{unwrap_or}
use Rattle.std.proofs.lemmas.Bool.Decides.{nat_tests}
use Rattle.std.proofs.lemmas.List.Elements.{recursion_from_All}
use Rattle.std.proofs.lemmas.Option.{slice_get_within}
use Rattle.oak_doc.specs.declared.asks.Ask.TheVariants as ask
use Rattle.oak_machine.specs.declared.event.Event.{Event}
use Rattle.oak_machine.specs.History.{Past}
use Rattle.oak_node.specs.Memory.{NodeState}
use Rattle.oak_port.specs.declared.task.StepOut.{StepOut}
use Rattle.oak_port.specs.declared.task.StepOut.TheVariants as answers
use Rattle.oak_port.specs.declared.task.TaskEnd.{TaskEnd}
use Rattle.oak_step.specs.declared.work.Work.{Work}
use Rattle.oak_step.specs.declared.work.Work.TheVariants as work
use Rattle.oak_store.specs.Tables.{Table}
use Rattle.core_world.proofs.Flights.{number_itself, same_number}
use Rattle.core_world.specs.States.{State}
use Rattle.oak_tidy.specs.declared.tidying.Tidied.{Tidied}
use Rattle.oak_tidy.specs.declared.tidying.Tidying.{Tidying}
use Rattle.oak_tidy.specs.Replies.{table_after}
use Rattle.oak_tidy.specs.Tidyings.{GoesOrEnds, TidiesTo, kind_tidied, tidy_events, tidying_ask}
use Rattle.oak_world.proofs.States.{actor_other, actor_set}
use Rattle.oak_world.specs.Steps.{MakesState, MakesTidying, Plays, StepsIn, Turns, work_left}
use Rattle.oak_world.specs.Worlds.{ActorState, WorldOf, idle, state_of, work_in}
use Rattle.oak_alone.specs.Quiet.{GoesQuietly, OwnTurnsAreQuiet, Quietly}
use Rattle.oak_alone.proofs.Steps.{IsKeptAlone, events_with, next_of}
use Rattle.oak_alone.proofs.Still.{makes_still}

other_way : (q s : ℕ) → (q == s) ≡ false → (s == q) ≡ false
other_way q s h = grind (arith, nat_tests)

module _ (s : ℕ) (ms : List NodeState) (Is : Tidying → Table → Past → Type 0) (Ended : Event → Table → Past → Type 0) (keeps : IsKeptAlone s ms Is Ended) (before : Past) where
  -- what is said of the session's work: it tidies, or what it tidied has ended, or memory was refused
  abbrev pub Does : Work → Table → Past → Type 0
  Does (work.Tidy x) t es = Is x t es
  Does (work.Told e) t es = Ended e t es
  Does work.Rest t es = Unit {0}
  Does _ t es = ⊥

  -- the memories are these, and of the documents and the events since so much is said
  pub record Stands {L : Type 0} (w : WorldOf L) (v : Work) : Type 0 where
    pub memories : w.memories ≡ ms
    pub events : Past
    pub added : w.history.past ≡ events ++ before
    pub does : Does v w.table events

  module _ {L : Type 0} (w u : WorldOf L) (stands : Stands w (work_in w.actors s)) where
    -- ---- the session's own step

    module _ (o : StepOut) (steps : StepsIn w s u o) where
      there : s < length w.actors
      there = by (slice_get w.actors s) refl steps.makes
        where
          by : (a : Option ActorState) → slice_get w.actors s ≡ a → MakesState s (state_of w) (unwrap_or a idle).work (state_of u) steps.does o → s < length w.actors
          by None is m = absurd m
          by (Some a) is m = slice_get_within w.actors s a is

      does_then : work_in u.actors s ≡ steps.does
      does_then = ap (λ (all : List ActorState). work_in all s) steps.actors ∙ ap (λ (a : ActorState). a.work) (actor_set w.actors s _ there)

      -- what is asked is done, with its events
      module _ (x : Tidying) (is : Is x w.table stands.events) (documents : u.table ≡ table_after w.table (tidying_ask x)) (memories : u.memories ≡ w.memories)
          (past : u.history.past ≡ tidy_events s x (next_of w.memories w.table x) ++ w.history.past) where
        abbrev events : Past
        events = events_with s w.memories w.table x stands.events

        added : u.history.past ≡ events ++ before
        added = past ∙ (ap (λ (es : Past). tidy_events s x (next_of w.memories w.table x) ++ es) stands.added ∙ sym (append_assoc (tidy_events s x (next_of w.memories w.table x)) stands.events before))

        goes : tidying_ask (next_of w.memories w.table x) ≢ ask.Done → Is (next_of w.memories w.table x) u.table events
        goes busy =
            let at : (m : List NodeState) → m ≡ ms → tidying_ask (next_of m w.table x) ≢ ask.Done → Is (next_of m w.table x) (table_after w.table (tidying_ask x)) (events_with s m w.table x stands.events) =
            λ m same. subst (λ (m : List NodeState). tidying_ask (next_of m w.table x) ≢ ask.Done → Is (next_of m w.table x) (table_after w.table (tidying_ask x)) (events_with s m w.table x stands.events)) (sym same) (keeps.goes x w.table stands.events is) in
            subst (λ (t : Table). Is (next_of w.memories w.table x) t events) (sym documents) (at w.memories stands.memories busy)

        ends : (e : TaskEnd) (told : Event) → TidiesTo s (next_of w.memories w.table x) e told → Ended told u.table events
        ends e told to =
            let at : (m : List NodeState) → m ≡ ms → TidiesTo s (next_of m w.table x) e told → Ended told (table_after w.table (tidying_ask x)) (events_with s m w.table x stands.events) =
            λ m same. subst (λ (m : List NodeState). TidiesTo s (next_of m w.table x) e told → Ended told (table_after w.table (tidying_ask x)) (events_with s m w.table x stands.events)) (sym same) (keeps.ends x w.table stands.events is e told) in
            subst (λ (t : Table). Ended told t events) (sym documents) (at w.memories stands.memories to)

        comes : (left : Tidied) (o : StepOut) → steps.does ≡ work_left left → GoesOrEnds s (kind_tidied x) (next_of w.memories w.table x) left o → Stands u steps.does
        comes left (answers.Went z) does g = record {
          memories = memories ∙ stands.memories;
          events = events;
          added = added;
          does = subst (λ (v : Work). Does v u.table events) (sym (does ∙ ap work_left g.1)) (goes g.2);
        }
        comes left (answers.Ready e) does g = record {
          memories = memories ∙ stands.memories;
          events = events;
          added = added;
          does = subst (λ (v : Work). Does v u.table events) (sym (does ∙ ap work_left g.2)) (ends e g.0 g.1);
        }
        comes left _ does g = absurd g

      tidies : (x : Tidying) → Is x w.table stands.events → (o : StepOut) → MakesTidying s (state_of w) x (state_of u) steps.does o → Stands u steps.does
      tidies x is answers.Memory m = record {
        memories = ap (λ (t : State). t.memories) m.0 ∙ stands.memories;
        events = stands.events;
        added = ap (λ (t : State). t.past) m.0 ∙ stands.added;
        does = subst (λ (v : Work). Does v u.table stands.events) (sym m.1) tt;
      }
      tidies x is (answers.Went z) m = comes x is (ap (λ (t : State). t.table) m.0) (ap (λ (t : State). t.memories) m.0) (ap (λ (t : State). t.past) m.0) m.1 (answers.Went z) m.2 m.3
      tidies x is (answers.Ready e) m = comes x is (ap (λ (t : State). t.table) m.0) (ap (λ (t : State). t.memories) m.0) (ap (λ (t : State). t.past) m.0) m.1 (answers.Ready e) m.2 m.3
      tidies x is _ m = absurd m.3

      by_work : (v : Work) → Does v w.table stands.events → MakesState s (state_of w) v (state_of u) steps.does o → Stands u steps.does
      by_work (work.Tidy x) is m = tidies x is o m
      by_work (work.Told e) is m = absurd m
      by_work work.Rest is m = absurd m
      by_work _ is m = absurd is

      own_step : Stands u (work_in u.actors s)
      own_step = subst (Stands u) (sym does_then) (by_work (work_in w.actors s) stands.does steps.makes)

    -- ---- the others

    -- documents, memories and events stay, and so does what the session does
    stays : u.table ≡ w.table → u.memories ≡ w.memories → u.history.past ≡ w.history.past → work_in u.actors s ≡ work_in w.actors s → Stands u (work_in u.actors s)
    stays documents memories past same = subst (Stands u) (sym same) (record {
      memories = memories ∙ stands.memories;
      events = stands.events;
      added = past ∙ stands.added;
      does = subst (λ (t : Table). Does (work_in w.actors s) t stands.events) (sym documents) stands.does;
    })

    others : (q : ℕ) → (q == s) ≡ false → (a : ActorState) → u.actors ≡ slice_set w.actors q a → work_in u.actors s ≡ work_in w.actors s
    others q apart a is = ap (λ (all : List ActorState). work_in all s) is ∙ ap (λ (a : ActorState). a.work) (actor_other w.actors q a s (other_way q s apart))

    other_step : (q : ℕ) → (q == s) ≡ false → (o : StepOut) → StepsIn w q u o → u.history.past ≡ w.history.past → Stands u (work_in u.actors s)
    other_step q apart o steps quiet =
        let same = makes_still q (state_of w) (state_of u) quiet (work_in w.actors q) steps.does o steps.makes in
        stays same.0 same.1 quiet (others q apart _ steps.actors)

    one_call : (q : ℕ) → GoesQuietly s q w u → Stands u (work_in u.actors s)
    one_call q (inl h) = by (q == s) refl
      where
        by : (b : Bool) → (q == s) ≡ b → Stands u (work_in u.actors s)
        by true same = own_step h.0 (subst (λ (n : ℕ). StepsIn w n u h.0) (same_number q s same) h.1)
        by false apart = other_step q apart h.0 h.1 (h.2 apart)
    one_call q (inr h) =
        stays (ap (λ (x : WorldOf L). x.table) h.2) (ap (λ (x : WorldOf L). x.memories) h.2) (ap (λ (x : WorldOf L). x.history.past) h.2)
        (others q h.0 h.1 (ap (λ (x : WorldOf L). x.actors) h.2))

  all_calls : {L : Type 0} (qs : List ℕ) (w u : WorldOf L) → Stands w (work_in w.actors s) → Quietly s w qs u → Stands u (work_in u.actors s)
  all_calls [] w u stands is = subst (λ (x : WorldOf _). Stands x (work_in x.actors s)) (sym is) stands
  all_calls (q ∷ qs) w u stands h = all_calls qs h.0 u (one_call w h.0 stands q h.1) h.2

  -- what is told has ended so
  pub quietly_ends : {L : Type 0} (w u : WorldOf L) (x : Tidying) (qs : List ℕ) (told : Event) → w.memories ≡ ms → w.history.past ≡ before → work_in w.actors s ≡ work.Tidy x → Is x w.table []
      → Quietly s w qs u → work_in u.actors s ≡ work.Told told → Stands u (work.Told told)
  quietly_ends w u x qs told memories past begins is calls ends =
      subst (Stands u) ends
      (all_calls qs w u (record { memories = memories; events = []; added = past; does = subst (λ (v : Work). Does v w.table []) (sym begins) is }) calls)

-- ---- a session alone

own_turns : {L : Type 0} (s : ℕ) (schedule : List ℕ) → AllByRecursion (λ q. q ≡ s) schedule → (old new : WorldOf L) → Plays old schedule new → (qs : List ℕ) × Quietly s old qs new
own_turns s [] all old new is = ([], is)
own_turns s (q ∷ rest) all old new h = by h.1 (own_turns s rest all.1 h.0 new h.2)
  where
    own : (q == s) ≡ false → h.0.history.past ≡ old.history.past
    own apart = absurd (false≢true (sym apart ∙ (ap (λ (n : ℕ). n == s) all.0 ∙ number_itself s)))

    by : Turns old q h.0 → (qs : List ℕ) × Quietly s h.0 qs new → (qs : List ℕ) × Quietly s old qs new
    by (inl t) r = let calls : Quietly s old (q ∷ r.0) new = (h.0, inl (t.0, t.1, own), r.1) in (q ∷ r.0, calls)
    by (inr t) r = subst (λ (w : WorldOf _). (qs : List ℕ) × Quietly s w qs new) t.0 r

pub own_turns_are_quiet : (L : Type 0) → OwnTurnsAreQuiet L
own_turns_are_quiet L s old new schedule all h = own_turns s schedule (recursion_from_All _ schedule all) old new h
