-- What a turn of a session makes of the stage.
use Rattle.std.proofs.Common.{◌≡◌, ◌⊎◌, inl, inr, ℕ, zero, suc, length, map, Bool, true, false, cond, not, ◌||◌, ◌&&◌, Some, None, Option, List, [], ◌∷◌, ◌++◌, refl, sym, ap, ◌∙◌, subst, arith}
use Rattle.std.specs.Prelude.{◌==◌, reverse, slice_get, slice_set}
use Rattle.std.specs.Borrow.{GName}
use Rattle.std.specs.Option.{option_map, option_map_or, unwrap_or}
use Rattle.std.specs.List.{list_any}
use Rattle.std.proofs.lemmas.Bool.Decides.{nat_tests}
use Rattle.std.proofs.lemmas.Option.{slice_get-map}
use mathlib.Core.Bool.{false≢true}
use Rattle.jr_rev.specs.declared.revision.Revision.{Revision}
use Rattle.jr_rev.specs.declared.vector.RevVec.{RevVec}
use Rattle.jr_rev.specs.Vectors.{sees}
use Rattle.oak_machine.specs.declared.event.Event.{Event}
use Rattle.oak_machine.specs.declared.event.Event.TheVariants as event
use Rattle.oak_machine.specs.declared.event.StepKind.{StepKind}
use Rattle.oak_machine.specs.declared.event.StepKind.TheVariants as kind
use Rattle.oak_machine.specs.History.{History, Past}
use Rattle.oak_machine.specs.Commits.{is_committed, is_ended}
use Rattle.oak_machine.specs.Heads.{head_of}
use Rattle.oak_machine.specs.Laws.{after, is_event_of, is_revision_of}
use Rattle.oak_machine.specs.Runs.{AreNodes, IsRun, IsRunOf, is_task_end}
use Rattle.oak_machine.specs.Sessions.{has_left, is_drawing, is_end_of_session, is_reply_of, is_stopped, next_index}
use Rattle.oak_machine.specs.Steps.{is_appended_by, is_kind, moves_head, is_on, is_one_step, step_number, kinds_for, leaves_went}
use Rattle.oak_machine.proofs.Stays.{any_later}
use Rattle.core_heads.proofs.Passing.{next_stays}
use Rattle.oak_port.specs.Ports.{Awaiting, Beside, Collecting, Deciding, Idle, Seat as PortSeat, Shown, Starting, Undoing, Work, Writing, is_by_due, Publishing, Learning, Passing, Sweeping, Telling, Detaching}
use Rattle.oak_world.specs.Seen.{no_seat, seat_of, shown_at, shown_work}
use Rattle.oak_world.specs.Worlds.{ActorState, WorldOf, actor_in, idle, live, work_in}
use Rattle.jcr_law.specs.declared.law.JcrLaw.{JcrLaw}
use Rattle.jcr_run.specs.declared.run.SessionRun.{SessionRun}
use Rattle.jcr_run.specs.declared.turn.Turn.{Turn}
use Rattle.jcr_law.specs.Lasting.{says_of, starts_of}
use Rattle.jcr_run.specs.Standing.{AreEnds, HasAwaited, IsBeside, IsMade, IsOneStep, IsSeenFor, IsStep, IsTurned, Stands, Tells, is_step_event}
use Rattle.jcr_run.proofs.Staying.{stands_beside}
use Rattle.jr_script.specs.declared.script.Script.{Script}
use Rattle.jcr_trans.specs.declared.command.SessionScript.{SessionScript}
use Rattle.jr_stage.specs.declared.stage.Seat.{Seat}
use Rattle.jr_stage.specs.Awaited.{IsSeenBut}
use Rattle.jr_stage.specs.declared.flight.Flight.{Flight}
use Rattle.jr_stage.specs.Flights.{IsFlight, flight_with}
use Rattle.jr_stage.specs.Places.{commands_of, history_at, is_commit, is_over, is_own, is_resting, is_unseen, is_waiting, is_write_or_mark, tells_of_none}
use Rattle.jr_stage.specs.SoFar.{AreMadeBy, IsDouble, IsMadeBy, IsStepAt, is_last_due}
use Rattle.jr_stage.specs.Stages.{IsSeated, awaited, due_at, flight_behind, law_of}
use Rattle.jr_stage.proofs.Flying.{flight_head, flight_other, flight_own, halves, none_is_some, some_is_some}
use Rattle.jr_stage.proofs.Renaming.{stands_renamed}
use Rattle.jr_stage.proofs.Seen.{cluster_of, moving_sees, node_of, not_waiting, was_unseen}
use Rattle.jr_stage.proofs.Saving.{said_idle}
use Rattle.jr_stage.proofs.SoFar.{not_of_another, one_session, told_own, unnamed_own}

-- ---- seats

pub down : (i j : ℕ) → (suc j == suc i) ≡ false → (j == i) ≡ false
down i j h = grind (arith, nat_tests)

pub itself : (n : ℕ) → (n == n) ≡ true
itself n = grind (arith, nat_tests)

pub set_other : {X : Type 0} (xs : List X) (i j : ℕ) (x : X) → (j == i) ≡ false → slice_get (slice_set xs i x) j ≡ slice_get xs j
set_other [] i j x h = refl
set_other (e ∷ xs) zero zero x h = absurd (false≢true (sym h ∙ itself 0))
set_other (e ∷ xs) zero (suc j) x h = refl
set_other (e ∷ xs) (suc i) zero x h = refl
set_other (e ∷ xs) (suc i) (suc j) x h = set_other xs i j x (down i j h)

seat_in : (actors : List ActorState) (t : ℕ) → seat_of (actor_in actors t) ≡ unwrap_or (slice_get (map seat_of actors) t) (seat_of idle)
seat_in actors t = by (slice_get actors t) refl
  where
    by : (o : Option ActorState) → slice_get actors t ≡ o → seat_of (actor_in actors t) ≡ unwrap_or (slice_get (map seat_of actors) t) (seat_of idle)
    by None is = ap (λ (o : Option ActorState). seat_of (unwrap_or o idle)) is ∙ sym (ap (λ o. unwrap_or o (seat_of idle)) (slice_get-map seat_of actors t ∙ ap (option_map seat_of) is))
    by (Some a) is = ap (λ (o : Option ActorState). seat_of (unwrap_or o idle)) is ∙ sym (ap (λ o. unwrap_or o (seat_of idle)) (slice_get-map seat_of actors t ∙ ap (option_map seat_of) is))

pub other_seats : (old new : List ActorState) (s t : ℕ) → slice_set (map seat_of new) s no_seat ≡ slice_set (map seat_of old) s no_seat → (t == s) ≡ false → seat_of (actor_in new t) ≡ seat_of (actor_in old t)
other_seats old new s t same other =
    seat_in new t
    ∙ (ap (λ o. unwrap_or o (seat_of idle)) (sym (set_other (map seat_of new) s t no_seat other) ∙ (ap (λ l. slice_get l t) same ∙ set_other (map seat_of old) s t no_seat other))
    ∙ sym (seat_in old t))

-- ---- the events of a step

pub appended_one : (h : History) (s : ℕ) (k : StepKind) (e : Event) (l : List Event) → is_appended_by h s k (e ∷ l) ≡ list_any (is_kind k) (kinds_for h s (e ∷ l))
appended_one h s kind.Read e l = refl
appended_one h s k e l = refl

where_true : (k : StepKind) (b : Bool) (ks : List StepKind) → list_any (is_kind k) (cond b ks []) ≡ true → b ≡ true
where_true k true ks h = refl
where_true k false ks h = absurd (false≢true h)

some_kind : (k : StepKind) (ks : List StepKind) → list_any (is_kind k) ks ≡ true → list_any (λ j. true) ks ≡ true
some_kind k [] h = h
some_kind k (j ∷ ks) h = refl

or_first : (a b : Bool) → a ≡ true → (a || b) ≡ true
or_first true b h = refl
or_first false b h = absurd (false≢true h)

-- it is of the step's session; or it tells of no session, and nothing of that one is in flight
made_of : (script : Script) (past : Past) (s : ℕ) (k : StepKind) (e : Event) → list_any (is_kind k) (kinds_for (history_at script past) s (e ∷ [])) ≡ true → is_step_event e ≡ true
    → (tells_of_none e ≡ true → is_drawing past s ≡ false) → IsMadeBy script past s e
made_of script past s k (event.Login t v) a step idle = inl (where_true k (t == s) _ a)
made_of script past s k (event.Refresh t v) a step idle = inl (where_true k (t == s) _ a)
made_of script past s k (event.Draw d) a step idle = inl (where_true k (d.session == s) _ a)
made_of script past s k (event.Commit r) a step idle = inl (where_true k (is_revision_of past s r) _ a)
made_of script past s k (event.Refuse r item o) a step idle = inl (where_true k (is_revision_of past s r) _ a)
made_of script past s k (event.End r) a step idle = inl (halves (is_revision_of past s r) _ (where_true k (is_revision_of past s r && not (moves_head (history_at script past) r)) _ a)).0
made_of script past s k (event.Went t j) a step idle = inl (halves (t == s) _ (where_true k (t == s && leaves_went j) _ a)).0
made_of script past s k (event.Attach t id) a step idle = inl (where_true k (t == s) _ a)
made_of script past s k (event.Detach t) a step idle = inl (where_true k (t == s) _ a)
made_of script past s k (event.Out c r) a step idle =
    inr (record { none = refl; made = or_first (is_on (history_at script past) s c) (is_stopped past c) (where_true k (is_on (history_at script past) s c) _ a); idle = idle refl })
made_of script past s k (event.In c v) a step idle = inr (record { none = refl; made = where_true k (is_on (history_at script past) s c) _ a; idle = idle refl })
made_of script past s k (event.Sweep c r) a step idle =
    inr (record { none = refl; made = or_first (is_on (history_at script past) s c) (is_stopped past c) (where_true k (is_on (history_at script past) s c) _ a); idle = idle refl })
made_of script past s k (event.Bound m t) a step idle = inr (record { none = refl; made = refl; idle = idle refl })
made_of script past s k (event.Checkpoint id v) a step idle = inr (record { none = refl; made = refl; idle = idle refl })
made_of script past s k (event.Release id) a step idle = inr (record { none = refl; made = refl; idle = idle refl })
made_of script past s k e a step idle = absurd (false≢true step)

-- what tells of no session changes nothing of what is kept of a commit
flight_none : (e : Event) (o : Option Flight) → tells_of_none e ≡ true → flight_with e o ≡ o
flight_none (event.Out k r) o none = refl
flight_none (event.In k v) o none = refl
flight_none (event.Sweep k r) o none = refl
flight_none (event.Bound m t) o none = refl
flight_none (event.Checkpoint id v) o none = refl
flight_none (event.Release id) o none = refl
flight_none e o none = absurd (false≢true none)

one_event : (a b : Event) (l : Past) → l ≡ a ∷ [] → l ≡ b ∷ [] → a ≡ b
one_event a b l one other = some_is_some a b (ap (λ (p : Past). slice_get p 0) (sym one ∙ other))

no_reply : (s : ℕ) (e : Event) → is_step_event e ≡ true → is_reply_of s e ≡ false
no_reply s (event.Said t i text) step = absurd (false≢true step)
no_reply s e step = refl

-- what is done as it is due
apart_kinds : {A : Type 0} (n : ℕ) → (4 == n) ≡ true → (6 == n) ≡ true → A
apart_kinds n h k = absurd (grind (arith, nat_tests))

apart_marks : {A : Type 0} (n : ℕ) → (5 == n) ≡ true → (6 == n) ≡ true → A
apart_marks n h k = absurd (grind (arith, nat_tests))

not_written : (due : Option StepKind) (e : Event) → is_by_due due (e ∷ []) ≡ true → is_last_due due ≡ true → is_write_or_mark e ≡ false
not_written (Some k) (event.Went t kind.Write) by last = apart_kinds (step_number k) by last
not_written (Some k) (event.Went t kind.Mark) by last = apart_marks (step_number k) by last
not_written None (event.Went t kind.Write) by last = absurd (false≢true last)
not_written None (event.Went t kind.Mark) by last = absurd (false≢true last)
not_written due (event.Went t k) by last = refl
not_written due e by last = refl

last_due : (due : Option StepKind) (e : Event) → is_by_due due (e ∷ []) ≡ true → is_commit e ≡ true → is_last_due due ≡ true
last_due due (event.Commit r) by commits = by
last_due due e by commits = absurd (false≢true commits)

-- how a task of s ended is what it was, whatever comes, and changes nothing of what is kept of a commit
told_event : (p q : Past) (s t : ℕ) (e : Event) → is_task_end s e ≡ true → is_own p t e ≡ false → is_event_of q t e ≡ false
told_event p q s t (event.Split a path x) ends h = h
told_event p q s t (event.Collected a c) ends h = h
told_event p q s t e ends h = absurd (false≢true ends)

told_flight : (s : ℕ) (e : Event) (o : Option Flight) → is_task_end s e ≡ true → flight_with e o ≡ o
told_flight s (event.Split a path x) o ends = refl
told_flight s (event.Collected a c) o ends = refl
told_flight s e o ends = absurd (false≢true ends)

-- it ends no revision, and it and the reply behind it are one step
told_end : {A : Type 0} (s : ℕ) (e : Event) (r : Revision) → is_task_end s e ≡ true → e ≡ event.End r → A
told_end s e r ends same = absurd (false≢true (subst (λ (x : Event). is_task_end s x ≡ true) same ends))

told_drawing : (past : Past) (s i : ℕ) (text : _) (e : Event) → is_task_end s e ≡ true → is_drawing (event.Said s i text ∷ e ∷ past) s ≡ is_drawing past s
told_drawing past s i text (event.Split a path x) ends = refl
told_drawing past s i text (event.Collected a c) ends = refl
told_drawing past s i text e ends = absurd (false≢true ends)

told_step : (h : History) (s i : ℕ) (text : _) (e : Event) → is_task_end s e ≡ true → is_one_step h s (e ∷ event.Said s i text ∷ []) ≡ true
told_step h s i text (event.Split a path x) ends = ap (λ b. list_any (λ j. true) (cond (b && (s == s)) (kind.Say ∷ []) [])) ends ∙ ap (λ b. list_any (λ j. true) (cond b (kind.Say ∷ []) [])) (itself s)
told_step h s i text (event.Collected a c) ends = ap (λ b. list_any (λ j. true) (cond (b && (s == s)) (kind.Say ∷ []) [])) ends ∙ ap (λ b. list_any (λ j. true) (cond b (kind.Say ∷ []) [])) (itself s)
told_step h s i text e ends = absurd (false≢true ends)

not_one : {A : Type 0} (a e f : Event) (l : Past) → l ≡ a ∷ e ∷ [] → l ≡ f ∷ [] → A
not_one a e f l two one = none_is_some e (ap (λ (p : Past). slice_get p 1) (sym one ∙ two))

-- an event of session s is none of session t
not_event_of : (past : Past) (t : ℕ) (e : Event) → is_own past t e ≡ false → is_event_of (e ∷ past) t e ≡ false
not_event_of past t (event.Login a v) h = h
not_event_of past t (event.Refresh a v) h = h
not_event_of past t (event.Draw d) h = h
not_event_of past t (event.Commit r) h = h
not_event_of past t (event.Refuse r item o) h = h
not_event_of past t (event.End r) h = refl
not_event_of past t (event.Attach a id) h = h
not_event_of past t (event.Detach a) h = h
not_event_of past t (event.Split a path e) h = h
not_event_of past t (event.Collected a c) h = h
not_event_of past t (event.Went a k) h = h
not_event_of past t (event.Said a i text) h = h
not_event_of past t e h = refl

and_none : (a : Bool) → (a && false) ≡ false
and_none true = refl
and_none false = refl

or_none : (a b : Bool) → a ≡ false → b ≡ false → (a || b) ≡ false
or_none true b h k = absurd (false≢true (sym h))
or_none false b h k = k

-- two lists that answer alike at each place are as long
pub same_length : {X : Type 0} (a b : List X) → ((i : ℕ) → slice_get a i ≡ slice_get b i) → length a ≡ length b
same_length [] [] h = refl
same_length [] (y ∷ b) h = none_is_some y (h 0)
same_length (x ∷ a) [] h = none_is_some x (sym (h 0))
same_length (x ∷ a) (y ∷ b) h = ap suc (same_length a b (λ i. h (suc i)))

abbrev is_end : Event → Bool
is_end (event.End r) = true
is_end e = false

-- ---- a turn

module _ (script : Script) (n : GName) (s : ℕ) (old new : WorldOf JcrLaw) (seat : Seat) (now : SessionRun) (answer : Turn)
    (law_is : old.law ≡ law_of script) (history : (live old.history) ≡ history_at script old.history.past) (seated : IsSeated script old s seat)
    (turned : IsTurned old.law (shown_at n old s) (shown_at n new s) seat.run now answer) where
  abbrev past : Past
  past = old.history.past

  abbrev own : Past
  own = turned.own

  moment : after turned.others (live old.history) ≡ history_at script past
  moment = ap (λ (o : Past). after o (live old.history)) turned.alone ∙ history

  grown : (live new.history) ≡ history_at script (own ++ past)
  grown = turned.grows.grown ∙ ap (λ (h : History). after own h) moment

  pub past_now : new.history.past ≡ own ++ past
  past_now = ap (λ (h : History). h.past) grown

  pub history_now : (live new.history) ≡ history_at script new.history.past
  history_now = grown ∙ ap (λ (p : Past). history_at script p) (sym past_now)

  pub nodes : AreNodes script.clusters (map (λ x. x.cluster) script.sessions)
  nodes = subst (λ (h : History). AreNodes h.clusters h.sessions) history (seated.stands n).nodes

  pub run_new : IsRunOf (starts_of old.law) (says_of old.law) script.clusters (map (λ x. x.cluster) script.sessions) None (own ++ past)
  run_new = subst (λ (h : History). IsRun (starts_of old.law) (says_of old.law) h) grown turned.grows.run

  pub tells : Tells (history_at script past) s seat.run.index answer own
  tells = subst (λ (h : History). Tells h s seat.run.index answer own) moment turned.tells

  pub made : IsMade (history_at script past) (shown_at n old s) (shown_at n new s) now own answer
  made = subst (λ (h : History). IsMade h (shown_at n old s) (shown_at n new s) now own answer) moment turned.made

  -- ---- what isn't seen

  awaited_seen : (w : Work) (r : Revision) → awaited w ≡ Some r → IsSeenFor (history_at script past) w → sees (head_of script.clusters None past r.cluster) r ≡ true
  awaited_seen (Awaiting q) r is seen = subst (λ (x : Revision). sees (head_of script.clusters None past x.cluster) x ≡ true) (some_is_some q r is) seen
  awaited_seen Idle r is seen = none_is_some r is
  awaited_seen (Starting t) r is seen = none_is_some r is
  awaited_seen (Publishing q) r is seen = none_is_some r is
  awaited_seen (Learning u) r is seen = none_is_some r is
  awaited_seen (Passing q) r is seen = none_is_some r is
  awaited_seen (Sweeping q) r is seen = none_is_some r is
  awaited_seen Collecting r is seen = none_is_some r is
  awaited_seen (Telling e) r is seen = none_is_some r is
  awaited_seen (Detaching v) r is seen = none_is_some r is
  awaited_seen (Writing q) r is seen = none_is_some r is
  awaited_seen (Undoing q e) r is seen = none_is_some r is
  awaited_seen (Deciding q) r is seen = none_is_some r is

  module _ (step : IsStep (history_at script past) (shown_at n old s) (shown_at n new s) own) where
    all_seen : (r : Revision) → is_revision_of past s r ≡ true → is_unseen script past r ≡ false
    all_seen r mine = by (is_unseen script past r) refl
      where
        unseen_sees : (c e v : Bool) → (c && e && not v) ≡ true → v ≡ true → false ≡ true
        unseen_sees true true true h k = h
        unseen_sees true true false h k = k
        unseen_sees true false v h k = h
        unseen_sees false e v h k = h

        by : (b : Bool) → is_unseen script past r ≡ b → b ≡ false
        by false h = refl
        by true h = absurd (false≢true (unseen_sees (is_committed past r) (is_ended past r) _ h (awaited_seen (shown_work (work_in old.actors s)) r (seated.seen r mine h) step.seen)))

    pub awake : is_resting script past s ≡ false
    awake = or_none (is_waiting script past s) _ (not_waiting script.clusters (map (λ x. x.cluster) script.sessions) nodes (starts_of old.law) (says_of old.law) script refl past (earlier own run_new) s all_seen)
        (ap (λ b. (next_index past s == length (commands_of script s)) && b) step.stays ∙ and_none _)
      where
        earlier : (added : Past) → IsRunOf (starts_of old.law) (says_of old.law) script.clusters (map (λ x. x.cluster) script.sessions) None (added ++ past) → IsRunOf (starts_of old.law) (says_of old.law) script.clusters (map (λ x. x.cluster) script.sessions) None past
        earlier [] run = run
        earlier (e ∷ added) run = earlier added run.1

    -- the end of a revision, and the head that it moved
    module _ (k : StepKind) (c : ℕ) (v : RevVec) (r : Revision) (is : own ≡ event.Head c v ∷ event.End r ∷ []) (appended : is_appended_by (history_at script past) s k (reverse own) ≡ true) where
      kinds : (is_revision_of past s r && moves_head (history_at script past) r && r.cluster == c) ≡ true
      kinds = where_true k (is_revision_of past s r && moves_head (history_at script past) r && r.cluster == c) (kind.Finish ∷ [])
          (sym (appended_one (history_at script past) s k (event.End r) (event.Head c v ∷ [])) ∙ subst (λ (o : Past). is_appended_by (history_at script past) s k (reverse o) ≡ true) is appended)

      first_two : (is_revision_of past s r && moves_head (history_at script past) r) ≡ true
      first_two = (halves (is_revision_of past s r && moves_head (history_at script past) r) (r.cluster == c) kinds).0

      theirs : is_revision_of past s r ≡ true
      theirs = (halves (is_revision_of past s r) (moves_head (history_at script past) r) first_two).0

      moves : moves_head (history_at script past) r ≡ true
      moves = (halves (is_revision_of past s r) (moves_head (history_at script past) r) first_two).1

      near_cluster : (r.cluster == c) ≡ true
      near_cluster = (halves (is_revision_of past s r && moves_head (history_at script past) r) (r.cluster == c) kinds).1

      run_mid : IsRunOf (starts_of old.law) (says_of old.law) script.clusters (map (λ x. x.cluster) script.sessions) None (event.End r ∷ past)
      run_mid = (subst (λ (o : Past). IsRunOf (starts_of old.law) (says_of old.law) script.clusters (map (λ x. x.cluster) script.sessions) None (o ++ past)) is run_new).1

      idle_mid : is_drawing (event.End r ∷ past) s ≡ false
      idle_mid = flight_own script.clusters (map (λ x. x.cluster) script.sessions) nodes (starts_of old.law) (says_of old.law) s (event.End r) past seat.flight run_mid theirs seated.flight

      r_seen : sees (head_of script.clusters None (event.End r ∷ past) r.cluster) r ≡ true
      r_seen = moving_sees script.clusters (map (λ x. x.cluster) script.sessions) nodes (starts_of old.law) (says_of old.law) past r run_mid (node_of script.clusters (map (λ x. x.cluster) script.sessions) nodes (starts_of old.law) (says_of old.law) past run_mid.1 s r theirs) (not_true _ moves)
        where
          not_true : (b : Bool) → not b ≡ true → b ≡ false
          not_true true h = absurd (false≢true h)
          not_true false h = refl

      mid_seen : (q : Revision) → is_revision_of (event.End r ∷ past) s q ≡ true → is_unseen script (event.End r ∷ past) q ≡ false
      mid_seen q mine = by (is_unseen script (event.End r ∷ past) q) refl
        where
          last_of : (x y z : Bool) → (x && y && not z) ≡ true → z ≡ false
          last_of true true false h = refl
          last_of true true true h = absurd (false≢true h)
          last_of true false z h = absurd (false≢true h)
          last_of false y z h = absurd (false≢true h)

          end_is : (a b : Revision) → event.End a ≡ event.End b → a ≡ b
          end_is a b h = ap (λ (e : Event). revision_in e a) h
            where
              revision_in : Event → Revision → Revision
              revision_in (event.End x) d = x
              revision_in e d = d

          by : (b : Bool) → is_unseen script (event.End r ∷ past) q ≡ b → b ≡ false
          by false h = refl
          by true h = cases (was_unseen script.clusters (map (λ x. x.cluster) script.sessions) nodes (starts_of old.law) (says_of old.law) script refl past s q (event.End r) run_mid mine h)
            where
              cases : ((is_revision_of past s q ≡ true) × (is_unseen script past q ≡ true)) ⊎ ((event.End r ≡ event.End q) × (is_revision_of past s q ≡ true) × (is_committed past q ≡ true)) → true ≡ false
              cases (inl (m, u)) = absurd (false≢true (sym (all_seen q m) ∙ u))
              cases (inr (same, m, co)) = absurd (false≢true (sym (last_of (is_committed (event.End r ∷ past) q) (is_ended (event.End r ∷ past) q) (sees (head_of script.clusters None (event.End r ∷ past) q.cluster) q) h) ∙ subst (λ (x : Revision). sees (head_of script.clusters None (event.End r ∷ past) x.cluster) x ≡ true) (end_is r q same) r_seen))

      double : IsDouble script past s own
      double = record {
        cluster = c;
        head = v;
        revision = r;
        is = is;
        theirs = theirs;
        near = ap (λ (o : Option ℕ). option_map_or (λ m. m == c) o false) at_node ∙ near_cluster;
        idle = idle_mid;
        awake = or_none (is_waiting script (event.End r ∷ past) s) _ (not_waiting script.clusters (map (λ x. x.cluster) script.sessions) nodes (starts_of old.law) (says_of old.law) script refl (event.End r ∷ past) run_mid s mid_seen)
            (ap (λ b. (next_index (event.End r ∷ past) s == length (commands_of script s)) && b) step.stays ∙ and_none _);
      }
        where
          at_node : slice_get (map (λ (x : SessionScript). x.cluster) script.sessions) s ≡ Some r.cluster
          at_node = cluster_of script.clusters (map (λ x. x.cluster) script.sessions) nodes (starts_of old.law) (says_of old.law) past run_mid.1 s r theirs

    -- where the step appends an event that tells of no session, no commit is under way
    abbrev pub IsCalmStep : Type 0
    IsCalmStep = (e : Event) → own ≡ e ∷ [] → tells_of_none e ≡ true → (is_drawing past s ≡ false) × (is_last_due (due_at old s) ≡ false)

    pub stepped : (k : StepKind) → IsCalmStep → is_appended_by (history_at script past) s k (reverse own) ≡ true → IsOneStep own → IsStepAt script past s (due_at old s) own × (list_any (is_reply_of s) own ≡ false)
    stepped k calm appended (inl (e, is, plain)) =
        let one : list_any (is_kind k) (kinds_for (history_at script past) s (e ∷ [])) ≡ true = sym (appended_one (history_at script past) s k e []) ∙ subst (λ (o : Past). is_appended_by (history_at script past) s k (reverse o) ≡ true) is appended in (
          record {
            events = inl (record { event = e; is = is; made = made_of script past s k e one plain (λ none. (calm e is none).0) });
            step = subst (λ (o : Past). is_one_step (history_at script past) s (reverse o) ≡ true) (sym is) (some_kind k _ one);
            awake = awake;
            written = λ f same last. not_written (due_at old s) f (subst (λ (o : Past). is_by_due (due_at old s) o ≡ true) same step.as_due) last;
            committed = λ f same commits. last_due (due_at old s) f (subst (λ (o : Past). is_by_due (due_at old s) o ≡ true) same step.as_due) commits;
            unnamed = λ f same none. (calm f same none).1;
          },
          subst (λ (o : Past). list_any (is_reply_of s) o ≡ false) (sym is) (or_none (is_reply_of s e) false (no_reply s e plain) refl),
        )
    stepped k calm appended (inr (c, v, r, is)) = (
      record {
        events = inr (inl (double k c v r is appended));
        step = subst (λ (o : Past). is_one_step (history_at script past) s (reverse o) ≡ true) (sym is) (some_kind k (kinds_for (history_at script past) s (event.End r ∷ event.Head c v ∷ [])) (sym (appended_one (history_at script past) s k (event.End r) (event.Head c v ∷ [])) ∙ subst (λ (o : Past). is_appended_by (history_at script past) s k (reverse o) ≡ true) is appended));
        awake = awake;
        written = λ f same last. not_written (due_at old s) f (subst (λ (o : Past). is_by_due (due_at old s) o ≡ true) same step.as_due) last;
        committed = λ f same commits. last_due (due_at old s) f (subst (λ (o : Past). is_by_due (due_at old s) o ≡ true) same step.as_due) commits;
        unnamed = λ f same none. (calm f same none).1;
      },
      subst (λ (o : Past). list_any (is_reply_of s) o ≡ false) (sym is) refl,
    )

    -- what is kept, and what is seen, behind the step
    abbrev Sessions : List ℕ
    Sessions = map (λ x. x.cluster) script.sessions

    abbrev work_now : Work
    work_now = shown_work (work_in new.actors s)

    run_as : (o : Past) → own ≡ o → IsRunOf (starts_of old.law) (says_of old.law) script.clusters (map (λ x. x.cluster) script.sessions) None (o ++ past)
    run_as o is = subst (λ (o : Past). IsRunOf (starts_of old.law) (says_of old.law) script.clusters (map (λ x. x.cluster) script.sessions) None (o ++ past)) is run_new

    pub flight_stepped : (k : StepKind) → IsCalmStep → is_appended_by (history_at script past) s k (reverse own) ≡ true → IsOneStep own → IsFlight (own ++ past) s (flight_behind (own ++ past) seat.flight)
    flight_stepped k calm appended (inl (e, is, plain)) =
        let one : list_any (is_kind k) (kinds_for (history_at script past) s (e ∷ [])) ≡ true = sym (appended_one (history_at script past) s k e []) ∙ subst (λ (o : Past). is_appended_by (history_at script past) s k (reverse o) ≡ true) is appended in
        subst (λ (o : Past). IsFlight (o ++ past) s (flight_behind (o ++ past) seat.flight)) (sym is)
        (by e (run_as (e ∷ []) is) (made_of script past s k e one plain (λ none. (calm e is none).0)))
      where
        by : (e : Event) → IsRunOf (starts_of old.law) (says_of old.law) script.clusters (map (λ x. x.cluster) script.sessions) None (e ∷ past) → IsMadeBy script past s e → IsFlight (e ∷ past) s (flight_with e seat.flight)
        by e run (inl mine) = flight_own script.clusters (map (λ x. x.cluster) script.sessions) nodes (starts_of old.law) (says_of old.law) s e past seat.flight run mine seated.flight
        by e run (inr un) =
            subst (λ (o : Option Flight). IsFlight (e ∷ past) s o) (sym (flight_none e seat.flight un.none))
            (flight_other script.clusters (map (λ x. x.cluster) script.sessions) nodes (starts_of old.law) (says_of old.law) s e past seat.flight run (unnamed_own past s e un.none) seated.flight)
    flight_stepped k calm appended (inr (c, v, r, is)) =
        subst (λ (o : Past). IsFlight (o ++ past) s (flight_behind (o ++ past) seat.flight)) (sym is)
        (flight_head script.clusters (map (λ x. x.cluster) script.sessions) nodes (starts_of old.law) (says_of old.law) s c v (event.End r ∷ past) (idle_mid k c v r is appended))

    pub flight_said : (i : ℕ) (text : _) (told : Past) → AreEnds s told → own ≡ event.Said s i text ∷ told → IsFlight (own ++ past) s seat.flight
    flight_said i text [] ends is =
        subst (λ (o : Past). IsFlight (o ++ past) s seat.flight) (sym is)
        (flight_own script.clusters (map (λ x. x.cluster) script.sessions) nodes (starts_of old.law) (says_of old.law) s (event.Said s i text) past seat.flight (run_as (event.Said s i text ∷ []) is) (itself s) seated.flight)
    flight_said i text (e ∷ []) ends is =
        let ran = run_as (event.Said s i text ∷ e ∷ []) is in
        let first : IsFlight (e ∷ past) s seat.flight = subst (λ (o : Option Flight). IsFlight (e ∷ past) s o) (told_flight s e seat.flight ends)
        (flight_own script.clusters (map (λ x. x.cluster) script.sessions) nodes (starts_of old.law) (says_of old.law) s e past seat.flight ran.1 (told_own past s e ends) seated.flight) in
        subst (λ (o : Past). IsFlight (o ++ past) s seat.flight) (sym is)
        (flight_own script.clusters (map (λ x. x.cluster) script.sessions) nodes (starts_of old.law) (says_of old.law) s (event.Said s i text) (e ∷ past) seat.flight ran (itself s) first)
    flight_said i text (e ∷ f ∷ told) ends is = absurd ends

    seen_single : (e : Event) → own ≡ e ∷ [] → IsSeenBut script (e ∷ past) s (awaited work_now)
    seen_single e is r mine unseen = cases (was_unseen script.clusters (map (λ x. x.cluster) script.sessions) nodes (starts_of old.law) (says_of old.law) script refl past s r e (run_as (e ∷ []) is) mine unseen)
      where
        cases : ((is_revision_of past s r ≡ true) × (is_unseen script past r ≡ true)) ⊎ ((e ≡ event.End r) × (is_revision_of past s r ≡ true) × (is_committed past r ≡ true)) → awaited work_now ≡ Some r
        cases (inl (m, u)) = absurd (false≢true (sym (all_seen r m) ∙ u))
        cases (inr (same, m, committed)) = ap awaited (subst (λ (o : Past). HasAwaited past o work_now) (is ∙ ap (λ x. x ∷ []) same) step.ended committed)

    pub seen_stepped : (k : StepKind) → is_appended_by (history_at script past) s k (reverse own) ≡ true → IsOneStep own → IsSeenBut script (own ++ past) s (awaited work_now)
    seen_stepped k appended (inl (e, is, plain)) = subst (λ (o : Past). IsSeenBut script (o ++ past) s (awaited work_now)) (sym is) (seen_single e is)
    seen_stepped k appended (inr (c, v, r, is)) = subst (λ (o : Past). IsSeenBut script (o ++ past) s (awaited work_now)) (sym is) head_seen
      where
        head_seen : IsSeenBut script (event.Head c v ∷ event.End r ∷ past) s (awaited work_now)
        head_seen q mine unseen = cases (was_unseen script.clusters (map (λ x. x.cluster) script.sessions) nodes (starts_of old.law) (says_of old.law) script refl (event.End r ∷ past) s q (event.Head c v) (run_as (event.Head c v ∷ event.End r ∷ []) is) mine unseen)
          where
            cases : ((is_revision_of (event.End r ∷ past) s q ≡ true) × (is_unseen script (event.End r ∷ past) q ≡ true)) ⊎ ((event.Head c v ≡ event.End q) × (is_revision_of (event.End r ∷ past) s q ≡ true) × (is_committed (event.End r ∷ past) q ≡ true)) → awaited work_now ≡ Some q
            cases (inl (m, u)) = absurd (false≢true (sym (mid_seen k c v r is appended q m) ∙ u))
            cases (inr (same, m, committed)) = absurd (false≢true (ap is_end same))

    pub seen_said : (i : ℕ) (text : _) (told : Past) → AreEnds s told → own ≡ event.Said s i text ∷ told → IsSeenBut script (own ++ past) s (awaited work_now)
    seen_said i text [] ends is = subst (λ (o : Past). IsSeenBut script (o ++ past) s (awaited work_now)) (sym is) (seen_single (event.Said s i text) is)
    seen_said i text (e ∷ []) ends is = subst (λ (o : Past). IsSeenBut script (o ++ past) s (awaited work_now)) (sym is) told_seen
      where
        ran : IsRunOf (starts_of old.law) (says_of old.law) script.clusters (map (λ x. x.cluster) script.sessions) None (event.Said s i text ∷ e ∷ past)
        ran = run_as (event.Said s i text ∷ e ∷ []) is

        first_seen : (q : Revision) → is_revision_of (e ∷ past) s q ≡ true → is_unseen script (e ∷ past) q ≡ true → awaited work_now ≡ Some q
        first_seen q mine unseen = cases (was_unseen script.clusters (map (λ x. x.cluster) script.sessions) nodes (starts_of old.law) (says_of old.law) script refl past s q e ran.1 mine unseen)
          where
            cases : ((is_revision_of past s q ≡ true) × (is_unseen script past q ≡ true)) ⊎ ((e ≡ event.End q) × (is_revision_of past s q ≡ true) × (is_committed past q ≡ true)) → awaited work_now ≡ Some q
            cases (inl (m, u)) = absurd (false≢true (sym (all_seen q m) ∙ u))
            cases (inr (same, m, committed)) = told_end s e q ends same

        told_seen : IsSeenBut script (event.Said s i text ∷ e ∷ past) s (awaited work_now)
        told_seen q mine unseen = cases (was_unseen script.clusters (map (λ x. x.cluster) script.sessions) nodes (starts_of old.law) (says_of old.law) script refl (e ∷ past) s q (event.Said s i text) ran mine unseen)
          where
            cases : ((is_revision_of (e ∷ past) s q ≡ true) × (is_unseen script (e ∷ past) q ≡ true)) ⊎ ((event.Said s i text ≡ event.End q) × (is_revision_of (e ∷ past) s q ≡ true) × (is_committed (e ∷ past) q ≡ true)) → awaited work_now ≡ Some q
            cases (inl (m, u)) = first_seen q m u
            cases (inr (same, m, committed)) = absurd (false≢true (ap is_end same))
    seen_said i text (e ∷ f ∷ told) ends is = absurd ends

    -- behind a reply nothing of the session is in flight
    idle_said : (i : ℕ) (text : _) (e : Event) → is_task_end s e ≡ true → own ≡ event.Said s i text ∷ e ∷ [] → is_drawing past s ≡ false
    idle_said i text e ends is =
        let now_past : new.history.past ≡ event.Said s i text ∷ e ∷ past = past_now ∙ ap (λ (o : Past). o ++ past) is in
        sym (told_drawing past s i text e ends)
        ∙ (sym (ap (λ (p : Past). is_drawing p s) now_past) ∙ said_idle old.law (shown_at n new s) now turned.stands i text (e ∷ past) now_past)

    pub said : (i : ℕ) (text : _) (told : Past) → AreEnds s told → own ≡ event.Said s i text ∷ told → IsStepAt script past s (due_at old s) own
    said i text [] ends is = record {
      events = inl (record { event = event.Said s i text; is = is; made = inl (itself s) });
      step = subst (λ (o : Past). is_one_step (history_at script past) s (reverse o) ≡ true) (sym is) (ap (λ b. list_any (λ j. true) (cond b (kind.Say ∷ []) [])) (itself s));
      awake = awake;
      written = λ f same last. not_written (due_at old s) f (subst (λ (o : Past). is_by_due (due_at old s) o ≡ true) same step.as_due) last;
      committed = λ f same commits. last_due (due_at old s) f (subst (λ (o : Past). is_by_due (due_at old s) o ≡ true) same step.as_due) commits;
      unnamed = λ f same none. absurd (false≢true (subst (λ (x : Event). tells_of_none x ≡ true) (sym (one_event (event.Said s i text) f own is same)) none));
    }
    said i text (e ∷ []) ends is = record {
      events = inr (inr (record { index = i; text = text; told = e; is = is; ends = ends; idle = idle_said i text e ends is }));
      step = subst (λ (o : Past). is_one_step (history_at script past) s (reverse o) ≡ true) (sym is) (told_step (history_at script past) s i text e ends);
      awake = awake;
      written = λ f same last. not_one (event.Said s i text) e f own is same;
      committed = λ f same commits. not_one (event.Said s i text) e f own is same;
      unnamed = λ f same none. not_one (event.Said s i text) e f own is same;
    }
    said i text (e ∷ f ∷ told) ends is = absurd ends

  -- ---- the session itself

  pub stands_now : new.law ≡ old.law → (m : GName) → Stands new.law (shown_at m new s) now
  stands_now same m = subst (λ (l : JcrLaw). Stands l (shown_at m new s) now) (sym same) (stands_renamed old.law (shown_at n new s) (shown_at m new s).beside (shown_at m new s).due now turned.stands)

  pub session_now : now.session ≡ s
  session_now = sym turned.stands.session

  -- ---- the other sessions

  -- the events are none, or those of a step
  abbrev Shape : Type 0
  Shape = (own ≡ []) ⊎ AreMadeBy script past s own

  seats_same : slice_set (map seat_of new.actors) s no_seat ≡ slice_set (map seat_of old.actors) s no_seat
  seats_same = seats_are _ _ (ap (λ (b : Beside). b.seats) turned.beside)
    where
      seats_are : (a b : List PortSeat) → Some a ≡ Some b → a ≡ b
      seats_are a b h = some_is_some a b h

  pub other_seat : (t : ℕ) → (t == s) ≡ false → seat_of (actor_in new.actors t) ≡ seat_of (actor_in old.actors t)
  other_seat t other = other_seats old.actors new.actors s t seats_same other

  module _ (t : ℕ) (other : (t == s) ≡ false) where
    are_others : Shape → list_any (is_event_of (own ++ past) t) own ≡ false
    are_others (inl none) = subst (λ (o : Past). list_any (is_event_of (o ++ past) t) o ≡ false) (sym none) refl
    are_others (inr (inl one)) = subst (λ (o : Past). list_any (is_event_of (o ++ past) t) o ≡ false) (sym one.is) (or_none (is_event_of (one.event ∷ past) t one.event) false (not_event_of past t one.event (not_of_another script past t s other one.event one.made)) refl)
    are_others (inr (inr (inl two))) = subst (λ (o : Past). list_any (is_event_of (o ++ past) t) o ≡ false) (sym two.is) refl
    are_others (inr (inr (inr said))) = subst (λ (o : Past). list_any (is_event_of (o ++ past) t) o ≡ false) (sym said.is)
        (or_none (s == t) _ (one_session past t s other (event.Said s said.index said.text) (itself s))
        (or_none (is_event_of (event.Said s said.index said.text ∷ said.told ∷ past) t said.told) false
        (told_event past (event.Said s said.index said.text ∷ said.told ∷ past) s t said.told said.ends (one_session past t s other said.told (told_own past s said.told said.ends))) refl))

    pub over_other : Shape → is_over script past t ≡ true → is_over script (own ++ past) t ≡ true
    over_other shape over =
        let both = halves (next_index past t == length (commands_of script t)) (has_left past t) over in
        ap (λ i. (i == length (commands_of script t)) && has_left (own ++ past) t) (next_stays (own ++ past) own past t (are_others shape))
        ∙ (ap (λ b. b && has_left (own ++ past) t) both.0 ∙ any_later (is_end_of_session t) own past both.1)

    module _ (theirs : Seat) (their_seat : IsSeated script old t theirs) (shape : Shape) where
      abbrev alone : GName → Beside
      alone m = record { name = m; seats = None }

      abbrev apart_old : GName → Shown
      apart_old m = record (shown_at m old t) { beside = alone m; due = None }

      abbrev apart_new : GName → Shown
      apart_new m = record (shown_at m new t) { beside = alone m; due = None }

      behind : (m : GName) → IsBeside old.law (record (shown_at m old t) { beside = alone m; due = None }) (record (shown_at m new t) { beside = alone m; due = None })
      behind m = record {
        others = own;
        grows = record {
          grown = turned.grows.grown ∙ ap (λ (o : Past). after own (after o (live old.history))) turned.alone;
          theirs = are_others shape;
          run = turned.grows.run;
        };
        session = refl;
        beside = refl;
        alone = tt;
      }

      stands_other : new.law ≡ old.law → (m : GName) → Stands new.law (shown_at m new t) theirs.run
      stands_other same m =
          subst (λ (l : JcrLaw). Stands l (shown_at m new t) theirs.run) (sym same)
          (stands_renamed old.law (record (shown_at m new t) { beside = alone m; due = None }) (shown_at m new t).beside (shown_at m new t).due theirs.run
          (stands_beside old.law (record (shown_at m old t) { beside = alone m; due = None }) (record (shown_at m new t) { beside = alone m; due = None }) theirs.run
          (stands_renamed old.law (shown_at m old t) (alone m) None theirs.run (their_seat.stands m)) (behind m)
          (ap (λ (x : PortSeat). x.work) (other_seat t other)) (ap (λ (x : PortSeat). x.room) (other_seat t other))))

      flight_others : IsFlight (own ++ past) t theirs.flight
      flight_others = by shape
        where
          by : Shape → IsFlight (own ++ past) t theirs.flight
          by (inl none) = subst (λ (o : Past). IsFlight (o ++ past) t theirs.flight) (sym none) their_seat.flight
          by (inr (inl one)) = subst (λ (o : Past). IsFlight (o ++ past) t theirs.flight) (sym one.is)
              (flight_other script.clusters (map (λ x. x.cluster) script.sessions) nodes (starts_of old.law) (says_of old.law) t one.event past theirs.flight
              (subst (λ (o : Past). IsRunOf (starts_of old.law) (says_of old.law) script.clusters (map (λ x. x.cluster) script.sessions) None (o ++ past)) one.is run_new) (not_of_another script past t s other one.event one.made) their_seat.flight)
          by (inr (inr (inl two))) =
              let run = subst (λ (o : Past). IsRunOf (starts_of old.law) (says_of old.law) script.clusters (map (λ x. x.cluster) script.sessions) None (o ++ past)) two.is run_new in
              subst (λ (o : Past). IsFlight (o ++ past) t theirs.flight) (sym two.is)
              (flight_other script.clusters (map (λ x. x.cluster) script.sessions) nodes (starts_of old.law) (says_of old.law) t (event.Head two.cluster two.head) (event.End two.revision ∷ past) theirs.flight run refl
              (flight_other script.clusters (map (λ x. x.cluster) script.sessions) nodes (starts_of old.law) (says_of old.law) t (event.End two.revision) past theirs.flight run.1 (one_session past t s other (event.End two.revision) two.theirs) their_seat.flight))
          by (inr (inr (inr said))) =
              let run = subst (λ (o : Past). IsRunOf (starts_of old.law) (says_of old.law) script.clusters (map (λ x. x.cluster) script.sessions) None (o ++ past)) said.is run_new in
              subst (λ (o : Past). IsFlight (o ++ past) t theirs.flight) (sym said.is)
              (flight_other script.clusters (map (λ x. x.cluster) script.sessions) nodes (starts_of old.law) (says_of old.law) t (event.Said s said.index said.text) (said.told ∷ past) theirs.flight run
              (one_session (said.told ∷ past) t s other (event.Said s said.index said.text) (itself s))
              (flight_other script.clusters (map (λ x. x.cluster) script.sessions) nodes (starts_of old.law) (says_of old.law) t said.told past theirs.flight run.1 (one_session past t s other said.told (told_own past s said.told said.ends)) their_seat.flight))

      awaits_same : (r : Revision) → awaited (shown_work (work_in old.actors t)) ≡ Some r → awaited (shown_work (work_in new.actors t)) ≡ Some r
      awaits_same r h = ap (λ (x : PortSeat). awaited x.work) (other_seat t other) ∙ h

      seen_event : (e : Event) → IsRunOf (starts_of old.law) (says_of old.law) script.clusters (map (λ x. x.cluster) script.sessions) None (e ∷ past) → IsMadeBy script past s e → (r : Revision) → is_revision_of (e ∷ past) t r ≡ true → is_unseen script (e ∷ past) r ≡ true → awaited (shown_work (work_in old.actors t)) ≡ Some r
      seen_event e run mine r own_is unseen = cases (was_unseen script.clusters (map (λ x. x.cluster) script.sessions) nodes (starts_of old.law) (says_of old.law) script refl past t r e run own_is unseen)
        where
          cases : ((is_revision_of past t r ≡ true) × (is_unseen script past r ≡ true)) ⊎ ((e ≡ event.End r) × (is_revision_of past t r ≡ true) × (is_committed past r ≡ true)) → awaited (shown_work (work_in old.actors t)) ≡ Some r
          cases (inl (m, u)) = their_seat.seen r m u
          cases (inr (same, m, committed)) = absurd (false≢true (sym (not_of_another script past t s other (event.End r) (subst (λ (x : Event). IsMadeBy script past s x) same mine)) ∙ m))

      seen_others : IsSeenBut script (own ++ past) t (awaited (shown_work (work_in new.actors t)))
      seen_others = by shape
        where
          by : Shape → IsSeenBut script (own ++ past) t (awaited (shown_work (work_in new.actors t)))
          by (inl none) = subst (λ (o : Past). IsSeenBut script (o ++ past) t (awaited (shown_work (work_in new.actors t)))) (sym none) (λ r m u. awaits_same r (their_seat.seen r m u))
          by (inr (inl one)) = subst (λ (o : Past). IsSeenBut script (o ++ past) t (awaited (shown_work (work_in new.actors t)))) (sym one.is)
              (λ r m u. awaits_same r (seen_event one.event (subst (λ (o : Past). IsRunOf (starts_of old.law) (says_of old.law) script.clusters (map (λ x. x.cluster) script.sessions) None (o ++ past)) one.is run_new) one.made r m u))
          by (inr (inr (inr said))) = subst (λ (o : Past). IsSeenBut script (o ++ past) t (awaited (shown_work (work_in new.actors t)))) (sym said.is) (λ r m u. awaits_same r (behind_reply r m u))
            where
              run_said : IsRunOf (starts_of old.law) (says_of old.law) script.clusters (map (λ x. x.cluster) script.sessions) None (event.Said s said.index said.text ∷ said.told ∷ past)
              run_said = subst (λ (o : Past). IsRunOf (starts_of old.law) (says_of old.law) script.clusters (map (λ x. x.cluster) script.sessions) None (o ++ past)) said.is run_new

              behind_reply : (r : Revision) → is_revision_of (event.Said s said.index said.text ∷ said.told ∷ past) t r ≡ true → is_unseen script (event.Said s said.index said.text ∷ said.told ∷ past) r ≡ true → awaited (shown_work (work_in old.actors t)) ≡ Some r
              behind_reply r m u = cases (was_unseen script.clusters (map (λ x. x.cluster) script.sessions) nodes (starts_of old.law) (says_of old.law) script refl (said.told ∷ past) t r (event.Said s said.index said.text) run_said m u)
                where
                  cases : ((is_revision_of (said.told ∷ past) t r ≡ true) × (is_unseen script (said.told ∷ past) r ≡ true)) ⊎ ((event.Said s said.index said.text ≡ event.End r) × (is_revision_of (said.told ∷ past) t r ≡ true) × (is_committed (said.told ∷ past) r ≡ true)) → awaited (shown_work (work_in old.actors t)) ≡ Some r
                  cases (inl (m, u)) = seen_event said.told run_said.1 (inl (told_own past s said.told said.ends)) r m u
                  cases (inr (same, m, committed)) = absurd (false≢true (ap is_end same))
          by (inr (inr (inl two))) = subst (λ (o : Past). IsSeenBut script (o ++ past) t (awaited (shown_work (work_in new.actors t)))) (sym two.is) (λ r m u. awaits_same r (behind_head r m u))
            where
              run_two : IsRunOf (starts_of old.law) (says_of old.law) script.clusters (map (λ x. x.cluster) script.sessions) None (event.Head two.cluster two.head ∷ event.End two.revision ∷ past)
              run_two = subst (λ (o : Past). IsRunOf (starts_of old.law) (says_of old.law) script.clusters (map (λ x. x.cluster) script.sessions) None (o ++ past)) two.is run_new

              behind_head : (r : Revision) → is_revision_of (event.Head two.cluster two.head ∷ event.End two.revision ∷ past) t r ≡ true → is_unseen script (event.Head two.cluster two.head ∷ event.End two.revision ∷ past) r ≡ true → awaited (shown_work (work_in old.actors t)) ≡ Some r
              behind_head r m u = cases (was_unseen script.clusters (map (λ x. x.cluster) script.sessions) nodes (starts_of old.law) (says_of old.law) script refl (event.End two.revision ∷ past) t r (event.Head two.cluster two.head) run_two m u)
                where
                  cases : ((is_revision_of (event.End two.revision ∷ past) t r ≡ true) × (is_unseen script (event.End two.revision ∷ past) r ≡ true)) ⊎ ((event.Head two.cluster two.head ≡ event.End r) × (is_revision_of (event.End two.revision ∷ past) t r ≡ true) × (is_committed (event.End two.revision ∷ past) r ≡ true)) → awaited (shown_work (work_in old.actors t)) ≡ Some r
                  cases (inl (m, u)) = seen_event (event.End two.revision) run_two.1 (inl two.theirs) r m u
                  cases (inr (same, m, committed)) = absurd (false≢true (ap is_end same))

      -- another session is seated as it was
      pub seated_other : new.law ≡ old.law → IsSeated script new t theirs
      seated_other same = record {
        session = their_seat.session;
        stands = stands_other same;
        flight = subst (λ (p : Past). IsFlight p t theirs.flight) (sym past_now) flight_others;
        seen = subst (λ (p : Past). IsSeenBut script p t (awaited (shown_work (work_in new.actors t)))) (sym past_now) seen_others;
      }
