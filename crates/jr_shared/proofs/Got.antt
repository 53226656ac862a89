-- What a pass knows of a world that it got: what was added since is of others, and its session is as it was.
use mathlib.Core.Bool.{false≢true}
use Rattle.std.proofs.Common.{◌≡◌, ℕ, ◌<◌, true, Option, Some, None, List, [], ◌∷◌, ◌++◌, length, is_some, refl, sym, ap, subst, ◌∙◌}
use Rattle.std.specs.Prelude.{IfSome, reverse, slice_get}
use Rattle.std.specs.Option.{option_and_then, option_map_or, unwrap_or}
use Rattle.std.proofs.lemmas.Option.{slice_get-get_or, slice_get_within}
use Rattle.std.proofs.lemmas.List.{reverse-reverse}
use Rattle.jr_path.specs.Lists.{Text}
use Rattle.oak_machine.specs.declared.event.Event.{Event}
use Rattle.oak_machine.specs.declared.law.Law.{Ghosts}
use Rattle.oak_machine.specs.History.{History, Past}
use Rattle.oak_machine.specs.Laws.{AreOthers, Asks, after}
use Rattle.oak_machine.specs.Runs.{AreNodes, IsRunOf, MayFollow, OnlyOthersActed}
use Rattle.oak_machine.specs.Sessions.{base_of, has_left, has_login, is_attached, next_index}
use Rattle.oak_machine.proofs.Induction.{base_stays}
use Rattle.core_heads.proofs.Passing.{next_stays}
use Rattle.core_tidy.proofs.Since.{stay_left}
use Rattle.core_world.specs.States.{State, memory_of}
use Rattle.oak_port.specs.declared.task.Task.{Task}
use Rattle.oak_port.specs.declared.task.Task.TheVariants as task
use Rattle.oak_port.specs.Ports.{IsAskedOf, MayBegin}
use Rattle.oak_step.specs.declared.work.Work.{Work}
use Rattle.oak_step.specs.declared.work.Work.TheVariants as work
use Rattle.oak_world.specs.Ends.{MayTell}
use Rattle.oak_world.specs.Left.{left_in, steps_left}
use Rattle.oak_world.specs.Worlds.{ActorState, WorldOf, actor_in, idle, live, state_of, told_first, work_in}
use Rattle.oak_world.proofs.Ends.{tell_follows}
use Rattle.oak_world.proofs.Staying.{login_left}
use Rattle.jr_shared.specs.declared.locked.WorldFrame.{WorldFrame}
use Rattle.jr_shared.specs.Meanings.{Owned, frame_of, journal_of, own_events, owned_of}
use Rattle.jr_shared.specs.Ends.{may_tell}
use Rattle.jr_shared.specs.Holds.{HasLaw, IsGot, IsTold, IsToldOf, PassKnown, actor_by, has_seat, owned_by, seat_by}
use Rattle.jr_shared.specs.Seen.{clusters_by, history_by, law_by, left_by, sessions_by, state_by, the}
use Rattle.oak_world.proofs.Others.{attached_left, cursor_stays}
use Rattle.jr_shared.proofs.Ends.{end_follows, end_own, work_told}
use Rattle.jr_shared.proofs.Events.{are_others, run_before}
use Rattle.jr_shared.proofs.Lists.{found_part, grown_by}

-- all of a state but the committers and the readers
abbrev pub blank : State → State
blank w = record w { running = λ q. None; reading = λ q. None; observing = λ q. None }

pub the_is : {A : Type 0} (o : Option A) (x : A) → o ≡ Some x → (there : is_some o ≡ true) → the o there ≡ x
the_is None x e there = absurd (false≢true there)
the_is (Some y) x e there = cc

pub law_has : {L : Type 0} (v : PassKnown L) (framed : is_some v.frame ≡ true) (l : L) → HasLaw v l → law_by v framed ≡ l
law_has {L} v framed l has = ap (λ (f : WorldFrame L). f.law) (the_is v.frame has.0 has.1 framed) ∙ has.2

pub some_part : (o : Option Owned) → is_some (option_and_then (λ p. p.seat) o) ≡ true → (q : Owned) × (o ≡ Some q)
some_part None h = absurd (false≢true h)
some_part (Some q) h = (q, refl)

pub within_some : {X : Type 0} (xs : List X) (s : ℕ) (o : Option X) → slice_get xs s ≡ o → is_some o ≡ true → s < length xs
within_some xs s None e h = absurd (false≢true h)
within_some xs s (Some x) e h = slice_get_within xs s x e

pub some_within : {X : Type 0} (xs : List X) (s : ℕ) (d : X) → s < length xs → is_some (slice_get xs s) ≡ true
some_within xs s d less = ap is_some (slice_get-get_or xs s d less)

module _ {L : Type 0} (law : Ghosts L) (old : PassKnown L) (got : WorldOf L) (g : IsGot law old got) where
  -- ---- the frame

  pub clusters_old : clusters_by old ≡ got.history.clusters
  clusters_old = ap (λ (o : Option (WorldFrame L)). option_map_or (λ f. f.clusters) o 0) g.frame_is

  pub sessions_old : sessions_by old ≡ got.history.sessions
  sessions_old = ap (λ (o : Option (WorldFrame L)). option_map_or (λ f. f.sessions) o []) g.frame_is

  pub law_old : (framed : is_some old.frame ≡ true) → law_by old framed ≡ got.law
  law_old framed = ap (λ (f : WorldFrame L). f.law) (the_is old.frame (frame_of got) g.frame_is framed)

  pub has_law : HasLaw old got.law
  has_law = (frame_of got, g.frame_is, refl)

  -- ---- the history

  -- what was added since the pass had the world, the newest first
  abbrev pub more : Past
  more = reverse g.seen.0

  pub past_got : got.history.past ≡ more ++ reverse old.seen
  past_got = grown_by old.seen got.history.past g.seen

  pub history_got : live got.history ≡ after more (history_by old)
  history_got =
      ap (λ (n : ℕ). record (live got.history) { clusters = n }) (sym clusters_old)
      ∙ (ap (λ (xs : List ℕ). record (live got.history) { clusters = clusters_by old; sessions = xs }) (sym sessions_old)
      ∙ ap (λ (xs : Past). record { clusters = clusters_by old; sessions = sessions_by old; begin = None; past = xs }) past_got)

  pub nodes : AreNodes got.history.clusters got.history.sessions
  nodes = g.whole.kept.1.sessions.nodes

  pub run_got : IsRunOf (law.may_start got.law) (law.may_say got.law) got.history.clusters got.history.sessions None (more ++ reverse old.seen)
  run_got = subst (λ (xs : Past). IsRunOf (law.may_start got.law) (law.may_say got.law) got.history.clusters got.history.sessions None xs) past_got g.whole.kept.1.sessions.run

  pub run_old : IsRunOf (law.may_start got.law) (law.may_say got.law) got.history.clusters got.history.sessions None (reverse old.seen)
  run_old = run_before got.history.clusters got.history.sessions nodes None (law.may_start got.law) (law.may_say got.law) more (reverse old.seen) run_got

  -- where nothing was added the journal is the one seen
  pub seen_all : more ≡ [] → old.seen ≡ journal_of got
  seen_all none = sym (reverse-reverse old.seen) ∙ ap reverse (sym (past_got ∙ ap (λ (xs : Past). xs ++ reverse old.seen) none))

  -- ---- the session

  module _ (s : ℕ) (seat : has_seat old s ≡ true) where
    pub owned_got : owned_by old s ≡ Some (owned_of got s)
    owned_got =
        let p = some_part (owned_by old s) seat in
        p.1 ∙ ap Some (sym (g.parts s p.0 (found_part old.parts s p.0 p.1)))

    pub seat_got : seat_by old s ≡ slice_get got.actors s
    seat_got = ap (option_and_then (λ (p : Owned). p.seat)) owned_got

    pub actor_got : actor_by old s ≡ actor_in got.actors s
    actor_got = ap (λ (o : Option ActorState). unwrap_or o idle) seat_got

    pub work_got : (actor_by old s).work ≡ work_in got.actors s
    work_got = ap (λ (a : ActorState). a.work) actor_got

    pub seated : s < length got.actors
    seated = within_some got.actors s (slice_get got.actors s) refl (sym (ap is_some seat_got) ∙ seat)

    pub there : is_some (slice_get got.history.sessions s) ≡ true
    there = some_within got.history.sessions s 0 (subst (λ (n : ℕ). s < n) g.whole.seats seated)

    -- the documents and memories are those that the pass knows, if nothing was added
    pub left_old : more ≡ [] → left_by old s ≡ left_in got s
    left_old none =
        let steady = g.steady_is (seen_all none) in
        let past : got.history.past ≡ reverse old.seen = past_got ∙ ap (λ (xs : Past). xs ++ reverse old.seen) none in
        let same : state_by old ≡ blank (state_of got) =
        ap (λ (n : ℕ). record (state_by old) { clusters = n }) clusters_old
        ∙ (ap (λ (xs : List ℕ). record (state_by old) { clusters = got.history.clusters; sessions = xs }) sessions_old
        ∙ (ap (λ (xs : Past). record (state_by old) { clusters = got.history.clusters; sessions = got.history.sessions; past = xs }) (sym past)
        ∙ ap (λ (o : Option (WorldOf L)). record (blank (state_of got)) { table = option_map_or (λ w. w.table) o (state_by (record old { steady = None })).table; memories = option_map_or (λ w. w.memories) o [] }) steady)) in
        ap (λ (x : State). steps_left s x.table (memory_of x s) (actor_by old s).work) same
        ∙ ap (λ (v : Work). steps_left s got.table (memory_of (state_of got) s) v) work_got

    module _ (told : IsTold old) where
      told_got : IsToldOf (reverse old.seen) s (owned_of got s)
      told_got = subst (λ (o : Option Owned). IfSome o (IsToldOf (reverse old.seen) s)) owned_got (told s)

      same_events : own_events got.history.past s ≡ own_events (reverse old.seen) s
      same_events = told_got.0

      -- what was added since is of others
      pub others : AreOthers s more (reverse old.seen)
      others = are_others got.history.clusters got.history.sessions nodes None (law.may_start got.law) (law.may_say got.law) s more (reverse old.seen) run_got (sym (ap (λ (xs : Past). own_events xs s) past_got) ∙ same_events)

      login_same : has_login (more ++ reverse old.seen) s ≡ has_login (reverse old.seen) s
      login_same = login_left s more (reverse old.seen) others

      left_same : has_left (more ++ reverse old.seen) s ≡ has_left (reverse old.seen) s
      left_same = stay_left s more (reverse old.seen) others

      attached_same : is_attached (more ++ reverse old.seen) s ≡ is_attached (reverse old.seen) s
      attached_same = attached_left s more (reverse old.seen) others

      -- the history seen, by the fields of the world that was got
      abbrev before : History
      before = record { clusters = got.history.clusters; sessions = got.history.sessions; begin = None; past = reverse old.seen }

      beside : OnlyOthersActed (law.may_start got.law) (law.may_say got.law) s before more
      beside = record { nodes = nodes; run = run_old; later = run_got; others = others }

      before_is : history_by old ≡ before
      before_is = ap (λ (n : ℕ). record (history_by old) { clusters = n }) clusters_old ∙ ap (λ (xs : List ℕ). record before { sessions = xs }) sessions_old

      after_is : after more before ≡ live got.history
      after_is = ap (λ (xs : Past). record before { past = xs }) (sym past_got)

      begins : (t : Task) → MayBegin (law.may_start got.law) before s t → MayBegin (law.may_start got.law) (after more before) s t
      begins task.Login m = login_same ∙ m
      begins (task.Commit edit marks) m = (login_same ∙ m.0, left_same ∙ m.1, attached_same ∙ m.2, law.starts_last got.law before more s edit marks beside m.3)
      begins (task.Checkpoint i) m = (login_same ∙ m.0, left_same ∙ m.1, attached_same ∙ m.2)
      begins task.Refresh m = (login_same ∙ m.0, left_same ∙ m.1, attached_same ∙ m.2)
      begins (task.Split p) m = (login_same ∙ m.0, left_same ∙ m.1)
      begins task.Collect m = (login_same ∙ m.0, left_same ∙ m.1)
      begins (task.Attach i) m = (login_same ∙ m.0, left_same ∙ m.1, attached_same ∙ m.2)
      begins task.Detach m = (login_same ∙ m.0, left_same ∙ m.1, attached_same ∙ m.2)
      begins task.Observe m = (login_same ∙ m.0, left_same ∙ m.1, attached_same ∙ m.2)
      begins (task.Changes since) m = (login_same ∙ m.0, left_same ∙ m.1, attached_same ∙ m.2, cursor_stays s more (reverse old.seen) others ∙ m.3)
      begins (task.Stop k) m = absurd m
      begins (task.Recover k) m = absurd m
      begins task.End m = (login_same ∙ m.0, left_same ∙ m.1)
      begins (task.Load p) m = (login_same ∙ m.0, left_same ∙ m.1)
      begins (task.List p) m = (login_same ∙ m.0, left_same ∙ m.1)
      begins task.BackWrite m = (login_same ∙ m.0, left_same ∙ m.1)
      begins task.BackRead m = (login_same ∙ m.0, left_same ∙ m.1)
      begins task.Sweep m = (login_same ∙ m.0, left_same ∙ m.1)
      begins (task.Release i) m = (login_same ∙ m.0, left_same ∙ m.1)

      -- what may begin by the history seen may begin still
      pub may_begin : (t : Task) → MayBegin (law.may_start got.law) (history_by old) s t → MayBegin (law.may_start got.law) (live got.history) s t
      may_begin t m = subst (λ (h : History). MayBegin (law.may_start got.law) h s t) after_is (begins t (subst (λ (h : History). MayBegin (law.may_start got.law) h s t) before_is m))

      -- what is told first, behind what others added
      follows : (e : Event) → MayTell (live got.history) s e → MayFollow (law.may_start got.law) (law.may_say got.law) (after more before) e
      follows e tells = subst (λ (h : History). MayFollow (law.may_start got.law) (law.may_say got.law) h e) (sym after_is) (tell_follows (law.may_start got.law) (law.may_say got.law) (live got.history) s e tells)

      says : (i : ℕ) (text : Text) (v : Work) → may_tell (reverse old.seen) s v ≡ true → ((e : Event) → v ≡ work.Told e → MayTell (live got.history) s e) → law.may_say got.law (after (told_first v) before) s i text → law.may_say got.law (after (told_first v) (live got.history)) s i text
      says i text (work.Told e) tells told m = subst (λ (h : History). law.may_say got.law (after (e ∷ []) h) s i text) after_is
          (law.says_last_behind got.law before more e s i text beside (end_own (reverse old.seen) s e tells)
          (end_follows (law.may_start got.law) (law.may_say got.law) before s e tells, run_old)
          (follows e (told e refl), run_got) m)
      says i text _ tells told m = subst (λ (h : History). law.may_say got.law h s i text) after_is (law.says_last got.law before more s i text beside m)

      -- what may be said by the history seen may be said still
      pub may_say : (i : ℕ) (text : Text) → law.may_say got.law (after (told_first (actor_by old s).work) (history_by old)) s i text → law.may_say got.law (after (told_first (work_in got.actors s)) (live got.history)) s i text
      may_say i text m =
          says i text (work_in got.actors s) (work_told (reverse old.seen) s (slice_get got.actors s) told_got.1) (g.whole.told s)
          (subst (λ (h : History). law.may_say got.law (after (told_first (work_in got.actors s)) h) s i text) before_is
          (subst (λ (v : Work). law.may_say got.law (after (told_first v) (history_by old)) s i text) work_got m))

      pub next_same : next_index got.history.past s ≡ next_index (reverse old.seen) s
      next_same = ap (λ (xs : Past). next_index xs s) past_got ∙ next_stays (more ++ reverse old.seen) more (reverse old.seen) s others

      -- what is asked for by the history seen is asked for still
      pub asked_got : (asks : Asks) (t : Task) → IsAskedOf asks (history_by old) s t → IsAskedOf asks (live got.history) s t
      asked_got asks t so = λ e appends. subst (λ (n : ℕ). asks s n e) (sym next_same) (so e appends)

      pub left_got : has_left got.history.past s ≡ has_left (reverse old.seen) s
      left_got = ap (λ (xs : Past). has_left xs s) past_got ∙ left_same

      pub base_got : base_of got.history.past s ≡ base_of (reverse old.seen) s
      base_got = ap (λ (xs : Past). base_of xs s) past_got ∙ base_stays (more ++ reverse old.seen) more (reverse old.seen) s others
