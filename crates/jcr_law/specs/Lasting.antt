-- What the law lets start and say lasts while events of others are added, and what it lets start is
-- proper.
use Rattle.std.proofs.Common.{◌≡◌, ℕ, Bool, true, false, cond, Option, None, Some, List, [], ◌∷◌, ◌++◌, arith, refl, sym, ap, ◌∙◌, subst, inl, inr}
use Rattle.std.specs.Prelude.{◌+◌, ◌==◌, Contains}
use Rattle.std.specs.List.{filter, list_any}
use Rattle.std.specs.Option.{option_map_or}
use Rattle.std.proofs.lemmas.Bool.{false≢true}
use Rattle.std.proofs.lemmas.Bool.Decides.{nat_tests}
use Rattle.std.proofs.lemmas.List.Elements.{Contains-append_cases, Contains-append_left, Contains-append_right}
use Rattle.jr_rev.specs.declared.revision.Revision.{Revision}
use Rattle.jr_rev.specs.declared.vector.RevVec.{RevVec}
use Rattle.jr_tree.specs.Trees.{Nodes}
use Rattle.oak_clash.specs.declared.mark.MarkAt.{MarkAt}
use Rattle.oak_machine.specs.declared.event.Draw.{Draw}
use Rattle.oak_machine.specs.declared.event.Event.{Event}
use Rattle.oak_machine.specs.declared.event.Event.TheVariants as event
use Rattle.oak_machine.specs.History.{Begin, History, Past}
use Rattle.oak_machine.specs.Commits.{is_commit_of, is_committed, is_end_of, is_ended}
use Rattle.oak_machine.specs.Laws.{Says, Starts, is_event_of}
use Rattle.oak_machine.specs.Runs.{AreNodes, IsRunOf, SaysLast, SaysLastBehind, StartsLast, is_task_end}
use Rattle.oak_machine.specs.Sessions.{base_of, drawn_since, is_drawing, since}
use Rattle.oak_machine.proofs.Induction.{base_stays}
use Rattle.oak_machine.proofs.Stays.{any_later, edits_stay}
use Rattle.core_heads.specs.Sound.{IsHeld}
use Rattle.core_heads.proofs.Runs.{earlier_run, sound_run}
use Rattle.core_heads.proofs.Stays.{had_ended, held_stays}
use Rattle.core_heads.proofs.Passing.{among_same, drawn_stays, ended_since, idle_stays, next_more, next_stays, refreshed_stays, refusal_stays, uncommitted_stays}
use Rattle.jcr_law.specs.declared.law.JcrLaw.{JcrLaw}
use Rattle.jcr_law.specs.Law.{MayStart, SaysBy}
use Rattle.jcr_law.specs.Since.{draw_among, draw_since, is_beginning, is_pinning}
use Rattle.jcr_law.specs.Tasks.{finds_stopped, is_out, is_recovering, is_sweep, misses}
use Rattle.jcr_law.specs.Growing.{HasAllOf, said_at, seen_edits, starts_grow}
use Rattle.jcr_law.specs.Passing.{before_stays, came_stays, contains_stays, detached_stays, draw_stays, position_stays, state_stays, stopped_stays, unmoved_stays, unpinned_stays}

module _ (law : JcrLaw) (starts : Starts) (says : Says) (clusters : ℕ) (sessions : List ℕ)
    (begin : Begin) (s : ℕ) (added past : Past)
    (later : IsRunOf starts says clusters sessions begin (added ++ past))
    (others : list_any (is_event_of (added ++ past) s) added ≡ false)
    (base_edits : (v : RevVec) → base_of past s ≡ Some v
    → seen_edits (added ++ past) v ≡ seen_edits past v)
    (draw_edits : (d : Draw) → draw_since past s ≡ Some d
    → seen_edits (added ++ past) d.base ≡ seen_edits past d.base) where
  -- what was not committed since is not committed since
  still_open : (o : Option Revision) → ((r : Revision) → o ≡ Some r → is_ended past r ≡ true)
      → option_map_or (is_committed past) o false ≡ false
      → option_map_or (is_committed (added ++ past)) o false ≡ false
  still_open None ended h = refl
  still_open (Some r) ended h =
      uncommitted_stays starts says clusters sessions begin past r (ended r refl) added later h

  pub grows_above : HasAllOf law begin s past (added ++ past)
  grows_above = record {
    index = next_stays (added ++ past) added past s others;
    drawn = drawn_stays (added ++ past) added past s others;
    draw = draw_stays (added ++ past) added past s others;
    refreshed = refreshed_stays (added ++ past) added past s others;
    base = base_stays (added ++ past) added past s others;
    state = state_stays law begin (added ++ past) added past s others;
    before = before_stays (added ++ past) added past s others;
    still = unmoved_stays (added ++ past) added past s others;
    unpinned = unpinned_stays (added ++ past) added past s others;
    detached = detached_stays (added ++ past) added past s others;
    edits = base_edits;
    draw_edits = draw_edits;
    idle = idle_stays (added ++ past) added past s others;
    uncommitted = λ idle none. still_open (drawn_since past s)
        (λ r is. ended_since past s r idle is) none;
    ended = λ r. any_later (is_end_of r) added past;
    committed = λ r. any_later (is_commit_of r) added past;
    refusal = λ r ended. refusal_stays starts says clusters sessions begin past r ended added later;
    position = λ k p. position_stays starts says clusters sessions begin added past k p later;
    has = λ x. contains_stays x (added ++ past) added past s others;
    stopped = λ k. stopped_stays k (added ++ past) added past s others;
    pinned = came_stays (λ earlier e. is_pinning s e) (added ++ past) added past s others;
    outs = λ k r. came_stays (λ earlier e. is_out k r e) (added ++ past) added past s others;
    sweeps = λ k r. came_stays (λ earlier e. is_sweep k r e) (added ++ past) added past s others;
    missed = λ id. came_stays (misses s id) (added ++ past) added past s others;
    found = λ k. came_stays (finds_stopped s k) (added ++ past) added past s others;
    recovers = λ k r. came_stays (is_recovering k r) (added ++ past) added past s others;
  }

-- one event more, in front of two lists
with_event : (e : Event) (old new : Past) (x : Event) → (Contains old x → Contains new x)
    → Contains (e ∷ old) x → Contains (e ∷ new) x
with_event e old new x more is = elim (Contains-append_cases (e ∷ []) old x is) [
  | inl first ↦ Contains-append_left (e ∷ []) new x first
  | inr rest ↦ Contains-append_right (e ∷ []) new x (more rest)
]

-- the end of a split or of a collection on top of both
module _ (law : JcrLaw) (begin : Begin) (s : ℕ) (past now : Past)
    (grows : HasAllOf law begin s past now) where
  pub grows_under : (e : Event) → is_task_end s e ≡ true → HasAllOf law begin s (e ∷ past) (e ∷ now)
  grows_under (event.Split t path end) h = record {
    index = next_more s (event.Split t path end) now
        ∙ (ap (λ (n : ℕ). n + 0) grows.index ∙ sym (next_more s (event.Split t path end) past));
    drawn = grows.drawn;
    draw = grows.draw;
    refreshed = grows.refreshed;
    base = grows.base;
    state = grows.state;
    before = grows.before;
    still = grows.still;
    unpinned = grows.unpinned;
    detached = grows.detached;
    edits = grows.edits;
    draw_edits = grows.draw_edits;
    idle = λ h. among_same now (event.Split t path end) (λ r. refl) now s
        ∙ grows.idle (sym (among_same past (event.Split t path end) (λ r. refl) past s) ∙ h);
    uncommitted = λ h none. grows.uncommitted
        (sym (among_same past (event.Split t path end) (λ r. refl) past s) ∙ h) none;
    ended = grows.ended;
    committed = grows.committed;
    refusal = grows.refusal;
    position = grows.position;
    has = λ x is. with_event (event.Split t path end) (since past s) (since now s) x
        (grows.has x) is;
    stopped = grows.stopped;
    pinned = grows.pinned;
    outs = grows.outs;
    sweeps = grows.sweeps;
    missed = grows.missed;
    found = grows.found;
    recovers = grows.recovers;
  }
  grows_under (event.Collected t end) h = record {
    index = next_more s (event.Collected t end) now
        ∙ (ap (λ (n : ℕ). n + 0) grows.index ∙ sym (next_more s (event.Collected t end) past));
    drawn = grows.drawn;
    draw = grows.draw;
    refreshed = grows.refreshed;
    base = grows.base;
    state = grows.state;
    before = grows.before;
    still = grows.still;
    unpinned = grows.unpinned;
    detached = grows.detached;
    edits = grows.edits;
    draw_edits = grows.draw_edits;
    idle = λ h. among_same now (event.Collected t end) (λ r. refl) now s
        ∙ grows.idle (sym (among_same past (event.Collected t end) (λ r. refl) past s) ∙ h);
    uncommitted = λ h none. grows.uncommitted
        (sym (among_same past (event.Collected t end) (λ r. refl) past s) ∙ h) none;
    ended = grows.ended;
    committed = grows.committed;
    refusal = grows.refusal;
    position = grows.position;
    has = λ x is. with_event (event.Collected t end) (since past s) (since now s) x
        (grows.has x) is;
    stopped = grows.stopped;
    pinned = grows.pinned;
    outs = grows.outs;
    sweeps = grows.sweeps;
    missed = grows.missed;
    found = grows.found;
    recovers = grows.recovers;
  }
  grows_under e h = absurd (false≢true h)

-- what was drawn for the command of s is held at its base
module _ (clusters : ℕ) (sessions : List ℕ) (nodes : AreNodes clusters sessions) (begin : Begin)
    (starts : Starts) (says : Says) (s : ℕ) where
  same_session : (m : ℕ) → (m == s) ≡ true → m ≡ s
  same_session m h = grind (arith, nat_tests)

  some_draw : (a b : Draw) → Some a ≡ Some b → a ≡ b
  some_draw a b h = ap (λ (o : Option Draw). elim o [ Some x ↦ x | None ↦ a ]) h

  own_held : (e : Draw) (past : Past) (d : Draw)
      → IsRunOf starts says clusters sessions begin (event.Draw e ∷ past) → (e.session == s) ≡ true
      → e ≡ d
      → IsHeld begin (event.Draw e ∷ past) d.base
  own_held e past d run own same =
      held_stays clusters sessions nodes begin starts says (event.Draw e ∷ []) past run d.base
      ((sound_run clusters sessions nodes begin starts says past run.1).bases s d.base
      (ap (base_of past) (sym (same_session e.session own))
      ∙ (run.0.base ∙ ap (λ (x : Draw). Some x.base) same)))

  pub draw_held : (past : Past) (d : Draw) → IsRunOf starts says clusters sessions begin past
      → draw_since past s ≡ Some d → IsHeld begin past d.base
  draw_held [] d run is = cc
  draw_held (event.Draw e ∷ past) d run is =
      elim (e.session == s) as
      (λ b. (e.session == s) ≡ b → cond b (Some e) (draw_among (since past s) s) ≡ Some d
      → IsHeld begin (event.Draw e ∷ past) d.base) [
        | true ↦ λ own same. own_held e past d run own (some_draw e d same)
        | false ↦ λ other same. held_stays clusters sessions nodes begin starts says
            (event.Draw e ∷ []) past run d.base (draw_held past d run.1 same)
      ] refl is
  draw_held (e ∷ past) d run is =
      elim (is_beginning s e) as
      (λ b. draw_among (cond b [] (e ∷ since past s)) s ≡ Some d
      → IsHeld begin (e ∷ past) d.base) [
        | true ↦ λ none. cc
        | false ↦ λ same. held_stays clusters sessions nodes begin starts says
            (e ∷ []) past run d.base (draw_held past d run.1 same)
      ] is

  -- what a held vector sees of the commits stays
  held_edits : (added past : Past) → IsRunOf starts says clusters sessions begin (added ++ past)
      → (v : RevVec) → IsHeld begin past v → seen_edits (added ++ past) v ≡ seen_edits past v
  held_edits added past run v held =
      edits_stay starts says clusters sessions begin v past added run
      (had_ended clusters sessions nodes begin starts says added past run v held)

  module _ (law : JcrLaw) (added past : Past)
      (later : IsRunOf starts says clusters sessions begin (added ++ past))
      (others : list_any (is_event_of (added ++ past) s) added ≡ false) where
    before : IsRunOf starts says clusters sessions begin past
    before = earlier_run clusters sessions nodes begin starts says added past later

    pub grows_by_others : HasAllOf law begin s past (added ++ past)
    grows_by_others = grows_above law starts says clusters sessions begin s added past later others
        (λ v is. held_edits added past later v
        ((sound_run clusters sessions nodes begin starts says past before).bases s v is))
        (λ d is. held_edits added past later d.base (draw_held past d before is))

-- the law as the machine takes it
abbrev pub starts_of : JcrLaw → Starts
starts_of law = λ h s edit marks. MayStart law h s edit marks

-- the replies that the law lets a session say, as the machine takes a law
abbrev pub says_of : JcrLaw → Says
says_of law = λ h s i text. SaysBy law h s i text

-- what the law lets a session start it lets start after events of other sessions
pub starts_last : (law : JcrLaw) → StartsLast (starts_of law) (says_of law)
starts_last law h added s edit marks beside may =
    starts_grow law h.clusters h.sessions h.begin s h.past (added ++ h.past)
    (grows_by_others h.clusters h.sessions beside.nodes h.begin (starts_of law)
    (says_of law) s law added h.past beside.later beside.others) edit marks may

-- what the law lets a session say it lets be said after events of other sessions
pub says_last : (law : JcrLaw) → SaysLast (starts_of law) (says_of law)
says_last law h added s i text beside (m, command, may) =
    let grows : HasAllOf law h.begin s h.past (added ++ h.past) =
    grows_by_others h.clusters h.sessions beside.nodes h.begin (starts_of law)
    (says_of law) s law added h.past beside.later beside.others in (
      m,
      command,
      said_at law h.clusters h.sessions h.begin s h.past
          (added ++ h.past) grows m text may,
    )

-- what the law lets a session say after the end of its split or collection it lets be said with
-- events of other sessions before that end
pub says_last_behind : (law : JcrLaw) → SaysLastBehind (starts_of law) (says_of law)
says_last_behind law h added e s i text beside end run later (m, command, may) =
    let grows : HasAllOf law h.begin s h.past (added ++ h.past) =
    grows_by_others h.clusters h.sessions beside.nodes h.begin (starts_of law)
    (says_of law) s law added h.past beside.later beside.others in (
      m,
      command,
      said_at law h.clusters h.sessions h.begin s (e ∷ h.past) (e ∷ (added ++ h.past))
          (grows_under law h.begin s h.past (added ++ h.past) grows e end) m text may,
    )
