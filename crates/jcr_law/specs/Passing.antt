-- What a history says of a session, and of its command under way, while events of others are added.
use Rattle.std.proofs.Common.{◌≡◌, ℕ, Bool, true, false, cond, not, ◌||◌, ◌&&◌, Option, None, Some, List, [], ◌∷◌, ◌++◌, length, arith, refl, sym, ap, ◌∙◌, subst}
use Rattle.std.specs.Prelude.{◌==◌, Contains, IsFalse}
use Rattle.std.specs.List.{list_any}
use Rattle.std.proofs.lemmas.Bool.{false≢true}
use Rattle.std.proofs.lemmas.Bool.Decides.{nat_tests}
use Rattle.std.proofs.lemmas.List.Elements.{Contains-append_right}
use Rattle.jr_path.specs.Lists.{Text}
use Rattle.jr_rev.specs.declared.revision.Revision.{Revision}
use Rattle.jr_rev.specs.declared.vector.RevVec.{RevVec}
use Rattle.oak_machine.specs.declared.event.Draw.{Draw}
use Rattle.oak_machine.specs.declared.event.Event.{Event}
use Rattle.oak_machine.specs.declared.event.Event.TheVariants as event
use Rattle.oak_machine.specs.declared.event.StepKind.TheVariants as kind
use Rattle.oak_machine.specs.History.{Begin, Past}
use Rattle.oak_machine.specs.Laws.{Starts, Says, is_event_of}
use Rattle.oak_machine.specs.Runs.{IsRunOf}
use Rattle.oak_machine.specs.Sessions.{is_stop_of, is_stopped, since}
use Rattle.oak_machine.proofs.Induction.{neither, other}
use Rattle.oak_machine.proofs.Stays.{any_later}
use Rattle.jcr_law.specs.declared.law.JcrLaw.{JcrLaw}
use Rattle.jcr_law.specs.Since.{before_turn, came, detached_among, draw_among, draw_since, is_beginning, is_move_of, is_pinning, is_unmoved, is_unpinned, stop_position}
use Rattle.jcr_law.specs.declared.state.State.{State}
use Rattle.jcr_law.specs.State.{session_state}

-- an event of another session begins no command of s
pub not_beginning : (whole : Past) (s : ℕ) (e : Event) → is_event_of whole s e ≡ false
    → is_beginning s e ≡ false
not_beginning whole s (event.Login t v) h = h
not_beginning whole s (event.Said t i text) h = ap (λ b. b || false) h
not_beginning whole s e h = refl

-- events of other sessions leave the state of session s
pub state_stays : (law : JcrLaw) (begin : Begin) (whole added past : Past) (s : ℕ)
    → list_any (is_event_of whole s) added ≡ false
    → session_state law begin (added ++ past) s ≡ session_state law begin past s
state_stays law begin whole [] past s h = refl
state_stays law begin whole (event.Login t v ∷ added) past s h = let n = neither (t == s) _ h in
    other (t == s) _ _ _ n.0 (state_stays law begin whole added past s n.1)
state_stays law begin whole (event.Refresh t v ∷ added) past s h = let n = neither (t == s) _ h in
    other (t == s) _ _ _ n.0 (state_stays law begin whole added past s n.1)
state_stays law begin whole (event.Attach t id ∷ added) past s h = let n = neither (t == s) _ h in
    other (t == s) _ _ _ n.0 (state_stays law begin whole added past s n.1)
state_stays law begin whole (event.Said t i text ∷ added) past s h = let n = neither (t == s) _ h in
    other (t == s) _ _ _ n.0 (state_stays law begin whole added past s n.1)
state_stays law begin whole (e ∷ added) past s h =
    state_stays law begin whole added past s (neither (is_event_of whole s e) _ h).1

-- events of other sessions leave the past before the command of s under way
pub before_stays : (whole added past : Past) (s : ℕ) → list_any (is_event_of whole s) added ≡ false
    → before_turn (added ++ past) s ≡ before_turn past s
before_stays whole [] past s h = refl
before_stays whole (e ∷ added) past s h =
    let n = neither (is_event_of whole s e) _ h in
    other (is_beginning s e) (e ∷ (added ++ past)) (before_turn (added ++ past) s)
    (before_turn past s) (not_beginning whole s e n.0) (before_stays whole added past s n.1)

-- events of other sessions come on top of those since the command of s began
pub since_stays : (whole added past : Past) (s : ℕ) → list_any (is_event_of whole s) added ≡ false
    → since (added ++ past) s ≡ added ++ since past s
since_stays whole [] past s h = refl
since_stays whole (e ∷ added) past s h =
    let n = neither (is_event_of whole s e) _ h in
    other (is_beginning s e) [] (e ∷ since (added ++ past) s) (e ∷ (added ++ since past s))
    (not_beginning whole s e n.0)
    (ap (λ (rest : Past). e ∷ rest) (since_stays whole added past s n.1))

-- another session's event moves no base of s
not_move : (whole : Past) (s : ℕ) (e : Event) → is_event_of whole s e ≡ false
    → is_move_of s e ≡ false
not_move whole s (event.Refresh t v) h = h
not_move whole s (event.Attach t id) h = h
not_move whole s (event.Detach t) h = h
not_move whole s e h = refl

no_move : (whole added past : Past) (s : ℕ) → list_any (is_event_of whole s) added ≡ false
    → list_any (is_move_of s) (added ++ past) ≡ list_any (is_move_of s) past
no_move whole [] past s h = refl
no_move whole (e ∷ added) past s h =
    let n = neither (is_event_of whole s e) _ h in
    ap (λ (b : Bool). b || list_any (is_move_of s) (added ++ past)) (not_move whole s e n.0)
    ∙ no_move whole added past s n.1

-- events of other sessions leave whether the base of s moved since its command began
pub unmoved_stays : (whole added past : Past) (s : ℕ) → list_any (is_event_of whole s) added ≡ false
    → is_unmoved (added ++ past) s ≡ is_unmoved past s
unmoved_stays whole added past s h =
    ap (λ (p : Past). not (list_any (is_move_of s) p)) (since_stays whole added past s h)
    ∙ ap not (no_move whole added (since past s) s h)

-- another session's event moves no cursor of s
not_pinning : (whole : Past) (s : ℕ) (e : Event) → is_event_of whole s e ≡ false
    → is_pinning s e ≡ false
not_pinning whole s (event.Went t kind.Pin) h = h
not_pinning whole s e h = refl

no_pinning : (whole added past : Past) (s : ℕ) → list_any (is_event_of whole s) added ≡ false
    → list_any (is_pinning s) (added ++ past) ≡ list_any (is_pinning s) past
no_pinning whole [] past s h = refl
no_pinning whole (e ∷ added) past s h =
    let n = neither (is_event_of whole s e) _ h in
    ap (λ (b : Bool). b || list_any (is_pinning s) (added ++ past)) (not_pinning whole s e n.0)
    ∙ no_pinning whole added past s n.1

-- events of other sessions leave whether the cursor of s moved since its command began
pub unpinned_stays : (whole added past : Past) (s : ℕ)
    → list_any (is_event_of whole s) added ≡ false
    → is_unpinned (added ++ past) s ≡ is_unpinned past s
unpinned_stays whole added past s h =
    ap (λ (p : Past). not (list_any (is_pinning s) p)) (since_stays whole added past s h)
    ∙ ap not (no_pinning whole added (since past s) s h)

-- what came since comes still
pub came_stays : (test : Past → Event → Bool) (whole added past : Past) (s : ℕ)
    → list_any (is_event_of whole s) added ≡ false → came s test past ≡ true
    → came s test (added ++ past) ≡ true
came_stays test whole [] past s h is = is
came_stays test whole (e ∷ added) past s h is =
    let n = neither (is_event_of whole s e) _ h in
    ap (λ (b : Bool). not b && (test (added ++ past) e || came s test (added ++ past)))
    (not_beginning whole s e n.0)
    ∙ later (test (added ++ past) e) (came s test (added ++ past))
    (came_stays test whole added past s n.1 is)
  where
    later : (a b : Bool) → b ≡ true → (a || b) ≡ true
    later true b k = refl
    later false b k = k

-- an event since the command of s began is still such after events of other sessions
pub contains_stays : (x : Event) (whole added past : Past) (s : ℕ)
    → list_any (is_event_of whole s) added ≡ false → Contains (since past s) x
    → Contains (since (added ++ past) s) x
contains_stays x whole added past s h is =
    subst (λ (p : Past). Contains p x) (sym (since_stays whole added past s h))
    (Contains-append_right added (since past s) x is)

-- a cluster node that was stopped since the command of s began is still such after events of other
-- sessions
pub stopped_stays : (k : ℕ) (whole added past : Past) (s : ℕ)
    → list_any (is_event_of whole s) added ≡ false → is_stopped (since past s) k ≡ true
    → is_stopped (since (added ++ past) s) k ≡ true
stopped_stays k whole added past s h is =
    ap (λ (p : Past). is_stopped p k) (since_stays whole added past s h)
    ∙ any_later (is_stop_of k) added (since past s) is

-- the last draw, and the last detaching, among events of others and some more
draws_stay : (whole added rest : Past) (s : ℕ) → list_any (is_event_of whole s) added ≡ false
    → draw_among (added ++ rest) s ≡ draw_among rest s
draws_stay whole [] rest s h = refl
draws_stay whole (event.Draw d ∷ added) rest s h = let n = neither (d.session == s) _ h in
    other (d.session == s) _ _ _ n.0 (draws_stay whole added rest s n.1)
draws_stay whole (e ∷ added) rest s h =
    draws_stay whole added rest s (neither (is_event_of whole s e) _ h).1

-- events of other sessions leave the draw that s made for its command under way
pub draw_stays : (whole added past : Past) (s : ℕ) → list_any (is_event_of whole s) added ≡ false
    → draw_since (added ++ past) s ≡ draw_since past s
draw_stays whole added past s h =
    ap (λ (p : Past). draw_among p s) (since_stays whole added past s h)
    ∙ draws_stay whole added (since past s) s h

detached_rest : (whole added rest : Past) (s : ℕ) → list_any (is_event_of whole s) added ≡ false
    → detached_among (added ++ rest) s ≡ detached_among rest s
detached_rest whole [] rest s h = refl
detached_rest whole (event.Detach t ∷ added) rest s h = let n = neither (t == s) _ h in
    other (t == s) _ _ _ n.0 (detached_rest whole added rest s n.1)
detached_rest whole (e ∷ added) rest s h =
    detached_rest whole added rest s (neither (is_event_of whole s e) _ h).1

-- events of other sessions leave where the base of s stood when its command detached it
pub detached_stays : (whole added past : Past) (s : ℕ)
    → list_any (is_event_of whole s) added ≡ false
    → detached_among (since (added ++ past) s) s ≡ detached_among (since past s) s
detached_stays whole added past s h =
    ap (λ (p : Past). detached_among p s) (since_stays whole added past s h)
    ∙ detached_rest whole added (since past s) s h

-- a cluster node of which the position of its stop is told was stopped
pub told_stopped : (past : Past) (k position : ℕ) → stop_position past k ≡ Some position
    → is_stopped past k ≡ true
told_stopped [] k position h = cc
told_stopped (event.Stop m ∷ past) k position h = by (m == k) refl (told_stopped past k position) h
  where
    by : (b : Bool) → (m == k) ≡ b
        → (stop_position past k ≡ Some position → is_stopped past k ≡ true)
        → cond b (Some (length past)) (stop_position past k) ≡ Some position
        → ((m == k) || is_stopped past k) ≡ true
    by true e more g = ap (λ c. c || is_stopped past k) e
    by false e more g = ap (λ c. c || is_stopped past k) e ∙ more g
told_stopped (e ∷ past) k position h = told_stopped past k position h

-- in a run a cluster node is stopped once
pub position_stays : (starts : Starts) (says : Says) (clusters : ℕ) (sessions : List ℕ)
    (begin : Begin) (added past : Past) (k position : ℕ)
    → IsRunOf starts says clusters sessions begin (added ++ past)
    → stop_position past k ≡ Some position
    → stop_position (added ++ past) k ≡ Some position
position_stays starts says clusters sessions begin [] past k position run h = h
position_stays starts says clusters sessions begin (event.Stop m ∷ added) past k position run h =
    by (position_stays starts says clusters sessions begin added past k position run.1 h)
    (m == k) refl
  where
    same_number : (m == k) ≡ true → m ≡ k
    same_number e = grind (arith, nat_tests)

    by : stop_position (added ++ past) k ≡ Some position → (b : Bool) → (m == k) ≡ b
        → cond b (Some (length (added ++ past))) (stop_position (added ++ past) k) ≡ Some position
    by rest true e =
        absurd (false≢true
        (sym run.0 ∙ (ap (is_stopped (added ++ past)) (same_number e)
        ∙ told_stopped (added ++ past) k position rest)))
    by rest false e = rest
position_stays starts says clusters sessions begin (e ∷ added) past k position run h =
    position_stays starts says clusters sessions begin added past k position run.1 h
