-- The events of a session, and those of others: where a session's events are the same, what was added is of others.
use Rattle.std.proofs.Common.{◌≡◌, ℕ, ◌≤◌, Bool, true, false, cond, ◌||◌, Option, List, [], ◌∷◌, ◌++◌, length, refl, sym, ap, ◌∙◌, arith}
use Rattle.std.specs.Prelude.{◌==◌}
use Rattle.std.specs.List.{list_any}
use Rattle.std.specs.Option.{option_map_or}
use Rattle.jr_rev.specs.declared.revision.Revision.{Revision}
use Rattle.oak_machine.specs.declared.event.Draw.{Draw}
use Rattle.oak_machine.specs.declared.event.Event.{Event}
use Rattle.oak_machine.specs.declared.event.Event.TheVariants as event
use Rattle.oak_machine.specs.History.{Begin, Past}
use Rattle.oak_machine.specs.Commits.{draw_of, is_drawn}
use Rattle.oak_machine.specs.Laws.{AreOthers, Says, Starts, is_event_of}
use Rattle.oak_machine.specs.Runs.{AreNodes, IsRunOf}
use Rattle.oak_machine.proofs.Induction.{first_of_both}
use Rattle.core_heads.proofs.Drawn.{Keeps, drawn_some, keeps_one}
use Rattle.jr_shared.specs.Meanings.{own_events}

-- ---- a session's own events

own_more : (e : Event) (own before : Past) (b : Bool) → length before ≤ length own → length before ≤ length (cond b (e ∷ own) own)
own_more e own before true h = omega arith
own_more e own before false h = h

own_grow : (more past : Past) (s : ℕ) → length (own_events past s) ≤ length (own_events (more ++ past) s)
own_grow [] past s = omega arith
own_grow (e ∷ more) past s = own_more e (own_events (more ++ past) s) (own_events past s) (is_event_of (e ∷ (more ++ past)) s e) (own_grow more past s)

-- none of the added events is one of session s, each where it was added
abbrev pub NoneOwn : Past → Past → ℕ → Type 0
NoneOwn [] past s = Unit {0}
NoneOwn (e ∷ more) past s = (is_event_of (e ∷ (more ++ past)) s e ≡ false) × NoneOwn more past s

none_first : (e : Event) (own before : Past) (N : Type 0) → (own ≡ before → N) → length before ≤ length own → (b : Bool) → cond b (e ∷ own) own ≡ before → (b ≡ false) × N
none_first e own before N rest le true h = let l = ap length h in absurd (omega arith)
none_first e own before N rest le false h = (refl, rest h)

pub none_own : (more past : Past) (s : ℕ) → own_events (more ++ past) s ≡ own_events past s → NoneOwn more past s
none_own [] past s h = tt
none_own (e ∷ more) past s h = none_first e (own_events (more ++ past) s) (own_events past s) (NoneOwn more past s) (none_own more past s) (own_grow more past s) (is_event_of (e ∷ (more ++ past)) s e) h

-- ---- in a run

module _ (clusters : ℕ) (sessions : List ℕ) (nodes : AreNodes clusters sessions) (begin : Begin) (starts : Starts) (says : Says) where
  module _ (s : ℕ) where
    -- whose a revision is that was drawn then
    same_owner : (past whole : Past) → Keeps past whole → (r : Revision) → is_drawn past r ≡ true → option_map_or (λ d. d.session == s) (draw_of whole r) false ≡ option_map_or (λ d. d.session == s) (draw_of past r) false
    same_owner past whole keeps r drawn =
        let d = drawn_some (draw_of past r) drawn in
        ap (λ (o : Option Draw). option_map_or (λ d. d.session == s) o false) (keeps r d.0 d.1 ∙ sym d.1)

    -- an event that is none of the session's where it is added is none later
    never_own : (e : Event) (past whole : Past) → IsRunOf starts says clusters sessions begin (e ∷ past) → Keeps past whole → is_event_of (e ∷ past) s e ≡ false → is_event_of whole s e ≡ false
    never_own (event.Commit r) past whole run keeps h = same_owner past whole keeps r (first_of_both _ _ run.0.open_.in_flight) ∙ h
    never_own (event.Refuse r item o) past whole run keeps h = same_owner past whole keeps r (first_of_both _ _ run.0.open_.in_flight) ∙ h
    never_own e past whole run keeps h = h

    others_in : (more past whole : Past) → IsRunOf starts says clusters sessions begin (more ++ past) → Keeps (more ++ past) whole → NoneOwn more past s → list_any (is_event_of whole s) more ≡ false
    others_in [] past whole run keeps none = refl
    others_in (e ∷ more) past whole run keeps none =
        let before : Keeps (more ++ past) whole = λ r d h. keeps r d (keeps_one clusters sessions nodes begin starts says e (more ++ past) run r d h) in
        ap (λ b. b || list_any (is_event_of whole s) more) (never_own e (more ++ past) whole run before none.0) ∙ others_in more past whole run.1 before none.1

    -- where the session's events are the same, what was added is of others
    pub are_others : (more past : Past) → IsRunOf starts says clusters sessions begin (more ++ past) → own_events (more ++ past) s ≡ own_events past s → AreOthers s more past
    are_others more past run same = others_in more past (more ++ past) run (λ r d h. h) (none_own more past s same)

  -- what came before is a run
  pub run_before : (more past : Past) → IsRunOf starts says clusters sessions begin (more ++ past) → IsRunOf starts says clusters sessions begin past
  run_before [] past run = run
  run_before (e ∷ more) past run = run_before more past run.1
