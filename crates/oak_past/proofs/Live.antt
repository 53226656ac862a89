-- Whether a revision was live beside another, one event more.
use Rattle.std.proofs.Common.{◌≡◌, ◌<◌, ℕ, ◌+◌, Bool, ◌&&◌, ◌||◌, List, ◌∷◌, sym, ap, subst, ◌∙◌, reverse, take, length, get_or}
use Rattle.jr_rev.specs.declared.revision.Revision.{Revision}
use Rattle.oak_machine.specs.declared.event.Event.{Event}
use Rattle.oak_machine.specs.declared.event.Event.TheVariants as event
use Rattle.oak_machine.specs.History.{Past}
use Rattle.oak_machine.specs.Commits.{is_committed, is_drawn, is_in_flight}
use Rattle.oak_machine.specs.Runs.{was_live_beside}
use Rattle.oak_machine.proofs.Forward.{past_longer}

live_step : (r o : Revision) (old new : Bool) (p t : Past) (x : Event) → p ≡ x ∷ t → old ≡ was_live_beside t r o → new ≡ (is_drawn p r && (is_committed p o || is_in_flight p o || old)) → new ≡ was_live_beside p r o
live_step r o old new p t x e was now =
    subst (λ (q : Past). new ≡ (is_drawn q r && (is_committed q o || is_in_flight q o || old)) → new ≡ was_live_beside q r o) (sym e)
    (λ h. h ∙ ap (λ b. is_drawn (x ∷ t) r && (is_committed (x ∷ t) o || is_in_flight (x ∷ t) o || b)) was)
    now

pub live_more : (r o : Revision) (old new : Bool) (events : List Event) (i : ℕ) → i < length events → old ≡ was_live_beside (reverse (take i events)) r o
    → new ≡ (is_drawn (reverse (take (i + 1) events)) r && (is_committed (reverse (take (i + 1) events)) o || is_in_flight (reverse (take (i + 1) events)) o || old))
    → new ≡ was_live_beside (reverse (take (i + 1) events)) r o
live_more r o old new events i within was now = live_step r o old new _ (reverse (take i events)) (get_or events i (event.Detach 0)) (past_longer events i (event.Detach 0) within) was now
