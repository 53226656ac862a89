-- Two inductions over histories, to see that the definitions bear them.
use Rattle.std.proofs.Common.{◌≡◌, ℕ, Bool, true, false, cond, ◌||◌, Some, List, [], ◌∷◌, ◌++◌, refl, sym, subst, is_some}
use Rattle.std.specs.Prelude.{◌==◌}
use Rattle.std.specs.List.{list_any}
use mathlib.Core.Bool.{false≢true}
use Rattle.jr_rev.specs.declared.revision.Revision.{Revision}
use Rattle.jr_rev.specs.Revisions.{is_same}
use Rattle.oak_machine.specs.declared.event.Event.TheVariants as event
use Rattle.oak_machine.specs.History.{Begin, Past}
use Rattle.oak_machine.specs.Commits.{draw_of, is_drawn, is_committed}
use Rattle.oak_machine.specs.Sessions.{base_of}
use Rattle.oak_machine.specs.Laws.{Starts, Says, is_event_of}
use Rattle.oak_machine.specs.Runs.{IsRunOf}
pub use Rattle.basics.proofs.Bools.{first_of_both}
pub use Rattle.std.proofs.lemmas.Bool.{or_parts as neither}

-- one of two tests
pub either : (a b : Bool) → (a || b) ≡ true → (G : Type 0) → (a ≡ true → G) → (b ≡ true → G) → G
either true b h G f g = f refl
either false b h G f g = g h

-- a later draw hides no earlier one
pub still_drawn : (b : Bool) (d : _) (past : Past) (r : Revision) → is_drawn past r ≡ true → is_some (cond b (Some d) (draw_of past r)) ≡ true
still_drawn true d past r h = refl
still_drawn false d past r h = h

module _ (starts : Starts) (says : Says) (clusters : ℕ) (sessions : List ℕ) (begin : Begin) (same_revision : (q r : Revision) → is_same r q ≡ true → q ≡ r) where
  -- each committed revision is drawn
  pub committed_is_drawn : (past : Past) (r : Revision) → IsRunOf starts says clusters sessions begin past → is_committed past r ≡ true → is_drawn past r ≡ true
  committed_is_drawn [] r run h = absurd (false≢true h)
  committed_is_drawn (event.Commit q ∷ past) r run h = either (is_same r q) (is_committed past r) h _
      (λ same. subst (λ (x : Revision). is_drawn past x ≡ true) (same_revision q r same) (first_of_both (is_drawn past q) _ run.0.open_.in_flight))
      (λ rest. committed_is_drawn past r run.1 rest)
  committed_is_drawn (event.Draw d ∷ past) r run h = still_drawn (is_same r d.revision) d past r (committed_is_drawn past r run.1 h)
  committed_is_drawn (e ∷ past) r run h = committed_is_drawn past r run.1 h

pub other : {X : Type 0} (b : Bool) (x y z : X) → b ≡ false → y ≡ z → cond b x y ≡ z
other true x y z h e = absurd (false≢true (sym h))
other false x y z h e = e

-- events of others leave the base of a session as it was
pub base_stays : (whole added past : Past) (s : ℕ) → list_any (is_event_of whole s) added ≡ false → base_of (added ++ past) s ≡ base_of past s
base_stays whole [] past s h = refl
base_stays whole (event.Login t v ∷ added) past s h = let n = neither (t == s) _ h in other (t == s) (Some v) _ _ n.0 (base_stays whole added past s n.1)
base_stays whole (event.Refresh t v ∷ added) past s h = let n = neither (t == s) _ h in other (t == s) (Some v) _ _ n.0 (base_stays whole added past s n.1)
base_stays whole (event.Attach t id ∷ added) past s h = let n = neither (t == s) _ h in other (t == s) _ _ _ n.0 (base_stays whole added past s n.1)
base_stays whole (e ∷ added) past s h = base_stays whole added past s (neither (is_event_of whole s e) _ h).1
