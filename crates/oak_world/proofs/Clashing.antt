-- What a world keeps tells of commits that have ended.
use Rattle.std.proofs.Common.{◌≡◌, ◌⊎◌, inl, inr, ℕ, Bool, true, false, refl, sym, ◌∙◌}
use mathlib.Core.Bool.{false≢true}
use Rattle.jr_rev.specs.declared.revision.Revision.{Revision}
use Rattle.oak_machine.specs.Commits.{is_committed, is_ended, is_refused}
use Rattle.oak_machine.specs.Sessions.{is_stopped}
use Rattle.oak_machine.specs.Laws.{Says, Starts, StartsProper}
use Rattle.core_world.specs.Kept.{IsKept}
use Rattle.core_world.specs.States.{State}
use Rattle.core_world.proofs.Truths.{comes_through}
use Rattle.core_clash.specs.Unclashing.{IsUnclashing}
use Rattle.oak_world.specs.Clashes.{Wanted}

module _ (starts : Starts) (says : Says) (proper : StartsProper starts) (w : State) (kept : IsKept starts says w) (going : (k : ℕ) → is_stopped w.past k ≡ false) (r : Revision) where
  -- what clashes with none is committed, or wanted memory
  pub comes_or_wants : is_ended w.past r ≡ true → IsUnclashing w.past r → (is_committed w.past r ≡ true) ⊎ Wanted w.past r
  comes_or_wants ended none = by (is_committed w.past r) refl (comes_through starts says proper w kept.sessions r ended none)
    where
      by : (b : Bool) → is_committed w.past r ≡ b → (is_committed w.past r ≡ true) ⊎ (((kept.sessions.committing.writers r).wants ≡ true) × (is_refused w.past r ≡ false)) ⊎ (is_stopped w.past r.cluster ≡ true) → (is_committed w.past r ≡ true) ⊎ Wanted w.past r
      by true is h = inl is
      by false is (inl now) = inl now
      by false is (inr (inl h)) = inr (record { uncommitted = is; unrefused = h.1 })
      by false is (inr (inr h)) = absurd (false≢true (sym (going r.cluster) ∙ h))
