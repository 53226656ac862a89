-- A session that is attached to no checkpoint is pinned at its base.
use Rattle.std.proofs.Common.{◌≡◌, ℕ, Bool, true, false, cond, Some, [], ◌∷◌, refl, sym}
use Rattle.std.specs.Prelude.{◌==◌}
use mathlib.Core.Bool.{false≢true}
use Rattle.oak_machine.specs.declared.event.Event.TheVariants as event
use Rattle.oak_machine.specs.History.{Past}
use Rattle.oak_machine.specs.Sessions.{base_of, is_attached, last_checkpoint, pinned_at}

pub pinned_base : (past : Past) (s : ℕ) → is_attached past s ≡ false → pinned_at past s ≡ base_of past s
pinned_base [] s h = refl
pinned_base (event.Login t v ∷ past) s h = by (t == s) h (pinned_base past s)
  where
    by : (b : Bool) → cond b false (is_attached past s) ≡ false → (is_attached past s ≡ false → pinned_at past s ≡ base_of past s)
        → cond b (Some v) (pinned_at past s) ≡ cond b (Some v) (base_of past s)
    by true h rest = refl
    by false h rest = rest h
pinned_base (event.Refresh t v ∷ past) s h = by (t == s) h (pinned_base past s)
  where
    by : (b : Bool) → cond b false (is_attached past s) ≡ false → (is_attached past s ≡ false → pinned_at past s ≡ base_of past s)
        → cond b (Some v) (pinned_at past s) ≡ cond b (Some v) (base_of past s)
    by true h rest = refl
    by false h rest = rest h
pinned_base (event.Attach t id ∷ past) s h = by (t == s) h (pinned_base past s)
  where
    by : (b : Bool) → cond b true (is_attached past s) ≡ false → (is_attached past s ≡ false → pinned_at past s ≡ base_of past s)
        → pinned_at past s ≡ cond b (last_checkpoint past id) (base_of past s)
    by true h rest = absurd (false≢true (sym h))
    by false h rest = rest h
pinned_base (e ∷ past) s h = pinned_base past s h
