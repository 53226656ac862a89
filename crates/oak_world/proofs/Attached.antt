-- A session that is attached to a checkpoint has a reader in the settings, which is at its base.
use mathlib.Core.Bool.{false≢true}
use Rattle.std.proofs.Common.{◌≡◌, ℕ, Bool, true, false, cond, Option, Some, None, List, [], ◌∷◌, is_some, refl, sym, ap, subst, ◌∙◌}
use Rattle.std.specs.Prelude.{◌==◌, IsSome}
use Rattle.std.specs.BTreeMap.{is_at}
use Rattle.std.specs.Map.{lookup, values_of}
use Rattle.std.specs.Option.{option_and_then}
use Rattle.std.specs.Ordering.{nat_cmp}
use Rattle.jr_path.specs.Lists.{Text}
use Rattle.jr_rev.specs.declared.vector.Pin.{Pin}
use Rattle.jr_rev.specs.declared.vector.RevVec.{RevVec}
use Rattle.oak_doc.specs.declared.document.Document.{Document}
use Rattle.oak_machine.specs.declared.event.Event.TheVariants as event
use Rattle.oak_machine.specs.History.{Past, Begin}
use Rattle.oak_machine.specs.Laws.{Says, Starts, StartsProper}
use Rattle.oak_machine.specs.Runs.{IsRunOf}
use Rattle.oak_machine.specs.Sessions.{base_of, has_reader, is_attached, is_stopped_under, kept_checkpoint, last_checkpoint}
use Rattle.core_heads.proofs.Orders.{not_both}
use Rattle.core_heads.proofs.Runs.{kept_last}
use Rattle.core_nodes.specs.Nodes.{IsPair, base_of_pin}
use Rattle.core_world.specs.Kept.{IsAboveBounds, IsKept, reader_at}
use Rattle.core_world.specs.States.{State, reader_pin, origin}
use Rattle.core_world.proofs.Attaching.{attached_reader}
use Rattle.core_world.proofs.Flights.{same_number}
use Rattle.core_world.proofs.Held.{found_in, in_back, kept_now}
use Rattle.core_world.proofs.Whole.{layers_of}

module _ (starts : Starts) (says : Says) (clusters : ℕ) (sessions : List ℕ) (begin : Begin) where
  -- a session that is attached hasn't let its reader go
  pub attached_reads : (past : Past) → IsRunOf starts says clusters sessions begin past → (s : ℕ) → is_attached past s ≡ true → has_reader past s ≡ true
  attached_reads [] run s h = absurd (false≢true h)
  attached_reads (event.Login t v ∷ past) run s h = by (attached_reads past run.1 s) (t == s) h
    where
      by : (is_attached past s ≡ true → has_reader past s ≡ true) → (b : Bool) → cond b false (is_attached past s) ≡ true → has_reader past s ≡ true
      by rest true k = absurd (false≢true k)
      by rest false k = rest k
  attached_reads (event.Refresh t v ∷ past) run s h = by (attached_reads past run.1 s) (t == s) h
    where
      by : (is_attached past s ≡ true → has_reader past s ≡ true) → (b : Bool) → cond b false (is_attached past s) ≡ true → has_reader past s ≡ true
      by rest true k = absurd (false≢true k)
      by rest false k = rest k
  attached_reads (event.Attach t id ∷ past) run s h = by (attached_reads past run.1 s) (t == s) h
    where
      by : (is_attached past s ≡ true → has_reader past s ≡ true) → (b : Bool) → cond b true (is_attached past s) ≡ true → cond b true (has_reader past s) ≡ true
      by rest true k = refl
      by rest false k = rest k
  attached_reads (event.Detach t ∷ past) run s h = by (attached_reads past run.1 s h) (t == s) refl
    where
      by : has_reader past s ≡ true → (b : Bool) → (t == s) ≡ b → cond b false (has_reader past s) ≡ true
      by rest true e = not_both (is_attached past s) h (subst (λ (n : ℕ). is_attached past n ≡ false) (same_number t s e) run.0.0)
      by rest false e = rest
  attached_reads (e ∷ past) run s h = attached_reads past run.1 s h

  last_some : (past : Past) (id : Text) → IsSome (kept_checkpoint past id) → IsSome (last_checkpoint past id)
  last_some past id h = by (kept_checkpoint past id) refl h
    where
      by : (o : Option RevVec) → kept_checkpoint past id ≡ o → IsSome o → IsSome (last_checkpoint past id)
      by None is k = absurd (false≢true k)
      by (Some v) is k = subst (λ (o : Option RevVec). IsSome o) (sym (kept_last past id v is)) refl

  -- and it has a base
  pub attached_based : (past : Past) → IsRunOf starts says clusters sessions begin past → (s : ℕ) → is_attached past s ≡ true → IsSome (base_of past s)
  attached_based [] run s h = absurd (false≢true h)
  attached_based (event.Login t v ∷ past) run s h = by (attached_based past run.1 s) (t == s) h
    where
      by : (is_attached past s ≡ true → IsSome (base_of past s)) → (b : Bool) → cond b false (is_attached past s) ≡ true → IsSome (cond b (Some v) (base_of past s))
      by rest true k = refl
      by rest false k = rest k
  attached_based (event.Refresh t v ∷ past) run s h = by (attached_based past run.1 s) (t == s) h
    where
      by : (is_attached past s ≡ true → IsSome (base_of past s)) → (b : Bool) → cond b false (is_attached past s) ≡ true → IsSome (cond b (Some v) (base_of past s))
      by rest true k = refl
      by rest false k = rest k
  attached_based (event.Attach t id ∷ past) run s h = by (attached_based past run.1 s) (t == s) h
    where
      by : (is_attached past s ≡ true → IsSome (base_of past s)) → (b : Bool) → cond b true (is_attached past s) ≡ true → IsSome (cond b (last_checkpoint past id) (base_of past s))
      by rest true k = last_some past id run.0.0
      by rest false k = rest k
  attached_based (e ∷ past) run s h = attached_based past run.1 s h

module _ (starts : Starts) (says : Says) (proper : StartsProper starts) (w : State) (kept : IsKept starts says w) (s : ℕ) (attached : is_attached w.past s ≡ true) where
  based : base_of w.past s ≡ reader_at w.past s
  based = attached_reader starts says w.clusters w.sessions w.begin w.past kept.sessions.run s attached

  -- what the settings have for it
  reader_is : reader_pin w.table s ≡ lookup (is_at (nat_cmp s)) kept.settings.document.readers
  reader_is = ap (λ (o : Option Document). option_and_then (λ d. lookup (is_at (nat_cmp s)) d.readers) o) kept.settings.there

  pub reader_base : is_stopped_under w.sessions w.past s ≡ false → base_of_pin (reader_pin w.table s) ≡ base_of w.past s
  reader_base on = ap base_of_pin reader_is ∙ (kept.settings.readers s on ∙ sym based)

  pub reader_there : is_stopped_under w.sessions w.past s ≡ false → IsSome (reader_pin w.table s)
  reader_there on = by (reader_pin w.table s) (reader_base on)
    where
      by : (o : Option Pin) → base_of_pin o ≡ base_of w.past s → IsSome o
      by None is = absurd (false≢true (ap is_some is ∙ attached_based starts says w.clusters w.sessions w.begin w.past kept.sessions.run s attached))
      by (Some pin) is = refl

  module _ (pin : Pin) (has : reader_pin w.table s ≡ Some pin) where
    pub reader_based : base_of w.past s ≡ Some pin.base
    reader_based = based ∙ kept.settings.only s pin (sym reader_is ∙ has)

    pub reader_pair : IsPair pin.base pin.sweep
    reader_pair = kept.settings.reader_pairs s pin (sym reader_is ∙ has)

    pub reader_above : IsAboveBounds (origin w) w.past pin
    reader_above = kept.above.kept pin (kept_now starts says proper w (layers_of starts says w kept) pin (in_back pin (values_of kept.settings.document.checkpoints) (values_of kept.settings.document.readers)
        (found_in (is_at (nat_cmp s)) kept.settings.document.readers pin (sym reader_is ∙ has))))
