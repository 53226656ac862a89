-- The pin at which a session reads: it is at the session's base, and shows the journal's tree there.
use mathlib.Core.Bool.{false≢true}
use Rattle.std.proofs.Common.{◌≡◌, ℕ, Bool, true, false, not, ◌&&◌, ◌||◌, cond, Option, Some, None, List, [], ◌∷◌, is_some, refl, sym, ap, subst, ◌∙◌}
use Rattle.std.specs.Prelude.{◌==◌, IsSome, slice_get}
use Rattle.std.specs.Option.{option_map}
use Rattle.jr_path.specs.declared.path.Path.{Path}
use Rattle.jr_rev.specs.declared.vector.Pin.{Pin}
use Rattle.jr_rev.specs.Vectors.{is_below}
use Rattle.jr_tree.specs.Trees.{node_at}
use Rattle.oak_machine.specs.declared.event.Event.TheVariants as event
use Rattle.oak_machine.specs.Commits.{IsClosed, IsSettled, tree_at}
use Rattle.oak_machine.specs.History.{Past, Begin}
use Rattle.oak_machine.specs.Laws.{Says, Starts, StartsProper}
use Rattle.oak_machine.specs.Runs.{IsRunOf}
use Rattle.oak_machine.specs.Sessions.{base_of, has_left, has_login, is_attached, is_stopped, is_stopped_under, last_checkpoint, pinned_at}
use Rattle.oak_node.specs.Pins.{pin_of}
use Rattle.oak_read.specs.Meaning.{documents_in, found_node}
use Rattle.core_heads.specs.Sound.{IsHeld}
use Rattle.core_heads.proofs.Runs.{closed_run, held_settled, sound_run}
use Rattle.core_nodes.specs.Nodes.{IsPair, base_of_pin}
use Rattle.core_world.specs.Kept.{AreSessionsKept, IsAboveBounds, IsKept}
use Rattle.core_world.specs.States.{State, actor_pin, memory_of, reader_pin, origin}
use Rattle.core_world.proofs.Draws.{its_base, its_pair}
use Rattle.core_world.proofs.Flights.{same_number}
use Rattle.core_world.proofs.Lives.{node_alive}
use Rattle.core_world.proofs.Truths.{pin_held, pin_there}
use Rattle.core_world.proofs.Whole.{pin_above}
use Rattle.oak_world.proofs.Attached.{reader_above, reader_base, reader_based, reader_pair, reader_there}
use Rattle.oak_world.proofs.Sweeping.{pair_below, pair_shows}
use Rattle.oak_world.proofs.StepsOf.{none_stopped}

-- a session that hasn't logged in and is attached to nothing has no base
module _ (starts : Starts) (says : Says) (clusters : ℕ) (sessions : List ℕ) (begin : Begin) where
  pub no_base : (past : Past) (s : ℕ) → IsRunOf starts says clusters sessions begin past → has_login past s ≡ false → is_attached past s ≡ false → base_of past s ≡ None
  no_base [] s run new detached = refl
  no_base (event.Login t v ∷ past) s run new detached = by (λ l d. no_base past s run.1 l d) (t == s) new detached
    where
      by : (has_login past s ≡ false → is_attached past s ≡ false → base_of past s ≡ None) → (b : Bool) → (b || has_login past s) ≡ false → cond b false (is_attached past s) ≡ false → cond b (Some v) (base_of past s) ≡ None
      by rest true l d = absurd (false≢true (sym l))
      by rest false l d = rest l d
  no_base (event.Refresh t v ∷ past) s run new detached = by (λ d. no_base past s run.1 new d) (t == s) refl detached
    where
      by : (is_attached past s ≡ false → base_of past s ≡ None) → (b : Bool) → (t == s) ≡ b → cond b false (is_attached past s) ≡ false → cond b (Some v) (base_of past s) ≡ None
      by rest true same d = absurd (false≢true (sym new ∙ (sym (ap (λ (n : ℕ). has_login past n) (same_number t s same)) ∙ run.0.login)))
      by rest false apart d = rest d
  no_base (event.Attach t id ∷ past) s run new detached = by (λ d. no_base past s run.1 new d) (t == s) detached
    where
      by : (is_attached past s ≡ false → base_of past s ≡ None) → (b : Bool) → cond b true (is_attached past s) ≡ false → cond b (last_checkpoint past id) (base_of past s) ≡ None
      by rest true d = absurd (false≢true (sym d))
      by rest false d = rest d
  no_base (e ∷ past) s run new detached = no_base past s run.1 new detached

-- the base of a session that is attached to nothing and hasn't left is that of its pin
pub pin_base : (starts : Starts) (says : Says) (proper : StartsProper starts) (w : State) (kept : AreSessionsKept starts says w) (s : ℕ) → is_some (slice_get w.sessions s) ≡ true → is_attached w.past s ≡ false → ((k : ℕ) → is_stopped w.past k ≡ false) → has_left w.past s ≡ false
    → option_map (λ pin. pin.base) (pin_of (memory_of w s) s) ≡ base_of w.past s
pin_base starts says proper w kept s there detached going stays = by (has_login w.past s) refl
  where
    on : is_stopped_under w.sessions w.past s ≡ false
    on = none_stopped w.sessions w.past going s

    by : (b : Bool) → has_login w.past s ≡ b → base_of_pin (pin_of (memory_of w s) s) ≡ base_of w.past s
    by true login = let p = pin_there starts says proper w kept s on login stays in ap base_of_pin p.1 ∙ (ap Some p.2 ∙ sym (p.3 detached))
    by false new =
        its_base starts says proper w kept s there (node_alive starts says proper w kept s there on)
        ∙ (ap (λ (b : Bool). cond (b && not (has_left w.past s)) (pinned_at w.past s) None) new
        ∙ sym (no_base starts says w.clusters w.sessions w.begin w.past s kept.run new detached))

module _ (starts : Starts) (says : Says) (proper : StartsProper starts) (w : State) (kept : IsKept starts says w) (s : ℕ) (there : is_some (slice_get w.sessions s) ≡ true) (going : (k : ℕ) → is_stopped w.past k ≡ false) where
  on : is_stopped_under w.sessions w.past s ≡ false
  on = none_stopped w.sessions w.past going s

  -- attached or not
  abbrev at : Bool → Option Pin
  at b = cond b (reader_pin w.table s) (pin_of (memory_of w s) s)

  -- where the session hasn't left, it is at its base
  pub actor_base : has_left w.past s ≡ false → option_map (λ pin. pin.base) (actor_pin w s) ≡ base_of w.past s
  actor_base stays = by (is_attached w.past s) refl
    where
      by : (b : Bool) → is_attached w.past s ≡ b → base_of_pin (at b) ≡ base_of w.past s
      by true is = reader_base starts says proper w kept s is on
      by false is = pin_base starts says proper w kept.sessions s there is going stays

  -- a session that has come has one
  pub actor_there : has_login w.past s ≡ true → has_left w.past s ≡ false → IsSome (actor_pin w s)
  actor_there login stays = by (is_attached w.past s) refl
    where
      by : (b : Bool) → is_attached w.past s ≡ b → IsSome (at b)
      by true is = reader_there starts says proper w kept s is on
      by false is = subst (λ (o : Option Pin). IsSome o) (sym (pin_there starts says proper w kept.sessions s on login stays).1) refl

  module _ (pin : Pin) (has : actor_pin w s ≡ Some pin) where
    pair : IsPair pin.base pin.sweep
    pair = by (is_attached w.past s) refl has
      where
        by : (b : Bool) → is_attached w.past s ≡ b → at b ≡ Some pin → IsPair pin.base pin.sweep
        by true is h = reader_pair starts says proper w kept s is pin h
        by false is h = its_pair starts says proper w kept.sessions s there pin h

    above : IsAboveBounds (origin w) w.past pin
    above = by (is_attached w.past s) refl has
      where
        by : (b : Bool) → is_attached w.past s ≡ b → at b ≡ Some pin → IsAboveBounds (origin w) w.past pin
        by true is h = reader_above starts says proper w kept s is pin h
        by false is h = pin_above starts says proper w kept s there pin h

    held : IsHeld w.begin w.past pin.base
    held = by (is_attached w.past s) refl has
      where
        by : (b : Bool) → is_attached w.past s ≡ b → at b ≡ Some pin → IsHeld w.begin w.past pin.base
        by true is h = (sound_run w.clusters w.sessions kept.sessions.nodes w.begin starts says w.past kept.sessions.run).bases s pin.base (reader_based starts says proper w kept s is pin h)
        by false is h = pin_held starts says proper w kept.sessions s there pin h

    pub actor_below : is_below pin.sweep pin.base ≡ true
    actor_below = pair_below pin pair

    pub actor_settled : IsSettled w.past pin.base
    actor_settled = held_settled w.begin w.past pin.base held

    pub actor_closed : IsClosed w.past pin.base
    actor_closed = closed_run w.clusters w.sessions kept.sessions.nodes w.begin starts says w.past kept.sessions.run pin.base held

    pub actor_shows : (p : Path) → found_node (documents_in w.table.documents) pin.sweep pin.base p ≡ node_at (tree_at w.begin w.past pin.base) p
    actor_shows p = pair_shows starts says w kept.sessions pin held pair above p
