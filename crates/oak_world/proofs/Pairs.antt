-- Each pair that is held shows the journal's tree: pins of sessions and of their cursors, and what the settings keep.
use mathlib.Core.Bool.{false≢true}
use Rattle.std.proofs.Common.{◌≡◌, ◌⊎◌, inl, inr, ℕ, Bool, true, false, not, ◌&&◌, cond, Option, Some, None, List, [], ◌∷◌, is_some, sym, ap, ◌∙◌}
use Rattle.std.specs.Prelude.{◌==◌}
use Rattle.std.specs.BTreeMap.{is_at}
use Rattle.std.specs.Map.{lookup, values_of}
use Rattle.std.specs.Option.{option_and_then}
use Rattle.std.specs.Ordering.{nat_cmp}
use Rattle.jr_path.specs.Lists.{Text}
use Rattle.jr_path.specs.Names.{name_cmp}
use Rattle.jr_rev.specs.declared.vector.Pin.{Pin}
use Rattle.jr_rev.specs.declared.vector.RevVec.{RevVec}
use Rattle.oak_doc.specs.declared.document.Document.{Document}
use Rattle.oak_machine.specs.declared.event.Event.TheVariants as event
use Rattle.oak_machine.specs.declared.event.StepKind.TheVariants as kind
use Rattle.oak_machine.specs.History.{Past, Begin}
use Rattle.oak_machine.specs.Laws.{Says, Starts, StartsProper}
use Rattle.oak_machine.specs.Runs.{AreNodes, IsNode, IsRunOf}
use Rattle.oak_machine.specs.Sessions.{cursor_at, has_left, has_login, is_stopped, kept_checkpoint, last_checkpoint, pinned_at, session_base}
use Rattle.oak_node.specs.Pins.{pin_of}
use Rattle.core_heads.specs.Sound.{IsHeld}
use Rattle.core_heads.proofs.Later.{held_kept}
use Rattle.core_heads.proofs.Runs.{closed_run, held_settled, kept_last, later_run, sound_run}
use Rattle.core_nodes.specs.Nodes.{IsCursorAt, IsPair, IsPinnedAt, base_of_pin}
use Rattle.core_nodes.proofs.Pins.{pinned}
use Rattle.core_read.specs.Told.{IsIn}
use Rattle.core_world.specs.Kept.{AreLayersKept, IsAboveBounds, IsKept, reader_at}
use Rattle.core_world.specs.States.{State, memory_at, reader_pin, origin}
use Rattle.core_world.proofs.Held.{found_in, in_back, in_front, kept_now, pins_alive, takes_part}
use Rattle.core_world.proofs.Readers.{pinned_held}
use Rattle.core_world.proofs.Whole.{layers_of}
use Rattle.oak_step.specs.Upkeeps.{set_checkpoint}
use Rattle.oak_world.specs.Pairs.{ShowsTree}
use Rattle.oak_world.proofs.StepsOf.{none_stopped}
use Rattle.oak_world.proofs.Sweeping.{pair_below, pair_shows}

-- ---- what is held

-- the vector of a cursor, which was its session's then
module _ (starts : Starts) (says : Says) (clusters : ℕ) (sessions : List ℕ) (begin : Begin) (nodes : AreNodes clusters sessions) where
  based_held : (past : Past) → IsRunOf starts says clusters sessions begin past → (s : ℕ) (v : RevVec) → session_base past s ≡ Some v → IsHeld begin past v
  based_held past run s v h = by (has_login past s) (has_left past s) h
    where
      by : (a b : Bool) → cond (a && not b) (pinned_at past s) None ≡ Some v → IsHeld begin past v
      by false b k = absurd (false≢true (ap is_some k))
      by true true k = absurd (false≢true (ap is_some k))
      by true false k = pinned_held starts says clusters sessions begin nodes past run s v k

  cursor_held : (past : Past) → IsRunOf starts says clusters sessions begin past → (s : ℕ) (v : RevVec) → cursor_at past s ≡ Some v → IsHeld begin past v
  cursor_held [] run s v h = absurd (false≢true (ap is_some h))
  cursor_held (event.Went t kind.Pin ∷ past) run s v h = held_kept clusters begin past (event.Went t kind.Pin ∷ past) (later_run clusters sessions nodes begin starts says (event.Went t kind.Pin) past run) v (by (cursor_held past run.1 s v) (t == s) h)
    where
      by : (cursor_at past s ≡ Some v → IsHeld begin past v) → (b : Bool) → cond b (session_base past s) (cursor_at past s) ≡ Some v → IsHeld begin past v
      by rest true k = based_held past run.1 s v k
      by rest false k = rest k
  cursor_held (event.Went t kind.End ∷ past) run s v h = held_kept clusters begin past (event.Went t kind.End ∷ past) (later_run clusters sessions nodes begin starts says (event.Went t kind.End) past run) v (by (cursor_held past run.1 s v) (t == s) h)
    where
      by : (cursor_at past s ≡ Some v → IsHeld begin past v) → (b : Bool) → cond b None (cursor_at past s) ≡ Some v → IsHeld begin past v
      by rest true k = absurd (false≢true (ap is_some k))
      by rest false k = rest k
  cursor_held (e ∷ past) run s v h = held_kept clusters begin past (e ∷ past) (later_run clusters sessions nodes begin starts says e past run) v (cursor_held past run.1 s v h)

  -- the vector of an attached session's reader
  reader_held : (past : Past) → IsRunOf starts says clusters sessions begin past → (s : ℕ) (v : RevVec) → reader_at past s ≡ Some v → IsHeld begin past v
  reader_held [] run s v h = absurd (false≢true (ap is_some h))
  reader_held (event.Attach t id ∷ past) run s v h = held_kept clusters begin past (event.Attach t id ∷ past) (later_run clusters sessions nodes begin starts says (event.Attach t id) past run) v (by (reader_held past run.1 s v) (t == s) h)
    where
      by : (reader_at past s ≡ Some v → IsHeld begin past v) → (b : Bool) → cond b (last_checkpoint past id) (reader_at past s) ≡ Some v → IsHeld begin past v
      by rest true k = (sound_run clusters sessions nodes begin starts says past run.1).kept id v k
      by rest false k = rest k
  reader_held (event.Detach t ∷ past) run s v h = held_kept clusters begin past (event.Detach t ∷ past) (later_run clusters sessions nodes begin starts says (event.Detach t) past run) v (by (reader_held past run.1 s v) (t == s) h)
    where
      by : (reader_at past s ≡ Some v → IsHeld begin past v) → (b : Bool) → cond b None (reader_at past s) ≡ Some v → IsHeld begin past v
      by rest true k = absurd (false≢true (ap is_some k))
      by rest false k = rest k
  reader_held (e ∷ past) run s v h = held_kept clusters begin past (e ∷ past) (later_run clusters sessions nodes begin starts says e past run) v (reader_held past run.1 s v h)

-- ---- the pairs of a world

module _ (starts : Starts) (says : Says) (proper : StartsProper starts) (w : State) (kept : IsKept starts says w) where
  shows : (x : Pin) → IsHeld w.begin w.past x.base → IsPair x.base x.sweep → IsAboveBounds (origin w) w.past x → ShowsTree w.begin w.past w.table x
  shows x held pair above = record {
    below = pair_below x pair;
    settled = held_settled w.begin w.past x.base held;
    closed = closed_run w.clusters w.sessions kept.sessions.nodes w.begin starts says w.past kept.sessions.run x.base held;
    shown = λ p. pair_shows starts says w kept.sessions x held pair above p;
  }

  -- a pin of a session or of a cursor
  pub pin_tree : (k owner : ℕ) (x : Pin) → IsNode w.clusters k → pin_of (memory_at w.memories k) owner ≡ Some x → ShowsTree w.begin w.past w.table x
  pin_tree k owner x node has = shows x (by (pinned w.sessions w.past k (memory_at w.memories k) (kept.sessions.memories.pins k node) owner x has)) ((kept.sessions.memories.pins k node).pairs owner x has)
      (kept.above.pins k (takes_part starts says proper w layers k node (pins_alive starts says proper w layers k node x among)) x among)
    where
      layers : AreLayersKept starts says w
      layers = layers_of starts says w kept

      among : IsIn x (values_of (memory_at w.memories k).pins)
      among = found_in (is_at (nat_cmp owner)) (memory_at w.memories k).pins x has

      by : IsPinnedAt w.sessions w.past k owner x.base ⊎ IsCursorAt w.sessions w.past k owner x.base → IsHeld w.begin w.past x.base
      by (inl p) = pinned_held starts says w.clusters w.sessions w.begin kept.sessions.nodes w.past kept.sessions.run owner x.base p.base
      by (inr c) = cursor_held starts says w.clusters w.sessions w.begin kept.sessions.nodes w.past kept.sessions.run c.session x.base c.base

  -- what the settings have
  set_is : (i : Text) → set_checkpoint w.table i ≡ lookup (is_at (name_cmp i)) kept.settings.document.checkpoints
  set_is i = ap (λ (o : Option Document). option_and_then (λ d. lookup (is_at (name_cmp i)) d.checkpoints) o) kept.settings.there

  read_is : (s : ℕ) → reader_pin w.table s ≡ lookup (is_at (nat_cmp s)) kept.settings.document.readers
  read_is s = ap (λ (o : Option Document). option_and_then (λ d. lookup (is_at (nat_cmp s)) d.readers) o) kept.settings.there

  -- a checkpoint
  pub checkpoint_tree : (i : Text) (x : Pin) → set_checkpoint w.table i ≡ Some x → ShowsTree w.begin w.past w.table x
  checkpoint_tree i x has =
      let here : lookup (is_at (name_cmp i)) kept.settings.document.checkpoints ≡ Some x = sym (set_is i) ∙ has in
      shows x
      ((sound_run w.clusters w.sessions kept.sessions.nodes w.begin starts says w.past kept.sessions.run).kept i x.base (kept_last w.past i x.base (sym (kept.settings.checkpoints i) ∙ ap base_of_pin here)))
      (kept.settings.checkpoint_pairs i x here)
      (kept.above.kept x (kept_now starts says proper w (layers_of starts says w kept) x (in_front x (values_of kept.settings.document.checkpoints) (values_of kept.settings.document.readers)
      (found_in (is_at (name_cmp i)) kept.settings.document.checkpoints x here))))

  -- the reader of an attached session
  pub reader_tree : (s : ℕ) (x : Pin) → reader_pin w.table s ≡ Some x → ShowsTree w.begin w.past w.table x
  reader_tree s x has =
      let here : lookup (is_at (nat_cmp s)) kept.settings.document.readers ≡ Some x = sym (read_is s) ∙ has in
      shows x
      (reader_held starts says w.clusters w.sessions w.begin kept.sessions.nodes w.past kept.sessions.run s x.base (kept.settings.only s x here))
      (kept.settings.reader_pairs s x here)
      (kept.above.kept x (kept_now starts says proper w (layers_of starts says w kept) x (in_back x (values_of kept.settings.document.checkpoints) (values_of kept.settings.document.readers)
      (found_in (is_at (nat_cmp s)) kept.settings.document.readers x here))))

  -- ---- what the settings have by the journal

  pub checkpoints_are : (i : Text) → base_of_pin (set_checkpoint w.table i) ≡ kept_checkpoint w.past i
  checkpoints_are i = ap base_of_pin (set_is i) ∙ kept.settings.checkpoints i

  pub readers_are : ((k : ℕ) → is_stopped w.past k ≡ false) → (s : ℕ) → base_of_pin (reader_pin w.table s) ≡ reader_at w.past s
  readers_are going s = ap base_of_pin (read_is s) ∙ kept.settings.readers s (none_stopped w.sessions w.past going s)
