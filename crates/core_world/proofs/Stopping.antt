-- A cluster node is stopped.
use Rattle.std.proofs.Common.{◌≡◌, ◌≤◌, ℕ, Bool, true, false, cond, not, ◌||◌, Some, None, Option, List, [], ◌∷◌, is_some, refl, sym, ap, subst, ◌∙◌, arith}
use Rattle.std.specs.Prelude.{◌==◌, slice_get}
use Rattle.std.specs.Option.{option_map_or}
use Rattle.std.proofs.lemmas.Bool.Decides.{nat_tests}
use mathlib.Core.Bool.{false≢true}
use Rattle.jr_rev.specs.declared.vector.Pin.{Pin}
use Rattle.oak_machine.specs.declared.event.Event.{Event}
use Rattle.oak_machine.specs.declared.event.Event.TheVariants as event
use Rattle.oak_machine.specs.History.{Past}
use Rattle.oak_machine.specs.Laws.{Says, Starts, StartsProper}
use Rattle.oak_machine.specs.Runs.{IsNode, IsRunOf}
use Rattle.oak_machine.specs.Sessions.{has_left, is_attached, is_drawing, is_stopped, is_stopped_under, has_login}
use Rattle.oak_node.specs.Memory.{NodeState}
use Rattle.oak_node.specs.Pins.{pin_of}
use Rattle.oak_node.specs.Stops.{with_stop}
use Rattle.oak_read.specs.Meaning.{documents_in}
use Rattle.core_keep.specs.Holding.{IsHoldingStep}
use Rattle.core_clash.specs.Sessions.{Running}
use Rattle.core_clash.proofs.Finished.{event_keeps}
use Rattle.core_nodes.specs.Nodes.{is_of_node}
use Rattle.core_nodes.proofs.Events.{apart_run}
use Rattle.core_nodes.proofs.Pins.{pins_kept}
use Rattle.core_nodes.proofs.Recovering.{stop_kept}
use Rattle.core_world.specs.Held.{holding_in}
use Rattle.core_world.specs.Kept.{AreAtWork, AreCommitting, AreLayersKept, AreMemories, AreReading, AreSessionsKept, IsKept, IsPinned, has_written, AreObserving}
use Rattle.core_world.specs.States.{State, core_in, memory_at, node_of, reader_pin, with_memory, origin}
use Rattle.core_world.specs.Steps.{after_stop, without_node}
use Rattle.core_world.proofs.Commits.{on_its_node}
use Rattle.core_world.proofs.Held.{IsMemoryStep, holding, memory_still, same_kept}
use Rattle.core_world.proofs.Lives.{its_node, reader_login, reads_calm, session_there, observer_login}
use Rattle.core_world.proofs.Memories.{at_memory, step_on}
use Rattle.core_world.proofs.Roots.{root_quiet}
use Rattle.core_world.proofs.Setting.{settings_quiet}
use Rattle.core_world.proofs.Whole.{goes, layers_of}
use Rattle.core_world.proofs.Letting.{lets_calm}
use Rattle.core_world.proofs.Observers.{between_on, still_tells}
use Rattle.core_begun.proofs.Events.{kept_idle}

never : {A : Type 0} → false ≡ true → A
never h = absurd (false≢true h)

turned : (m k : ℕ) → (k == m) ≡ false → (m == k) ≡ false
turned m k h = grind (arith, nat_tests)

-- ---- what is left

module _ {X : Type 0} (sessions : List ℕ) (k : ℕ) (has : ℕ → Option X) where
  pub left_over : (s : ℕ) (x : X) → without_node sessions k has s ≡ Some x → (is_of_node sessions k s ≡ false) × (has s ≡ Some x)
  left_over s x h = by (is_of_node sessions k s) refl h
    where
      by : (b : Bool) → is_of_node sessions k s ≡ b → cond b None (has s) ≡ Some x → (is_of_node sessions k s ≡ false) × (has s ≡ Some x)
      by true e i = never (ap is_some i)
      by false e i = (e, i)

  none_left : (s : ℕ) → without_node sessions k has s ≡ None → is_of_node sessions k s ≡ false → has s ≡ None
  none_left s h other = sym (ap (λ b. cond b None (has s)) other) ∙ h

-- ---- whose node was stopped

module _ (sessions : List ℕ) (past : Past) (k s : ℕ) where
  neither : (a b : Bool) → (a || b) ≡ false → (a ≡ false) × (b ≡ false)
  neither true b h = never (sym h)
  neither false b h = (refl, h)

  -- a session that goes on behind a stop went on before, and is of another node
  went_on : is_stopped_under sessions (event.Stop k ∷ past) s ≡ false → (is_stopped_under sessions past s ≡ false) × (is_of_node sessions k s ≡ false)
  went_on h = by (slice_get sessions s) h
    where
      by : (o : Option ℕ) → option_map_or (is_stopped (event.Stop k ∷ past)) o false ≡ false → (option_map_or (is_stopped past) o false ≡ false) × (option_map_or (λ m. m == k) o false ≡ false)
      by None i = (refl, refl)
      by (Some m) i = let n = neither (k == m) (is_stopped past m) i in (n.1, turned m k n.0)

  goes_on : is_of_node sessions k s ≡ false → is_stopped_under sessions past s ≡ false → is_stopped_under sessions (event.Stop k ∷ past) s ≡ false
  goes_on other h = by (slice_get sessions s) other h
    where
      by : (o : Option ℕ) → option_map_or (λ m. m == k) o false ≡ false → option_map_or (is_stopped past) o false ≡ false → option_map_or (is_stopped (event.Stop k ∷ past)) o false ≡ false
      by None f i = refl
      by (Some m) f i = ap (λ b. b || is_stopped past m) (turned k m f) ∙ i

module _ (starts : Starts) (says : Says) (proper : StartsProper starts) (w : State) (k : ℕ) (node : IsNode w.clusters k) (first : is_stopped w.past k ≡ false) where
  abbrev e : Event
  e = event.Stop k

  module _ (kept : AreSessionsKept starts says w) where
    run : IsRunOf starts says w.clusters w.sessions w.begin (event.Stop k ∷ w.past)
    run = (first, kept.run)

    -- the node of a committer that is left is another
    apart : (s : ℕ) (x : Running) → w.running s ≡ Some x → is_of_node w.sessions k s ≡ false → (k == x.draw.revision.cluster) ≡ false
    apart s x here other = turned k x.draw.revision.cluster (sym (ap (λ o. option_map_or (λ m. m == k) o false) (on_its_node starts says proper w kept s x here)) ∙ other)

    committing : AreCommitting (origin w) (event.Stop k ∷ w.past) w.table (without_node w.sessions k w.running)
    committing = record {
      writers = kept.committing.writers;
      sound = event_keeps (core_in (origin w) w.past w.table kept.committing.writers) (event.Stop k) refl kept.committing.sound;
      theirs = λ s x h.
          let l = left_over w.sessions k w.running s x h in
          let its = kept.committing.theirs s x l.1 in
          record { session = its.session; draw = its.draw; unended = its.unended; committed = its.committed; writer = its.writer };
      listed = λ s x h. kept.committing.listed s x (left_over w.sessions k w.running s x h).1;
      kept = kept_idle (origin w) (documents_in w.table.documents) w.past (λ r. has_written (kept.committing.writers r)) (event.Stop k) refl kept.committing.kept;
      unstopped = λ s x h.
          let l = left_over w.sessions k w.running s x h in
          ap (λ b. b || is_stopped w.past x.draw.revision.cluster) (apart s x l.1 l.0) ∙ kept.committing.unstopped s x l.1;
    }

    halted : (s : ℕ) → (b : Bool) → is_stopped_under w.sessions w.past s ≡ b → (o : Option Running) → w.running s ≡ o → is_drawing w.past s ≡ true → has_left w.past s ≡ false
    halted s true stopped o e drawing = kept.working.halted s stopped drawing
    halted s false on None e drawing = never (sym (kept.working.idle s e on) ∙ drawing)
    halted s false on (Some x) e drawing = kept.working.stays s x e

    working : AreAtWork w.sessions (event.Stop k ∷ w.past) (without_node w.sessions k w.running) (without_node w.sessions k w.reading)
    working = record {
      idle = λ s h on. let o = went_on w.sessions w.past k s on in kept.working.idle s (none_left w.sessions k w.running s h o.1) o.0;
      stays = λ s x h. kept.working.stays s x (left_over w.sessions k w.running s x h).1;
      goes = λ s x h. let l = left_over w.sessions k w.running s x h in goes_on w.sessions w.past k s l.0 (kept.working.goes s x l.1);
      reads = λ s r h. let l = left_over w.sessions k w.reading s r h in goes_on w.sessions w.past k s l.0 (kept.working.reads s r l.1);
      halted = λ s stopped drawing. halted s (is_stopped_under w.sessions w.past s) refl (w.running s) refl drawing;
    }

    memories : AreMemories w.begin w.clusters w.sessions (event.Stop k ∷ w.past) (with_memory w.memories k (with_stop (memory_at w.memories k)))
    memories = step_on starts says w.clusters w.sessions w.begin kept.nodes w.past w.memories kept.memories k node (with_stop (memory_at w.memories k)) (event.Stop k ∷ w.past)
        (stop_kept w.begin w.clusters w.past k (memory_at w.memories k) (kept.memories.memory k node))
        (let has = kept.memories.pins k node in record { bases = has.bases; pairs = has.pairs })
        (λ j on h. apart_run w.begin starts says w.clusters w.sessions kept.nodes (event.Stop k) w.past j (memory_at w.memories j) run (ap not (turned k j h)) (kept.memories.memory j on))
        (λ j on h. pins_kept w.sessions w.past j (memory_at w.memories j) (kept.memories.pins j on) (event.Stop k) refl)
        (kept.memories.changes k node)
        (λ j on h. kept.memories.changes j on)

    readers : AreReading (origin w) (event.Stop k ∷ w.past) w.table w.formers (without_node w.sessions k w.reading)
    readers =
        let all = reads_calm starts says proper w kept (event.Stop k) (λ q. refl) refl (λ s r h. refl) in
        record {
          told = all.told;
          reads = λ s r h. all.reads s r (left_over w.sessions k w.reading s r h).1;
          above = λ s r h. all.above s r (left_over w.sessions k w.reading s r h).1;
          at_base = λ s r h. all.at_base s r (left_over w.sessions k w.reading s r h).1;
          pairs = λ s r h. all.pairs s r (left_over w.sessions k w.reading s r h).1;
        }

    observers : AreObserving (origin w) w.sessions (event.Stop k ∷ w.past) w.table w.formers (without_node w.sessions k w.observing)
    observers = record {
      goes = λ s r h. let l = left_over w.sessions k w.observing s r h in goes_on w.sessions w.past k s l.0 (kept.observers.goes s r l.1);
      apart = λ s r h. kept.observers.apart s r (left_over w.sessions k w.observing s r h).1;
      between = λ s r h. between_on starts says w.clusters w.sessions w.begin kept.nodes w.past (event.Stop k) s r refl (λ o. refl) (λ o. refl) (kept.observers.between s r (left_over w.sessions k w.observing s r h).1);
      tells = λ s r h. let here = (left_over w.sessions k w.observing s r h).1 in still_tells starts says w.clusters w.sessions w.begin kept.nodes proper w.past (event.Stop k) run w.table w.table w.formers w.formers w.observing kept.observers
          (λ q y i. between_on starts says w.clusters w.sessions w.begin kept.nodes w.past (event.Stop k) q y refl (λ o. refl) (λ o. refl) (kept.observers.between q y i))
          (λ q. has_written (committing.writers q)) committing.kept ((lets_calm (origin w) w.table w.past (λ q. has_written (kept.committing.writers q)) kept.committing.kept (event.Stop k) (λ q. refl) refl).observes w.formers) s r here;
    }

    pub stop_sessions : AreSessionsKept starts says (after_stop w k)
    stop_sessions = record { nodes = kept.nodes; run = run; committing = committing; working = working; memories = memories; readers = readers; observers = observers }

  module _ (kept : AreLayersKept starts says w) where
    pub stop_layers : AreLayersKept starts says (after_stop w k)
    stop_layers = record {
      sessions = stop_sessions kept.sessions;
      root = root_quiet w.clusters w.begin w.past w.table (event.Stop k) refl kept.root;
      settings = settings_quiet w.sessions w.past w.table w.table (event.Stop k) refl refl kept.settings;
    }

    within : (P : NodeState → NodeState → Type 0) → (j : ℕ) → IsNode w.clusters j → P (memory_at w.memories k) (with_stop (memory_at w.memories k)) → P (memory_at w.memories j) (memory_at w.memories j) → P (memory_at w.memories j) (memory_at (after_stop w k).memories j)
    within P j on here there = at_memory (λ (i : ℕ) (x : NodeState). P (memory_at w.memories i) x) w.memories k (with_stop (memory_at w.memories k)) j node.0 (subst (λ (n : ℕ). k ≤ n) (sym kept.sessions.memories.counted) node.1) on.0 here (λ f. there)

    pub stop_rises : IsHoldingStep (holding_in w) (holding_in (after_stop w k))
    stop_rises = holding starts says proper w kept (after_stop w k) stop_layers (event.Stop k ∷ []) refl refl refl refl
        (λ j on. within IsMemoryStep j on (memory_still _ _ refl refl) (memory_still _ _ refl refl))
        (same_kept starts says proper w kept w.table refl)

    pub stop_pinned : IsPinned w → IsPinned (after_stop w k)
    stop_pinned pinned = record {
      reads = λ s r h.
          let here = (left_over w.sessions k w.reading s r h).1 in
          ap (λ (o : Option Pin). cond (is_attached w.past s) (reader_pin w.table s) o) (own s (reader_login starts says proper w kept.sessions s r here)) ∙ pinned.reads s r here;
      observes = λ s r h. let here = (left_over w.sessions k w.observing s r h).1 in own s (observer_login starts says proper w kept.sessions s r here) ∙ pinned.observes s r here;
    }
      where
        own : (s : ℕ) → has_login w.past s ≡ true → pin_of (memory_at (after_stop w k).memories (node_of w s)) s ≡ pin_of (memory_at w.memories (node_of w s)) s
        own s login = within (λ a b. pin_of b s ≡ pin_of a s) (node_of w s) (its_node starts says proper w kept.sessions s (session_there starts says proper w kept.sessions s login)) refl refl

  -- a stop keeps the world
  pub stop_whole : IsKept starts says w → IsKept starts says (after_stop w k)
  stop_whole kept =
      let layers = layers_of starts says w kept in
      goes starts says proper w kept (after_stop w k) refl refl (stop_layers layers) (λ r. refl) (λ r. refl) (stop_rises layers) (stop_pinned layers kept.pinned)
