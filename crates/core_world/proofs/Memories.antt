-- The memories of all cluster nodes, after a step on one of them.
use Rattle.std.proofs.Common.{◌≡◌, ℕ, ◌-◌, ◌≤◌, Bool, true, false, not, ◌⊎◌, inl, inr, Some, List, [], ◌∷◌, length, refl, sym, ap, subst, ◌∙◌, arith, None}
use Rattle.std.proofs.Math.ListN.{get_or}
use Rattle.std.proofs.lemmas.List.{get_or-set_same, get_or-set_other, length-set}
use Rattle.std.proofs.lemmas.Option.{unwrap_or-slice_get}
use Rattle.std.specs.Prelude.{◌==◌, ◌≢◌, drop, slice_get}
use Rattle.std.specs.BTreeMap.{is_at}
use Rattle.std.specs.Map.{lookup}
use Rattle.std.specs.Ordering.{nat_cmp}
use Rattle.jr_rev.specs.declared.vector.Pin.{Pin}
use Rattle.std.specs.Option.{option_map_or}
use Rattle.jr_path.specs.declared.path.Path.{Path}
use Rattle.jr_rev.specs.declared.revision.Revision.{Revision}
use Rattle.jr_rev.specs.declared.vector.RevVec.{RevVec}
use Rattle.jr_rev.specs.Vectors.{no_entries, sees, start_of}
use Rattle.oak_clash.specs.Clashes.{marked_paths}
use Rattle.oak_machine.specs.declared.event.Draw.{Draw}
use Rattle.oak_machine.specs.declared.event.Event.{Event}
use Rattle.oak_machine.specs.declared.event.Event.TheVariants as event
use Rattle.oak_machine.specs.declared.event.StepKind.TheVariants as kind
use Rattle.oak_machine.specs.History.{Past, Begin}
use Rattle.oak_machine.specs.Laws.{Says, Starts}
use Rattle.oak_machine.specs.Runs.{AreNodes, IsNode, IsRunOf}
use Rattle.oak_machine.specs.Sessions.{has_left, is_stopped}
use Rattle.oak_node.specs.Heads.{finished, learned, next_draw, with_draw}
use Rattle.oak_node.specs.Memory.{NodeState, begun, last_draw}
use Rattle.oak_node.specs.Notes.{with_note, without_seen}
use Rattle.oak_node.specs.Pins.{pin_now, pin_of, with_pin}
use Rattle.oak_node.proofs.Noting.{drawn_last}
use Rattle.oak_node.proofs.Places.{insert_sorted, remove_sorted}
use Rattle.core_nodes.specs.Nodes.{ArePinsOf, IsMemoryOf, IsOnRoot, KeepsChanges, base_of_pin, cursor_owner, draws_nothing, is_of_node, leaves_memory, leaves_pins, without_session}
use Rattle.oak_machine.specs.Heads.{local}
use Rattle.core_read.proofs.Latest.{at_most_trans}
use Rattle.core_heads.proofs.Below.{raised_stands}
use Rattle.core_heads.proofs.Entries.{raised_length, raised_sees, seen_raised}
use Rattle.core_heads.proofs.Locals.{head_own}
use Rattle.core_heads.proofs.Runs.{sound_run}
use Rattle.jr_rev.specs.Revisions.{is_at_most}
use Rattle.core_nodes.proofs.Changes.{apart_changes, drawn_changes, dropped_changes}
use Rattle.core_nodes.proofs.Learning.{learn_run}
use Rattle.core_nodes.proofs.Events.{apart_run, draw_run, drop_kept, end_run, leave_run, login_run, note_kept, refresh_run}
use Rattle.core_nodes.proofs.Pins.{cursor_put, pins_kept}
use Rattle.core_world.specs.States.{memory_at, with_memory}
use Rattle.core_world.specs.Steps.{after_notes, pinned, swept_to}
use Rattle.core_world.specs.Kept.{AreMemories}
use Rattle.core_world.proofs.Flights.{other_number, same_number}

-- ---- one memory is set

pub read_at : (ms : List NodeState) (k : ℕ) → memory_at ms k ≡ get_or ms (k - 1) (begun k no_entries)
read_at ms k = unwrap_or-slice_get ms (k - 1) (begun k no_entries)

pub set_here : (ms : List NodeState) (k : ℕ) (m : NodeState) → 1 ≤ k → k ≤ length ms → memory_at (with_memory ms k m) k ≡ m
set_here ms k m low high = read_at (with_memory ms k m) k ∙ get_or-set_same ms (k - 1) m (begun k no_entries) (omega arith)

apart_places : (j k : ℕ) → 1 ≤ j → 1 ≤ k → (j == k) ≡ false → j - 1 ≢ k - 1
apart_places j k lj lk h e = other_number j k h (omega arith)

set_there : (ms : List NodeState) (k : ℕ) (m : NodeState) (j : ℕ) → 1 ≤ k → 1 ≤ j → (j == k) ≡ false → memory_at (with_memory ms k m) j ≡ memory_at ms j
set_there ms k m j lk lj h = read_at (with_memory ms k m) j ∙ (get_or-set_other ms (k - 1) (j - 1) m (begun j no_entries) (apart_places j k lj lk h) ∙ sym (read_at ms j))

-- what holds of the memory that is set and of the others holds of each
pub at_memory : (P : ℕ → NodeState → Type 0) (ms : List NodeState) (k : ℕ) (m : NodeState) (j : ℕ) → 1 ≤ k → k ≤ length ms → 1 ≤ j → P k m → ((j == k) ≡ false → P j (memory_at ms j)) → P j (memory_at (with_memory ms k m) j)
at_memory P ms k m j lk hk lj here there = by (j == k) refl
  where
    by : (b : Bool) → (j == k) ≡ b → P j (memory_at (with_memory ms k m) j)
    by true h = subst (λ (n : ℕ). P n (memory_at (with_memory ms k m) n)) (sym (same_number j k h)) (subst (P k) (sym (set_here ms k m lk hk)) here)
    by false h = subst (P j) (sym (set_there ms k m j lk lj h)) (there h)

-- an event that leaves the memory of a cluster node draws nothing of the node
draws_none : (k : ℕ) (e : Event) → leaves_memory k e ≡ true → draws_nothing k e ≡ true
draws_none k (event.Draw d) leaves = leaves
draws_none k e leaves = refl

module _ (starts : Starts) (says : Says) (clusters : ℕ) (sessions : List ℕ) (begin : Begin) (nodes : AreNodes clusters sessions) (past : Past) (ms : List NodeState) (are : AreMemories begin clusters sessions past ms) where
  -- a step on the memory of cluster node k
  pub step_on : (k : ℕ) → IsNode clusters k → (m : NodeState) (later : Past) → IsMemoryOf begin clusters later k m → ArePinsOf sessions later k m
      → ((j : ℕ) → IsNode clusters j → (j == k) ≡ false → IsMemoryOf begin clusters later j (memory_at ms j))
      → ((j : ℕ) → IsNode clusters j → (j == k) ≡ false → ArePinsOf sessions later j (memory_at ms j))
      → KeepsChanges later k m
      → ((j : ℕ) → IsNode clusters j → (j == k) ≡ false → KeepsChanges later j (memory_at ms j))
      → AreMemories begin clusters sessions later (with_memory ms k m)
  step_on k node m later memory pins memories all_pins changes all_changes = record {
    counted = length-set ms (k - 1) m ∙ are.counted;
    memory = λ j of. at_memory (λ i x. IsMemoryOf begin clusters later i x) ms k m j node.0 within of.0 memory (memories j of);
    pins = λ j of. at_memory (λ i x. ArePinsOf sessions later i x) ms k m j node.0 within of.0 pins (all_pins j of);
    changes = λ j of. at_memory (λ i x. KeepsChanges later i x) ms k m j node.0 within of.0 changes (all_changes j of);
  }
    where
      within : k ≤ length ms
      within = subst (λ (n : ℕ). k ≤ n) (sym are.counted) node.1

  -- an event that leaves all memories
  pub aside : (e : Event) → IsRunOf starts says clusters sessions begin (e ∷ past) → ((j : ℕ) → leaves_memory j e ≡ true) → ((j : ℕ) → leaves_pins sessions j e ≡ true) → AreMemories begin clusters sessions (e ∷ past) ms
  aside e run leaves leaves_all = record {
    counted = are.counted;
    memory = λ j of. apart_run begin starts says clusters sessions nodes e past j (memory_at ms j) run (leaves j) (are.memory j of);
    pins = λ j of. pins_kept sessions past j (memory_at ms j) (are.pins j of) e (leaves_all j);
    changes = λ j of. apart_changes past e j (memory_at ms j) (draws_none j e (leaves j)) (are.changes j of);
  }

  -- ---- the pin of a session

  module _ (s k : ℕ) (on : slice_get sessions s ≡ Some k) where
    node : IsNode clusters k
    node = nodes.node s k on

    -- a session of another node is not of this one
    of_other : (j : ℕ) → (j == k) ≡ false → not (is_of_node sessions j s) ≡ true
    of_other j h = ap (λ o. not (option_map_or (λ m. m == j) o false)) on ∙ by (k == j) refl
      where
        by : (b : Bool) → (k == j) ≡ b → not b ≡ true
        by false e = refl
        by true e = absurd (other_number j k h (sym (same_number k j e)))

    pub login_memories : (v : RevVec) → IsRunOf starts says clusters sessions begin (event.Login s v ∷ past) → AreMemories begin clusters sessions (event.Login s v ∷ past) (with_memory ms k (pinned (memory_at ms k) s))
    login_memories v run = step_on k node (pinned (memory_at ms k) s) (event.Login s v ∷ past)
        (let is = apart_run begin starts says clusters sessions nodes (event.Login s v) past k (memory_at ms k) run refl (are.memory k node) in
        Rattle.core_nodes.proofs.Events.pins_kept begin clusters (event.Login s v ∷ past) k (memory_at ms k) _ is (insert_sorted s (pin_now (memory_at ms k)) (memory_at ms k).pins is.memory.owners))
        (login_run begin starts says clusters sessions nodes past k (memory_at ms k) (are.memory k node) (are.pins k node) s v run on)
        (λ j of h. apart_run begin starts says clusters sessions nodes (event.Login s v) past j (memory_at ms j) run refl (are.memory j of))
        (λ j of h. pins_kept sessions past j (memory_at ms j) (are.pins j of) (event.Login s v) (of_other j h))
        (are.changes k node)
        (λ j of h. are.changes j of)

    pub refresh_memories : (v : RevVec) → IsRunOf starts says clusters sessions begin (event.Refresh s v ∷ past) → has_left past s ≡ false → AreMemories begin clusters sessions (event.Refresh s v ∷ past) (with_memory ms k (pinned (memory_at ms k) s))
    refresh_memories v run stays = step_on k node (pinned (memory_at ms k) s) (event.Refresh s v ∷ past)
        (let is = apart_run begin starts says clusters sessions nodes (event.Refresh s v) past k (memory_at ms k) run refl (are.memory k node) in
        Rattle.core_nodes.proofs.Events.pins_kept begin clusters (event.Refresh s v ∷ past) k (memory_at ms k) _ is (insert_sorted s (pin_now (memory_at ms k)) (memory_at ms k).pins is.memory.owners))
        (refresh_run begin starts says clusters sessions nodes past k (memory_at ms k) (are.memory k node) (are.pins k node) s v run on stays)
        (λ j of h. apart_run begin starts says clusters sessions nodes (event.Refresh s v) past j (memory_at ms j) run refl (are.memory j of))
        (λ j of h. pins_kept sessions past j (memory_at ms j) (are.pins j of) (event.Refresh s v) (of_other j h))
        (are.changes k node)
        (λ j of h. are.changes j of)

    pub leave_memories : slice_get sessions (cursor_owner s) ≡ None → IsRunOf starts says clusters sessions begin (event.Went s kind.End ∷ past) → AreMemories begin clusters sessions (event.Went s kind.End ∷ past) (with_memory ms k (without_session (memory_at ms k) s))
    leave_memories none run = step_on k node (without_session (memory_at ms k) s) (event.Went s kind.End ∷ past)
        (let is = apart_run begin starts says clusters sessions nodes (event.Went s kind.End) past k (memory_at ms k) run refl (are.memory k node) in
        Rattle.core_nodes.proofs.Events.pins_kept begin clusters (event.Went s kind.End ∷ past) k (memory_at ms k) _ is (remove_sorted (cursor_owner s) _ (remove_sorted s (memory_at ms k).pins is.memory.owners)))
        (leave_run begin clusters sessions past k (memory_at ms k) (are.memory k node) (are.pins k node) s on none)
        (λ j of h. apart_run begin starts says clusters sessions nodes (event.Went s kind.End) past j (memory_at ms j) run refl (are.memory j of))
        (λ j of h. pins_kept sessions past j (memory_at ms j) (are.pins j of) (event.Went s kind.End) (of_other j h))
        (are.changes k node)
        (λ j of h. are.changes j of)

    pub observe_memories : slice_get sessions (cursor_owner s) ≡ None → (pin : Pin) → pin_of (memory_at ms k) s ≡ Some pin → IsRunOf starts says clusters sessions begin (event.Went s kind.Pin ∷ past) → AreMemories begin clusters sessions (event.Went s kind.Pin ∷ past) (with_memory ms k (with_pin (memory_at ms k) (cursor_owner s) pin))
    observe_memories none pin has run = step_on k node (with_pin (memory_at ms k) (cursor_owner s) pin) (event.Went s kind.Pin ∷ past)
        (let is = apart_run begin starts says clusters sessions nodes (event.Went s kind.Pin) past k (memory_at ms k) run refl (are.memory k node) in
        Rattle.core_nodes.proofs.Events.pins_kept begin clusters (event.Went s kind.Pin ∷ past) k (memory_at ms k) _ is (insert_sorted (cursor_owner s) pin (memory_at ms k).pins is.memory.owners))
        (cursor_put sessions past k (memory_at ms k) (are.pins k node) s pin on none has)
        (λ j of h. apart_run begin starts says clusters sessions nodes (event.Went s kind.Pin) past j (memory_at ms j) run refl (are.memory j of))
        (λ j of h. pins_kept sessions past j (memory_at ms j) (are.pins j of) (event.Went s kind.Pin) (of_other j h))
        (are.changes k node)
        (λ j of h. are.changes j of)

  -- ---- draws and ends

  -- a memory with the same pins
  same_pins : (later : Past) (k : ℕ) (m n : NodeState) → n.pins ≡ m.pins → ArePinsOf sessions later k m → ArePinsOf sessions later k n
  same_pins later k m n same has = record {
    bases = λ owner. ap (λ (ps : List (ℕ × Pin)). base_of_pin (lookup (is_at (nat_cmp owner)) ps)) same ∙ has.bases owner;
    pairs = λ owner pin h. has.pairs owner pin (sym (ap (λ (ps : List (ℕ × Pin)). lookup (is_at (nat_cmp owner)) ps) same) ∙ h);
  }

  notes_memory : (later : Past) (k : ℕ) (r : Revision) (paths : List Path) (m : NodeState) → r ≡ last_draw m → IsMemoryOf begin clusters later k m → IsMemoryOf begin clusters later k (after_notes r m paths)
  notes_memory later k r [] m last is = is
  notes_memory later k r (p ∷ ps) m last is = notes_memory later k r ps (with_note m p r) last (note_kept begin clusters later k m p r last is)

  notes_pins : (later : Past) (k : ℕ) (r : Revision) (paths : List Path) (m : NodeState) → ArePinsOf sessions later k m → ArePinsOf sessions later k (after_notes r m paths)
  notes_pins later k r [] m has = has
  notes_pins later k r (p ∷ ps) m has = notes_pins later k r ps _ (record { bases = has.bases; pairs = has.pairs })

  apart_node : (j k : ℕ) → (j == k) ≡ false → not (k == j) ≡ true
  apart_node j k h = by (k == j) refl
    where
      by : (b : Bool) → (k == j) ≡ b → not b ≡ true
      by false e = refl
      by true e = absurd (other_number j k h (sym (same_number k j e)))

  pub draw_memories : (d : Draw) → IsRunOf starts says clusters sessions begin (event.Draw d ∷ past) → d.revision ≡ next_draw (memory_at ms d.revision.cluster)
      → AreMemories begin clusters sessions (event.Draw d ∷ past) (with_memory ms d.revision.cluster (after_notes d.revision (with_draw (memory_at ms d.revision.cluster) d.revision) (marked_paths d.marks)))
  draw_memories d run next =
      let k = d.revision.cluster in
      let paths = marked_paths d.marks in
      let node : IsNode clusters k = nodes.node d.session k run.0.cluster in
      step_on k node (after_notes d.revision (with_draw (memory_at ms k) d.revision) paths) (event.Draw d ∷ past)
      (notes_memory (event.Draw d ∷ past) k d.revision paths (with_draw (memory_at ms k) d.revision) (drawn_last (memory_at ms k) d.revision next) (subst (λ (r : Revision). IsMemoryOf begin clusters (event.Draw d ∷ past) k (with_draw (memory_at ms k) r)) (sym next) (draw_run begin starts says clusters sessions nodes d past run (memory_at ms k) (are.memory k node))))
      (notes_pins (event.Draw d ∷ past) k d.revision paths _ (same_pins (event.Draw d ∷ past) k (memory_at ms k) (with_draw (memory_at ms k) d.revision) refl (pins_kept sessions past k (memory_at ms k) (are.pins k node) (event.Draw d) refl)))
      (λ j of h. apart_run begin starts says clusters sessions nodes (event.Draw d) past j (memory_at ms j) run (apart_node j k h) (are.memory j of))
      (λ j of h. pins_kept sessions past j (memory_at ms j) (are.pins j of) (event.Draw d) refl)
      (drawn_changes past d (memory_at ms k) (are.changes k node))
      (λ j of h. apart_changes past (event.Draw d) j (memory_at ms j) (apart_node j k h) (are.changes j of))

  pub end_memories : (r : Revision) → IsNode clusters r.cluster → IsRunOf starts says clusters sessions begin (event.End r ∷ past) → AreMemories begin clusters sessions (event.End r ∷ past) (with_memory ms r.cluster (finished (memory_at ms r.cluster) r))
  end_memories r node run =
      step_on r.cluster node (finished (memory_at ms r.cluster) r) (event.End r ∷ past)
      (end_run begin starts says clusters sessions nodes r past run (memory_at ms r.cluster) (are.memory r.cluster node))
      (same_pins (event.End r ∷ past) r.cluster (memory_at ms r.cluster) (finished (memory_at ms r.cluster) r) refl (pins_kept sessions past r.cluster (memory_at ms r.cluster) (are.pins r.cluster node) (event.End r) refl))
      (λ j of h. apart_run begin starts says clusters sessions nodes (event.End r) past j (memory_at ms j) run (apart_node j r.cluster h) (are.memory j of))
      (λ j of h. pins_kept sessions past j (memory_at ms j) (are.pins j of) (event.End r) refl)
      (are.changes r.cluster node)
      (λ j of h. are.changes j of)

  -- ---- what a node learns

  pub learn_memories : (k : ℕ) → IsNode clusters k → is_stopped past k ≡ false → (n : ℕ) (last sweep : RevVec) → IsOnRoot begin clusters (drop n past) last sweep → IsRunOf starts says clusters sessions begin past
      → IsRunOf starts says clusters sessions begin (event.In k (learned (memory_at ms k) last sweep).head ∷ past)
      × AreMemories begin clusters sessions (event.In k (learned (memory_at ms k) last sweep).head ∷ past) (with_memory ms k (learned (memory_at ms k) last sweep))
  learn_memories k node goes n last sweep root run =
      let m = learned (memory_at ms k) last sweep in
      let learns = learn_run begin starts says clusters sessions nodes past run k n node goes (memory_at ms k) (are.memory k node) last sweep root in (
        learns.0,
        step_on k node m (event.In k m.head ∷ past) learns.1
            (same_pins (event.In k m.head ∷ past) k (memory_at ms k) m refl (pins_kept sessions past k (memory_at ms k) (are.pins k node) (event.In k m.head) refl))
            (λ j of h. apart_run begin starts says clusters sessions nodes (event.In k m.head) past j (memory_at ms j) learns.0 (apart_node j k h) (are.memory j of))
            (λ j of h. pins_kept sessions past j (memory_at ms j) (are.pins j of) (event.In k m.head) refl)
            (are.changes k node)
            (λ j of h. are.changes j of),
      )

  -- a step of a session that takes the notes that its node's head sees
  pub pending_memories : (s k : ℕ) → IsNode clusters k → IsRunOf starts says clusters sessions begin (event.Went s kind.Back ∷ past) → AreMemories begin clusters sessions (event.Went s kind.Back ∷ past) (with_memory ms k (without_seen (memory_at ms k)))
  pending_memories s k node run =
      let e : Event = event.Went s kind.Back in
      step_on k node (without_seen (memory_at ms k)) (e ∷ past)
      (drop_kept begin clusters (e ∷ past) k (memory_at ms k) (apart_run begin starts says clusters sessions nodes e past k (memory_at ms k) run refl (are.memory k node)))
      (same_pins (e ∷ past) k (memory_at ms k) (without_seen (memory_at ms k)) refl (pins_kept sessions past k (memory_at ms k) (are.pins k node) e refl))
      (λ j of h. apart_run begin starts says clusters sessions nodes e past j (memory_at ms j) run refl (are.memory j of))
      (λ j of h. pins_kept sessions past j (memory_at ms j) (are.pins j of) e refl)
      (dropped_changes past k (memory_at ms k) (are.memory k node).memory (are.changes k node))
      (λ j of h. are.changes j of)

  -- a node that learns how far its own sweep went, which is at most its local revision
  pub swept_memories : (s k : ℕ) → IsNode clusters k → (r : Revision) → r.cluster ≡ k → is_at_most r (local begin past k) ≡ true → IsRunOf starts says clusters sessions begin (event.Went s kind.Learn ∷ past)
      → AreMemories begin clusters sessions (event.Went s kind.Learn ∷ past) (with_memory ms k (swept_to (memory_at ms k) r))
  swept_memories s k node r of low run =
      let e : Event = event.Went s kind.Learn in
      let m = memory_at ms k in
      let is = are.memory k node in
      step_on k node (swept_to m r) (e ∷ past)
      (record {
        cluster = is.cluster;
        head = is.head;
        sweep = record {
          vector = record { eight = raised_length m.sweep r ∙ is.sweep.vector.eight; stands = raised_stands m.sweep r is.sweep.vector.stands };
          begun = raised_sees m.sweep r (start_of 1) is.sweep.begun;
          below = λ x h. own x (seen_raised m.sweep r x h);
        };
        last = is.last;
        above = is.above;
        stopped = is.stopped;
        recovered = is.recovered;
        memory = record {
          low = is.memory.low;
          high = is.memory.high;
          own = is.memory.own;
          own_node = is.memory.own_node;
          rising = is.memory.rising;
          flying = is.memory.flying;
          of_node = is.memory.of_node;
          times = is.memory.times;
          owners = is.memory.owners;
          kept = is.memory.kept;
          stop = is.memory.stop;
        };
      })
      (same_pins (e ∷ past) k m (swept_to m r) refl (pins_kept sessions past k m (are.pins k node) e refl))
      (λ j on h. apart_run begin starts says clusters sessions nodes e past j (memory_at ms j) run refl (are.memory j on))
      (λ j on h. pins_kept sessions past j (memory_at ms j) (are.pins j on) e refl)
      (are.changes k node)
      (λ j on h. are.changes j on)
    where
      own : (x : Revision) → (sees (memory_at ms k).sweep x ≡ true) ⊎ ((x.cluster ≡ r.cluster) × (is_at_most x r ≡ true)) → sees (memory_at ms k).head x ≡ true
      own x (inl a) = (are.memory k node).sweep.below x a
      own x (inr p) =
          let n = nodes.eight in let u = node.1 in
          subst (λ (v : RevVec). sees v x ≡ true) (sym (are.memory k node).head)
          (head_own clusters begin past k x node.0 (omega arith) ((sound_run clusters sessions nodes begin starts says past run.1).ins k node).eight (p.0 ∙ of) (at_most_trans x r (local begin past k) p.1 low))
