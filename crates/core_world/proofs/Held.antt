-- What a world holds rises with its steps: heads rise, pins are old ones or heads, and the settings keep what was kept or pinned.
use Rattle.core_nodes.proofs.Pins.{pinned_alive}
use Rattle.std.proofs.Common.{◌≡◌, ◌⊎◌, inl, inr, ℕ, ◌≤◌, Bool, true, false, cond, not, ◌&&◌, ◌||◌, Some, None, Option, List, [], ◌∷◌, ◌++◌, is_some, refl, sym, ap, subst, ◌∙◌, arith}
use Rattle.std.specs.Prelude.{nat_le, slice_get}
use Rattle.std.specs.BTreeMap.{insert_entry, is_at}
use Rattle.std.specs.Map.{lookup, remove_entry, values_of}
use Rattle.std.specs.Option.{option_map_or}
use Rattle.std.specs.Ordering.{is_eq, match_ordering, nat_cmp}
use Rattle.std.specs.declared.cmp.Ordering.{Ordering}
use Rattle.std.specs.declared.cmp.Ordering.TheVariants.{Less, Equal, Greater}
use Rattle.std.proofs.lemmas.Bool.Decides.{nat_tests}
use mathlib.Core.Bool.{false≢true}
use Rattle.jr_path.specs.declared.path.DocId.TheVariants as id
use Rattle.jr_path.specs.declared.path.Path.{Path}
use Rattle.jr_path.specs.Lists.{Text}
use Rattle.jr_path.specs.Names.{name_cmp}
use Rattle.jr_rev.specs.declared.revision.Revision.{Revision}
use Rattle.jr_rev.specs.declared.vector.Pin.{Pin}
use Rattle.jr_rev.specs.declared.vector.RevVec.{RevVec}
use Rattle.jr_rev.specs.Vectors.{is_below, raised}
use Rattle.jr_rev.proofs.Bounds.{below_itself, greatest_left}
use Rattle.oak_doc.specs.declared.document.Document.{Document}
use Rattle.oak_doc.specs.declared.update.Change.{Change}
use Rattle.oak_doc.specs.declared.update.Change.TheVariants as change
use Rattle.oak_doc.specs.Updates.{after_changes}
use Rattle.oak_machine.specs.Heads.{head_of}
use Rattle.oak_machine.specs.History.{Past, Begin}
use Rattle.oak_machine.specs.Laws.{Says, Starts, StartsProper}
use Rattle.oak_machine.specs.Runs.{IsNode, IsRunOf}
use Rattle.oak_machine.specs.Sessions.{is_recovered, is_recovery_of}
use Rattle.oak_node.specs.Heads.{learned, with_draw}
use Rattle.oak_node.specs.Memory.{NodeState}
use Rattle.oak_node.specs.Pins.{pin_now, pin_of, with_pin}
use Rattle.oak_read.specs.Meaning.{documents_in}
use Rattle.oak_store.specs.Tables.{Table, next_number}
use Rattle.core_read.specs.Told.{IsIn}
use Rattle.core_clash.proofs.Basics.{or_right}
use Rattle.core_heads.proofs.Below.{seen_below}
use Rattle.core_heads.proofs.Entries.{raised_sees}
use Rattle.core_heads.proofs.Runs.{grow_run}
use Rattle.core_keep.specs.Bounds.{kept_pairs}
use Rattle.core_keep.specs.Holding.{Holding, IsHoldingStep, IsPairBelow}
use Rattle.core_nodes.specs.Nodes.{IsPair, cursor_owner, without_session}
use Rattle.core_world.specs.Held.{holding_in, is_node_in, kept_in, no_pin}
use Rattle.core_world.specs.Kept.{AreLayersKept}
use Rattle.core_world.specs.States.{State, memory_at, memory_of, node_of}
use Rattle.core_world.specs.Steps.{after_notes, after_update, memories_with, pinned, setting_op, swept_to}
use Rattle.core_world.proofs.Checkpoints.{settings_there}
use Rattle.core_world.proofs.Lives.{its_node}
use Rattle.core_world.proofs.Memories.{at_memory}

-- ---- lists

pub in_front : {X : Type 0} (x : X) (xs ys : List X) → IsIn x xs → IsIn x (xs ++ ys)
in_front x [] ys h = absurd h
in_front x (y ∷ xs) ys (inl e) = inl e
in_front x (y ∷ xs) ys (inr i) = inr (in_front x xs ys i)

pub in_back : {X : Type 0} (x : X) (xs ys : List X) → IsIn x ys → IsIn x (xs ++ ys)
in_back x [] ys h = h
in_back x (y ∷ xs) ys h = inr (in_back x xs ys h)

pub in_whole : {X : Type 0} (x : X) (xs ys : List X) → IsIn x (xs ++ ys) → IsIn x xs ⊎ IsIn x ys
in_whole x [] ys h = inr h
in_whole x (y ∷ xs) ys (inl e) = inl (inl e)
in_whole x (y ∷ xs) ys (inr i) = elim (in_whole x xs ys i) [ inl j ↦ inl (inr j) | inr j ↦ inr j ]

-- ---- the values of entries

module _ {K X : Type 0} where
  -- what is put, or what was there
  pub in_put : (cmp : K → K → Ordering) (k : K) (v : X) (es : List (K × X)) (x : X) → IsIn x (values_of (insert_entry cmp es k v)) → IsIn x (values_of es) ⊎ (x ≡ v)
  in_put cmp k v [] x (inl e) = inr (sym e)
  in_put cmp k v [] x (inr i) = absurd i
  in_put cmp k v (e ∷ es) x i = by (cmp k e.0) i (in_put cmp k v es x)
    where
      by : (o : Ordering) → IsIn x (values_of (match_ordering o ((k, v) ∷ e ∷ es) ((e.0, v) ∷ es) (e ∷ insert_entry cmp es k v))) → (IsIn x (values_of (insert_entry cmp es k v)) → IsIn x (values_of es) ⊎ (x ≡ v)) → IsIn x (values_of (e ∷ es)) ⊎ (x ≡ v)
      by Less (inl h) rest = inr (sym h)
      by Less (inr j) rest = inl j
      by Equal (inl h) rest = inr (sym h)
      by Equal (inr j) rest = inl (inr j)
      by Greater (inl h) rest = inl (inl h)
      by Greater (inr j) rest = elim (rest j) [ inl l ↦ inl (inr l) | inr l ↦ inr l ]

  -- what is left was there
  pub in_taken : (is : K → Bool) (es : List (K × X)) (x : X) → IsIn x (values_of (remove_entry is es)) → IsIn x (values_of es)
  in_taken is [] x i = i
  in_taken is (e ∷ es) x i = by (is e.0) i (in_taken is es x)
    where
      by : (b : Bool) → IsIn x (values_of (cond b es (e ∷ remove_entry is es))) → (IsIn x (values_of (remove_entry is es)) → IsIn x (values_of es)) → IsIn x (values_of (e ∷ es))
      by true j rest = inr j
      by false (inl h) rest = inl h
      by false (inr j) rest = inr (rest j)

  -- what is found is there
  pub found_in : (is : K → Bool) (es : List (K × X)) (x : X) → lookup is es ≡ Some x → IsIn x (values_of es)
  found_in is [] x h = absurd (false≢true (ap is_some h))
  found_in is (e ∷ es) x h = by (is e.0) h (found_in is es x)
    where
      by : (b : Bool) → cond b (Some e.1) (lookup is es) ≡ Some x → (lookup is es ≡ Some x → IsIn x (values_of es)) → IsIn x (values_of (e ∷ es))
      by true k rest = inl (ap (λ o. option_map_or (λ y. y) o x) k)
      by false k rest = inr (rest k)

-- ---- memories

-- the sweep vector rises, and a pin is an old one, or at the head
pub record IsMemoryStep (a b : NodeState) : Type 0 where
  pub sweep : is_below a.sweep b.sweep ≡ true
  pub pins : (x : Pin) → IsIn x (values_of b.pins) → IsIn x (values_of a.pins) ⊎ (x ≡ pin_now a)

pub memory_still : (a b : NodeState) → b.sweep ≡ a.sweep → b.pins ≡ a.pins → IsMemoryStep a b
memory_still a b sweep pins = record {
  sweep = subst (λ (v : RevVec). is_below a.sweep v ≡ true) (sym sweep) (below_itself a.sweep);
  pins = λ x i. inl (subst (λ (ps : List (ℕ × Pin)). IsIn x (values_of ps)) pins i);
}

pub pin_step : (m : NodeState) (owner : ℕ) → IsMemoryStep m (pinned m owner)
pin_step m owner = record { sweep = below_itself m.sweep; pins = λ x i. in_put nat_cmp owner (pin_now m) m.pins x i }

pub cursor_step : (m : NodeState) (s owner : ℕ) (pin : Pin) → pin_of m s ≡ Some pin → IsMemoryStep m (with_pin m owner pin)
cursor_step m s owner pin has = record {
  sweep = below_itself m.sweep;
  pins = λ x i. elim (in_put nat_cmp owner pin m.pins x i) [
    | inl j ↦ inl j
    | inr e ↦ inl (subst (λ (y : Pin). IsIn y (values_of m.pins)) (sym e) (found_in (is_at (nat_cmp s)) m.pins pin has))
  ];
}

pub leave_step : (m : NodeState) (s : ℕ) → IsMemoryStep m (without_session m s)
leave_step m s = record {
  sweep = below_itself m.sweep;
  pins = λ x i. inl (in_taken (is_at (nat_cmp s)) m.pins x (in_taken (is_at (nat_cmp (cursor_owner s))) (remove_entry (is_at (nat_cmp s)) m.pins) x i));
}

pub noted : (r : Revision) (paths : List Path) (m : NodeState) → ((after_notes r m paths).sweep ≡ m.sweep) × ((after_notes r m paths).pins ≡ m.pins)
noted r [] m = (refl, refl)
noted r (p ∷ ps) m = noted r ps _

pub draw_step : (m : NodeState) (r : Revision) (paths : List Path) → IsMemoryStep m (after_notes r (with_draw m r) paths)
draw_step m r paths = let n = noted r paths (with_draw m r) in memory_still m (after_notes r (with_draw m r) paths) n.0 n.1

pub learn_step : (m : NodeState) (last sweep : RevVec) → IsMemoryStep m (learned m last sweep)
learn_step m last sweep = record { sweep = greatest_left m.sweep sweep; pins = λ x i. inl i }

pub swept_step : (m : NodeState) (r : Revision) → IsPair m.head m.sweep → IsMemoryStep m (swept_to m r)
swept_step m r pair = record { sweep = seen_below m.sweep (raised m.sweep r) pair.vector.stands (λ x h. raised_sees m.sweep r x h); pins = λ x i. inl i }

-- ---- cluster nodes

pub node_is : (clusters k : ℕ) → is_node_in clusters k ≡ true → IsNode clusters k
node_is clusters k h = (low clusters k h, high clusters k h)
  where
    low : (clusters k : ℕ) → (nat_le 1 k && nat_le k clusters) ≡ true → 1 ≤ k
    low clusters k h = grind (arith, nat_tests)

    high : (clusters k : ℕ) → (nat_le 1 k && nat_le k clusters) ≡ true → k ≤ clusters
    high clusters k h = grind (arith, nat_tests)

pub node_in : (clusters k : ℕ) → IsNode clusters k → is_node_in clusters k ≡ true
node_in clusters k n = by n.0 n.1
  where
    by : 1 ≤ k → k ≤ clusters → (nat_le 1 k && nat_le k clusters) ≡ true
    by l h = grind (arith, nat_tests)

still_recovered : (added past : Past) (k : ℕ) → is_recovered past k ≡ true → is_recovered (added ++ past) k ≡ true
still_recovered [] past k h = h
still_recovered (e ∷ added) past k h = or_right (is_recovery_of k e) (is_recovered (added ++ past) k) (still_recovered added past k h)

-- whoever keeps a pin keeps one for some owner
some_owner : (ps : List (ℕ × Pin)) (x : Pin) → IsIn x (values_of ps) → (o : ℕ) × (p : Pin) × (lookup (is_at (nat_cmp o)) ps ≡ Some p)
some_owner [] x i = absurd i
some_owner (e ∷ ps) x i = (e.0, e.1, ap (λ b. cond b (Some e.1) (lookup (is_at (nat_cmp e.0)) ps)) (itself e.0))
  where
    itself : (k : ℕ) → is_eq (nat_cmp k k) ≡ true
    itself k = grind (arith, nat_tests)

-- ---- what is held

pub still_holding : (h : Holding) → IsHoldingStep h h
still_holding h = record {
  heads = λ k. (below_itself (h.heads k).base, below_itself (h.heads k).sweep);
  pins = λ k x g i. inl i;
  kept = λ x i. inl i;
  gone = λ k g. g;
}

module _ (starts : Starts) (says : Says) (proper : StartsProper starts) (w : State) (kept : AreLayersKept starts says w) where
  -- each cluster node that wasn't recovered takes part
  pub takes_part : (k : ℕ) → IsNode w.clusters k → is_recovered w.past k ≡ false → (holding_in w).gone k ≡ false
  takes_part k node alive = ap (λ b. not b || is_recovered w.past k) (node_in w.clusters k node) ∙ alive

  -- whoever has a pin is of a node that wasn't recovered
  pub pins_alive : (k : ℕ) → IsNode w.clusters k → (x : Pin) → IsIn x (values_of (memory_at w.memories k).pins) → is_recovered w.past k ≡ false
  pins_alive k node x i = let o = some_owner (memory_at w.memories k).pins x i in pinned_alive w.sessions w.past k (memory_at w.memories k) (kept.sessions.memories.pins k node) o.0 o.1 o.2

  pub head_is : (k : ℕ) → IsNode w.clusters k → (holding_in w).heads k ≡ pin_now (memory_at w.memories k)
  head_is k node = ap (λ b. cond b (pin_now (memory_at w.memories k)) no_pin) (node_in w.clusters k node)

  -- the memory of one session's node is another then
  pub on_session : (s : ℕ) → is_some (slice_get w.sessions s) ≡ true → (m : NodeState) → IsMemoryStep (memory_of w s) m → (k : ℕ) → IsNode w.clusters k → IsMemoryStep (memory_at w.memories k) (memory_at (memories_with w s m) k)
  on_session s there m step k node =
      let its : IsNode w.clusters (node_of w s) = its_node starts says proper w kept.sessions s there in
      at_memory (λ (i : ℕ) (x : NodeState). IsMemoryStep (memory_at w.memories i) x) w.memories (node_of w s) m k its.0 (subst (λ (n : ℕ). node_of w s ≤ n) (sym kept.sessions.memories.counted) its.1) node.0 step
      (λ h. memory_still (memory_at w.memories k) (memory_at w.memories k) refl refl)

  -- all memories are as they were
  pub all_still : (k : ℕ) → IsNode w.clusters k → IsMemoryStep (memory_at w.memories k) (memory_at w.memories k)
  all_still k node = memory_still (memory_at w.memories k) (memory_at w.memories k) refl refl

  -- what the settings keep was kept, or is a pin of a node
  abbrev pub KeepsOrPins : List Pin → Type 0
  KeepsOrPins now = (x : Pin) → IsIn x now → IsIn x (kept_in w.table) ⊎ ((k : ℕ) × IsNode w.clusters k × IsIn x (values_of (memory_at w.memories k).pins))

  -- with the same settings
  pub same_kept : (t : Table) → documents_in t.documents id.Settings ≡ documents_in w.table.documents id.Settings → KeepsOrPins (kept_in t)
  same_kept t same x i = inl (subst (λ (o : Option Document). IsIn x (option_map_or kept_pairs o [])) same i)

  -- ---- the settings after an update

  module _ (c : Change) where
    abbrev made : Document
    made = after_changes (Some kept.settings.document) (setting_op c) (next_number w.table)

    -- what is kept then is kept by the settings after the change
    pub set_kept : KeepsOrPins (kept_pairs made) → KeepsOrPins (kept_in (after_update w.table (setting_op c)))
    set_kept f x i = f x (subst (λ (o : Option Document). IsIn x (option_map_or kept_pairs o [])) (settings_there w.table kept.settings.document kept.settings.there c) i)

  abbrev d : Document
  d = kept.settings.document

  -- what the settings keep now
  pub kept_now : (x : Pin) → IsIn x (kept_pairs kept.settings.document) → IsIn x (kept_in w.table)
  kept_now x i = subst (λ (o : Option Document). IsIn x (option_map_or kept_pairs o [])) (sym kept.settings.there) i

  checkpoint_in : (x : Pin) → IsIn x (values_of kept.settings.document.checkpoints) → IsIn x (kept_in w.table)
  checkpoint_in x i = kept_now x (in_front x (values_of kept.settings.document.checkpoints) (values_of kept.settings.document.readers) i)

  reader_in : (x : Pin) → IsIn x (values_of kept.settings.document.readers) → IsIn x (kept_in w.table)
  reader_in x i = kept_now x (in_back x (values_of kept.settings.document.checkpoints) (values_of kept.settings.document.readers) i)

  pub checkpoint_kept : (i : Text) (pin : Pin) (s : ℕ) → is_some (slice_get w.sessions s) ≡ true → pin_of (memory_of w s) s ≡ Some pin → KeepsOrPins (kept_in (after_update w.table (setting_op (change.Checkpoint i pin))))
  checkpoint_kept i pin s there has = set_kept (change.Checkpoint i pin) (λ x h. elim (in_whole x (values_of (insert_entry name_cmp kept.settings.document.checkpoints i pin)) (values_of kept.settings.document.readers) h) [ inl j ↦ put x (in_put name_cmp i pin kept.settings.document.checkpoints x j) | inr j ↦ inl (reader_in x j) ])
    where
      put : (x : Pin) → IsIn x (values_of kept.settings.document.checkpoints) ⊎ (x ≡ pin) → IsIn x (kept_in w.table) ⊎ ((k : ℕ) × IsNode w.clusters k × IsIn x (values_of (memory_at w.memories k).pins))
      put x (inl j) = inl (checkpoint_in x j)
      put x (inr e) = inr (node_of w s, its_node starts says proper w kept.sessions s there, subst (λ (y : Pin). IsIn y (values_of (memory_of w s).pins)) (sym e) (found_in (is_at (nat_cmp s)) (memory_of w s).pins pin has))

  pub release_kept : (i : Text) → KeepsOrPins (kept_in (after_update w.table (setting_op (change.Release i))))
  release_kept i = set_kept (change.Release i) (λ x h. elim (in_whole x (values_of (remove_entry (is_at (name_cmp i)) kept.settings.document.checkpoints)) (values_of kept.settings.document.readers) h) [ inl j ↦ inl (checkpoint_in x (in_taken (is_at (name_cmp i)) kept.settings.document.checkpoints x j)) | inr j ↦ inl (reader_in x j) ])

  pub attach_kept : (s : ℕ) (i : Text) → KeepsOrPins (kept_in (after_update w.table (setting_op (change.Attach s i))))
  attach_kept s i = set_kept (change.Attach s i) (λ x h. inl (by x (lookup (is_at (name_cmp i)) kept.settings.document.checkpoints) refl h))
    where
      at_readers : (x : Pin) (pin : Pin) → lookup (is_at (name_cmp i)) kept.settings.document.checkpoints ≡ Some pin → IsIn x (values_of kept.settings.document.readers) ⊎ (x ≡ pin) → IsIn x (kept_in w.table)
      at_readers x pin e (inl j) = reader_in x j
      at_readers x pin e (inr one) = checkpoint_in x (subst (λ (y : Pin). IsIn y (values_of kept.settings.document.checkpoints)) (sym one) (found_in (is_at (name_cmp i)) kept.settings.document.checkpoints pin e))

      by : (x : Pin) (o : Option Pin) → lookup (is_at (name_cmp i)) kept.settings.document.checkpoints ≡ o → IsIn x (values_of kept.settings.document.checkpoints ++ values_of (option_map_or (λ pin. insert_entry nat_cmp kept.settings.document.readers s pin) o kept.settings.document.readers)) → IsIn x (kept_in w.table)
      by x None e h = kept_now x h
      by x (Some pin) e h = elim (in_whole x (values_of kept.settings.document.checkpoints) (values_of (insert_entry nat_cmp kept.settings.document.readers s pin)) h) [ inl j ↦ checkpoint_in x j | inr j ↦ at_readers x pin e (in_put nat_cmp s pin kept.settings.document.readers x j) ]

  pub detach_kept : (s : ℕ) → KeepsOrPins (kept_in (after_update w.table (setting_op (change.Detach s))))
  detach_kept s = set_kept (change.Detach s) (λ x h. elim (in_whole x (values_of kept.settings.document.checkpoints) (values_of (remove_entry (is_at (nat_cmp s)) kept.settings.document.readers)) h) [ inl j ↦ inl (checkpoint_in x j) | inr j ↦ inl (reader_in x (in_taken (is_at (nat_cmp s)) kept.settings.document.readers x j)) ])

  -- ---- a step

  module _ (u : State) (later : AreLayersKept starts says u) (added : Past) (past : u.past ≡ added ++ w.past) (clusters : u.clusters ≡ w.clusters) (sessions : u.sessions ≡ w.sessions) (begin : u.begin ≡ w.begin) where
    run_then : IsRunOf starts says w.clusters w.sessions w.begin (added ++ w.past)
    run_then =
        subst (λ (p : Past). IsRunOf starts says w.clusters w.sessions w.begin p) past
        (subst (λ (ss : List ℕ). IsRunOf starts says w.clusters ss w.begin u.past) sessions
        (subst (λ (n : ℕ). IsRunOf starts says n u.sessions w.begin u.past) clusters
        (subst (λ (b : Begin). IsRunOf starts says u.clusters u.sessions b u.past) begin later.sessions.run)))

    head_rises : (k : ℕ) → IsNode w.clusters k → is_below (memory_at w.memories k).head (memory_at u.memories k).head ≡ true
    head_rises k node =
        let before : (memory_at w.memories k).head ≡ head_of w.clusters w.begin w.past k = (kept.sessions.memories.memory k node).head in
        let after : (memory_at u.memories k).head ≡ head_of w.clusters w.begin (added ++ w.past) k =
        (later.sessions.memories.memory k (subst (λ (n : ℕ). IsNode n k) (sym clusters) node)).head
        ∙ (ap (λ (b : Begin). head_of u.clusters b u.past k) begin
        ∙ (ap (λ (n : ℕ). head_of n w.begin u.past k) clusters
        ∙ ap (λ (p : Past). head_of w.clusters w.begin p k) past)) in
        subst (λ (v : RevVec). is_below v (memory_at u.memories k).head ≡ true) (sym before)
        (subst (λ (v : RevVec). is_below (head_of w.clusters w.begin w.past k) v ≡ true) (sym after)
        (grow_run w.clusters w.sessions kept.sessions.nodes w.begin starts says added w.past run_then k node))

    pub holding : ((k : ℕ) → IsNode w.clusters k → IsMemoryStep (memory_at w.memories k) (memory_at u.memories k)) → KeepsOrPins (kept_in u.table) → IsHoldingStep (holding_in w) (holding_in u)
    holding memories keeps = record {
      heads = λ k. subst (λ (n : ℕ). IsPairBelow ((holding_in w).heads k) (cond (is_node_in n k) (pin_now (memory_at u.memories k)) no_pin)) (sym clusters) (rises k (is_node_in w.clusters k) refl);
      pins = λ k x g i. let node = taking k g in elim ((memories k node).pins x i) [ inl j ↦ inl j | inr e ↦ inr (e ∙ sym (head_is k node)) ];
      kept = λ x i. elim (keeps x i) [ inl j ↦ inl j | inr j ↦ inr (j.0, takes_part j.0 j.1 (pins_alive j.0 j.1 x j.2), j.2) ];
      gone = λ k g. goes k (is_node_in w.clusters k) refl g;
    }
      where
        rises : (k : ℕ) (b : Bool) → is_node_in w.clusters k ≡ b → IsPairBelow (cond b (pin_now (memory_at w.memories k)) no_pin) (cond b (pin_now (memory_at u.memories k)) no_pin)
        rises k true h = let node = node_is w.clusters k h in (head_rises k node, (memories k node).sweep)
        rises k false h = (below_itself no_pin.base, below_itself no_pin.sweep)

        first_false : (a b : Bool) → (not a || b) ≡ false → a ≡ true
        first_false true b h = refl
        first_false false b h = absurd (false≢true (sym h))

        taking : (k : ℕ) → (not (is_node_in u.clusters k) || is_recovered u.past k) ≡ false → IsNode w.clusters k
        taking k g = node_is w.clusters k (subst (λ (n : ℕ). is_node_in n k ≡ true) clusters (first_false (is_node_in u.clusters k) (is_recovered u.past k) g))

        goes : (k : ℕ) (b : Bool) → is_node_in w.clusters k ≡ b → (not b || is_recovered w.past k) ≡ true → (not (is_node_in u.clusters k) || is_recovered u.past k) ≡ true
        goes k false h g = ap (λ c. not c || is_recovered u.past k) (ap (λ n. is_node_in n k) clusters ∙ h)
        goes k true h g = or_right (not (is_node_in u.clusters k)) (is_recovered u.past k) (subst (λ (p : Past). is_recovered p k ≡ true) (sym past) (still_recovered added w.past k g))
