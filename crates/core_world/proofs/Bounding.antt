-- The bound that a collection reads node by node, the settings last, may be taken, whatever goes on meanwhile.
use Rattle.std.proofs.Common.{arith, ◌≡◌, ◌⊎◌, inl, inr, ℕ, zero, suc, ◌+◌, ◌-◌, ◌<◌, ◌≤◌, Bool, true, false, not, ◌||◌, Some, None, Option, List, [], ◌∷◌, ◌++◌, refl, sym, ap, ◌∙◌, subst}
use Rattle.std.specs.Prelude.{IsTrue, IsFalse, length, map, slice_get}
use Rattle.std.specs.List.{fold, range_with_len}
use Rattle.std.specs.Map.{values_of}
use Rattle.std.specs.Option.{option_map_or, unwrap_or}
use mathlib.Core.Bool.{false≢true}
use Rattle.jr_path.specs.declared.path.DocId.TheVariants as id
use Rattle.jr_rev.specs.declared.revision.Revision.{Revision}
use Rattle.jr_rev.specs.declared.vector.Pin.{Pin}
use Rattle.jr_rev.specs.declared.vector.RevVec.{RevVec}
use Rattle.jr_rev.specs.Vectors.{least, no_entries, sees, start, start_of}
use Rattle.jr_rev.proofs.Bounds.{below_along, below_itself, below_seen, least_left, least_lower, least_right, least_seen}
use Rattle.oak_doc.specs.declared.document.Document.{Document}
use Rattle.oak_read.specs.Meaning.{documents_in}
use Rattle.oak_machine.specs.declared.event.Draw.{Draw}
use Rattle.oak_machine.specs.History.{Past, Begin}
use Rattle.oak_machine.specs.Commits.{draw_of}
use Rattle.oak_machine.specs.Laws.{Says, Starts, StartsProper}
use Rattle.oak_machine.specs.Runs.{AreNodes, IsNode, IsRunOf}
use Rattle.oak_machine.specs.Sessions.{is_recovered}
use Rattle.core_heads.specs.Sound.{IsGood, Public, Seen}
use Rattle.core_heads.proofs.Below.{seen_below}
use Rattle.core_heads.proofs.Later.{good_kept, head_good, public_good}
use Rattle.core_heads.proofs.Runs.{later_run, sound_run}
use Rattle.core_keep.specs.Bounds.{kept_pairs, lesser_pair, root_pair}
use Rattle.core_keep.specs.Holding.{IsHoldingStep, IsPairBelow}
use Rattle.core_nodes.specs.Nodes.{IsPair}
use Rattle.oak_node.specs.Memory.{begun}
use Rattle.core_read.specs.Told.{IsIn}
use Rattle.core_world.specs.Bounding.{CanAllBound, CanBound, fed_node, fed_settings, IsBounding}
use Rattle.core_world.specs.Held.{holding_in, is_node_in, MayTakeBound}
use Rattle.core_world.specs.Kept.{AreLayersKept, SeesStarts}
use Rattle.core_world.specs.Start.{start_settings, start_state, start_table}
use Rattle.core_world.specs.States.{State, memory_at, nodes_in}
use Rattle.core_world.proofs.Held.{head_is, node_in, pins_alive, takes_part}
use Rattle.core_begun.specs.Told.{IsClosedSince}

-- ---- pairs

pair_along : (a b c : Pin) → IsPairBelow a b → IsPairBelow b c → IsPairBelow a c
pair_along a b c h k = (below_along a.base b.base c.base h.0 k.0, below_along a.sweep b.sweep c.sweep h.1 k.1)

least_sees : (v w : RevVec) (r : Revision) → sees (least v w) r ≡ true → (sees v r ≡ true) × (sees w r ≡ true)
least_sees v w r h = (below_seen (least v w) v r (least_left v w) h, below_seen (least v w) w r (least_right v w) h)

-- the lesser of two that can bound can
lesser_can : (clusters : ℕ) (begin : Begin) (past : Past) (x y : Pin) → CanBound begin clusters past x → CanBound begin clusters past y → CanBound begin clusters past (lesser_pair x y)
lesser_can clusters begin past x y a b = record {
  good = record {
    behind = λ o ahead seen. a.good.behind o ahead (least_sees x.base y.base o seen).0;
    closed = λ o d drawn seen q h. let s = least_sees x.base y.base o seen in least_seen x.base y.base q (a.good.closed o d drawn s.0 q h) (b.good.closed o d drawn s.1 q h);
  };
  swept = least_lower (least x.sweep y.sweep) x.base y.base (below_along (least x.sweep y.sweep) x.sweep x.base (least_left x.sweep y.sweep) a.swept) (below_along (least x.sweep y.sweep) y.sweep y.base (least_right x.sweep y.sweep) b.swept);
  begun = λ k node. least_seen x.sweep y.sweep (start_of k) (a.begun k node) (b.begun k node);
}

fold_can : (clusters : ℕ) (begin : Begin) (past : Past) (x : Pin) (ys : List Pin) → CanBound begin clusters past x → ((y : Pin) → IsIn y ys → CanBound begin clusters past y) → CanBound begin clusters past (fold lesser_pair x ys)
fold_can clusters begin past x [] a each = a
fold_can clusters begin past x (y ∷ ys) a each = fold_can clusters begin past (lesser_pair x y) ys (lesser_can clusters begin past x y a (each y (inl refl))) (λ z i. each z (inr i))

fold_below : (x : Pin) (ys : List Pin) → IsPairBelow (fold lesser_pair x ys) x
fold_below x [] = (below_itself x.base, below_itself x.sweep)
fold_below x (y ∷ ys) = pair_along _ (lesser_pair x y) x (fold_below (lesser_pair x y) ys) (least_left x.base y.base, least_left x.sweep y.sweep)

fold_each : (x : Pin) (ys : List Pin) (y : Pin) → IsIn y ys → IsPairBelow (fold lesser_pair x ys) y
fold_each x [] y i = absurd i
fold_each x (z ∷ ys) y (inl one) = subst (λ (u : Pin). IsPairBelow (fold lesser_pair (lesser_pair x z) ys) u) one (pair_along _ (lesser_pair x z) z (fold_below (lesser_pair x z) ys) (least_right x.base z.base, least_right x.sweep z.sweep))
fold_each x (z ∷ ys) y (inr i) = fold_each (lesser_pair x z) ys y i

-- a good vector is closed
closed_by : (begin : Begin) (past : Past) (v : RevVec) → IsGood begin past (Seen v) → IsClosedSince past (sees v)
closed_by begin past v good o us e s q b = close o q s (draw_of past o) refl b
  where
    close : (o x : Revision) → sees v o ≡ true → (f : Option Draw) → draw_of past o ≡ f → Rattle.std.specs.Option.option_map_or (λ (g : Draw). sees g.base x) (draw_of past o) false ≡ true → sees v x ≡ true
    close o x s None e b = absurd (false≢true (sym (ap (λ (f : Option Draw). Rattle.std.specs.Option.option_map_or (λ (g : Draw). sees g.base x) f false) e) ∙ b))
    close o x s (Some f) e b = good.closed o f e s x (sym (ap (λ (f : Option Draw). Rattle.std.specs.Option.option_map_or (λ (g : Draw). sees g.base x) f false) e) ∙ b)

-- ---- the run goes on

module _ (starts : Starts) (says : Says) (clusters : ℕ) (sessions : List ℕ) (begin : Begin) (nodes : AreNodes clusters sessions) where
  good_stays : (added past : Past) → IsRunOf starts says clusters sessions begin (added ++ past) → (v : RevVec) → IsGood begin past (Seen v) → IsGood begin (added ++ past) (Seen v)
  good_stays [] past run v good = good
  good_stays (e ∷ added) past run v good = good_kept clusters begin (added ++ past) (e ∷ added ++ past) (later_run clusters sessions nodes begin starts says e (added ++ past) run) (Seen v) (good_stays added past run.1 v good)

  can_stays : (added past : Past) → IsRunOf starts says clusters sessions begin (added ++ past) → (x : Pin) → CanBound begin clusters past x → CanBound begin clusters (added ++ past) x
  can_stays added past run x can = record { good = good_stays added past run x.base can.good; swept = can.swept; begun = can.begun }

-- ---- a node that was recovered

-- a cluster node that was read, or the next
either : (k j : ℕ) → j < k + 1 → (j < k) ⊎ (j ≡ k)
either k j below = by (Rattle.std.specs.Prelude.nat_lt j k) refl
  where
    by : (b : Bool) → Rattle.std.specs.Prelude.nat_lt j k ≡ b → (j < k) ⊎ (j ≡ k)
    by true h = inl (grind (arith, Rattle.std.proofs.lemmas.Bool.Decides.nat_tests))
    by false h = inr (grind (arith, Rattle.std.proofs.lemmas.Bool.Decides.nat_tests))

-- one that was recovered holds nothing: it is passed over
pub bounding_skips : (w : State) (k : ℕ) (x : Pin) → is_recovered w.past k ≡ true → IsBounding w k x → IsBounding w (k + 1) x
bounding_skips w k x recovered bounding = record {
  can = bounding.can;
  heads = λ j node below taking. elim (either k j below) [ inl h ↦ bounding.heads j node h taking | inr same ↦ absurd (none j same taking) ];
  pins = λ j node below taking y i. elim (either k j below) [ inl h ↦ bounding.pins j node h taking y i | inr same ↦ absurd (none j same taking) ];
}
  where
    with_it : (b : Bool) → (b || true) ≡ false → ⊥
    with_it true h = false≢true (sym h)
    with_it false h = false≢true (sym h)

    none : (j : ℕ) → j ≡ k → (holding_in w).gone j ≡ false → ⊥
    none j same taking = with_it (not (is_node_in w.clusters j)) (sym (ap (λ b. not (is_node_in w.clusters j) || b) (ap (is_recovered w.past) same ∙ recovered)) ∙ taking)

-- ---- what is held

-- a pair that goes together
pair_can : (clusters : ℕ) (begin : Begin) (past : Past) (x : Pin) → IsGood begin past (Seen x.base) → IsPair x.base x.sweep → SeesStarts clusters x.sweep → CanBound begin clusters past x
pair_can clusters begin past x good pair begun = record { good = good; swept = seen_below x.sweep x.base pair.vector.stands pair.below; begun = begun }

module _ (starts : Starts) (says : Says) (proper : StartsProper starts) (w : State) (kept : AreLayersKept starts says w) (begun : (k : ℕ) → IsNode w.clusters k → SeesStarts w.clusters (memory_at w.memories k).sweep) where
  -- a head can bound
  pub head_can : (k : ℕ) → IsNode w.clusters k → CanBound w.begin w.clusters w.past ((holding_in w).heads k)
  head_can k node =
      let memory = kept.sessions.memories.memory k node in
      let good : IsGood w.begin w.past (Seen (memory_at w.memories k).head) =
      subst (λ (v : RevVec). IsGood w.begin w.past (Seen v)) (sym memory.head) (head_good w.clusters w.sessions kept.sessions.nodes w.begin w.past (sound_run w.clusters w.sessions kept.sessions.nodes w.begin starts says w.past kept.sessions.run) k node) in
      subst (λ (x : Pin). CanBound w.begin w.clusters w.past x) (sym (head_is starts says proper w kept k node)) (pair_can w.clusters w.begin w.past (Rattle.oak_node.specs.Pins.pin_now (memory_at w.memories k)) good memory.sweep (begun k node))

  -- what the root has published can
  pub root_can : CanBound w.begin w.clusters w.past (root_pair kept.root.document)
  root_can = pair_can w.clusters w.begin w.past (root_pair kept.root.document) good kept.root.tells.pair kept.root.begun
    where
      public : IsGood w.begin w.past (Public w.clusters w.begin w.past)
      public = public_good w.clusters w.sessions kept.sessions.nodes w.begin w.past (sound_run w.clusters w.sessions kept.sessions.nodes w.begin starts says w.past kept.sessions.run)

      good : IsGood w.begin w.past (Seen kept.root.document.last_rev)
      good = record {
        behind = λ o ahead seen. public.behind o ahead ((kept.root.tells.public o).0 seen);
        closed = λ o d drawn seen q h. (kept.root.tells.public q).1 (public.closed o d drawn ((kept.root.tells.public o).0 seen) q h);
      }

  -- the root was read
  pub bounding_begins : (root : Document) → nodes_in w.table [] ≡ Some root → IsBounding w 1 (root_pair root)
  bounding_begins root is = record {
    can = subst (λ (d : Document). CanBound w.begin w.clusters w.past (root_pair d)) (ap (λ o. unwrap_or o root) (sym kept.root.there ∙ is)) root_can;
    heads = λ j node below. absurd (none j node.0 below);
    pins = λ j node below. absurd (none j node.0 below);
  }
    where
      none : (j : ℕ) → 1 ≤ j → j < 1 → ⊥
      none j a b = omega arith

  module _ (all : CanAllBound w) (k : ℕ) (x : Pin) (bounding : IsBounding w k x) where
    -- cluster node k is read
    pub bounding_node : IsNode w.clusters k → IsBounding w (k + 1) (fed_node w k x)
    bounding_node node = record {
      can = fold_can w.clusters w.begin w.past x ((holding_in w).heads k ∷ (holding_in w).pins k) bounding.can each;
      heads = λ j n below taking. pair_below j n below ((holding_in w).heads j) (fold_below x ((holding_in w).heads k ∷ (holding_in w).pins k)) (λ h. bounding.heads j n h taking) (λ (same : j ≡ k). subst (λ (i : ℕ). IsPairBelow (fed_node w k x) ((holding_in w).heads i)) (sym same) (fold_each x ((holding_in w).heads k ∷ (holding_in w).pins k) ((holding_in w).heads k) (inl refl)));
      pins = λ j n below taking y i. pair_below j n below y (fold_below x ((holding_in w).heads k ∷ (holding_in w).pins k)) (λ h. bounding.pins j n h taking y i) (λ (same : j ≡ k). fold_each x ((holding_in w).heads k ∷ (holding_in w).pins k) y (inr (subst (λ (n : ℕ). IsIn y ((holding_in w).pins n)) same i)));
    }
      where
        each : (y : Pin) → IsIn y ((holding_in w).heads k ∷ (holding_in w).pins k) → CanBound w.begin w.clusters w.past y
        each y (inl one) = subst (λ (z : Pin). CanBound w.begin w.clusters w.past z) one (head_can k node)
        each y (inr i) = all.pins k (takes_part starts says proper w kept k node (pins_alive starts says proper w kept k node y i)) y i

        pair_below : (j : ℕ) → IsNode w.clusters j → j < k + 1 → (y : Pin) → IsPairBelow (fed_node w k x) x → (j < k → IsPairBelow x y) → (j ≡ k → IsPairBelow (fed_node w k x) y) → IsPairBelow (fed_node w k x) y
        pair_below j n below y lower earlier here = elim (either k j below) [ inl h ↦ pair_along (fed_node w k x) x y lower (earlier h) | inr same ↦ here same ]

  -- all nodes were read, and the settings are read: the bound may be taken
  pub bounding_takes : CanAllBound w → (x : Pin) → IsBounding w (w.clusters + 1) x → MayTakeBound w (fed_settings w x).base (fed_settings w x).sweep
  bounding_takes all x bounding = record {
    below = record {
      head = λ k taking. pair_along (fed_settings w x) x ((holding_in w).heads k) (fold_below x (holding_in w).kept) (bounding.heads k (node_of k taking) (within k taking) taking);
      pins = λ k taking y i. pair_along (fed_settings w x) x y (fold_below x (holding_in w).kept) (bounding.pins k (node_of k taking) (within k taking) taking y i);
      kept = λ y i. fold_each x (holding_in w).kept y i;
    };
    swept = can.swept;
    closed = closed_by w.begin w.past (fed_settings w x).base can.good;
  }
    where
      can : CanBound w.begin w.clusters w.past (fed_settings w x)
      can = fold_can w.clusters w.begin w.past x (holding_in w).kept bounding.can all.kept

      node_of : (k : ℕ) → (holding_in w).gone k ≡ false → IsNode w.clusters k
      node_of k taking = Rattle.core_world.proofs.Held.node_is w.clusters k (first (Rattle.core_world.specs.Held.is_node_in w.clusters k) taking)
        where
          first : (b : Bool) → (not b || Rattle.oak_machine.specs.Sessions.is_recovered w.past k) ≡ false → b ≡ true
          first true h = refl
          first false h = absurd (false≢true (sym h))

      within : (k : ℕ) → (holding_in w).gone k ≡ false → k < w.clusters + 1
      within k taking = let n = (node_of k taking).1 in omega arith

  -- its sweep vector sees the start of each cluster node
  pub bounding_begun : CanAllBound w → (x : Pin) → IsBounding w (w.clusters + 1) x → SeesStarts w.clusters (fed_settings w x).sweep
  bounding_begun all x bounding = (fold_can w.clusters w.begin w.past x (holding_in w).kept bounding.can all.kept).begun

-- ---- over a step

module _ (starts : Starts) (says : Says) (proper : StartsProper starts) (w u : State) (added : Past) (kept : AreLayersKept starts says w) (begun : (k : ℕ) → IsNode w.clusters k → SeesStarts w.clusters (memory_at w.memories k).sweep) (then : AreLayersKept starts says u) (grown : u.past ≡ added ++ w.past) (same : u.clusters ≡ w.clusters) (its : u.sessions ≡ w.sessions) (from : u.begin ≡ w.begin) (step : IsHoldingStep (holding_in w) (holding_in u)) where
  can_on : (x : Pin) → CanBound w.begin w.clusters w.past x → CanBound u.begin u.clusters u.past x
  can_on x can = subst (λ (p : Past). CanBound u.begin u.clusters p x) (sym grown)
      (can_stays starts says u.clusters u.sessions u.begin then.sessions.nodes added w.past (subst (λ (p : Past). IsRunOf starts says u.clusters u.sessions u.begin p) grown then.sessions.run) x
      (subst (λ (b : Begin). CanBound b u.clusters w.past x) (sym from) (subst (λ (n : ℕ). CanBound w.begin n w.past x) (sym same) can)))

  was_there : (k : ℕ) → (holding_in u).gone k ≡ false → (holding_in w).gone k ≡ false
  was_there k h = by ((holding_in w).gone k) refl
    where
      by : (b : Bool) → (holding_in w).gone k ≡ b → b ≡ false
      by false e = refl
      by true e = absurd (false≢true (sym h ∙ step.gone k e))

  node_was : (k : ℕ) → (holding_in w).gone k ≡ false → IsNode w.clusters k
  node_was k taking = Rattle.core_world.proofs.Held.node_is w.clusters k (first (Rattle.core_world.specs.Held.is_node_in w.clusters k) taking)
    where
      first : (b : Bool) → (not b || Rattle.oak_machine.specs.Sessions.is_recovered w.past k) ≡ false → b ≡ true
      first true h = refl
      first false h = absurd (false≢true (sym h))

  -- all that is held can bound still
  pub all_can_on : CanAllBound w → CanAllBound u
  all_can_on all = record {
    pins = λ k taking x i. elim (step.pins k x taking i) [
      | inl j ↦ can_on x (all.pins k (was_there k taking) x j)
      | inr one ↦ subst (λ (y : Pin). CanBound u.begin u.clusters u.past y) (sym one) (can_on ((holding_in w).heads k) (head_can starts says proper w kept begun k (node_was k (was_there k taking))))
    ];
    kept = λ x i. elim (step.kept x i) [ inl j ↦ can_on x (all.kept x j) | inr j ↦ can_on x (all.pins j.0 j.1 x j.2) ];
  }

  -- the least so far is at most what the nodes that were read hold now
  pub bounding_on : (k : ℕ) (x : Pin) → IsBounding w k x → IsBounding u k x
  bounding_on k x bounding = record {
    can = can_on x bounding.can;
    heads = λ j node below taking. pair_along x ((holding_in w).heads j) ((holding_in u).heads j) (bounding.heads j (node_back j node) below (was_there j taking)) (step.heads j);
    pins = λ j node below taking y i. elim (step.pins j y taking i) [
      | inl k ↦ bounding.pins j (node_back j node) below (was_there j taking) y k
      | inr one ↦ subst (λ (z : Pin). IsPairBelow x z) (sym one) (bounding.heads j (node_back j node) below (was_there j taking))
    ];
  }
    where
      node_back : (j : ℕ) → IsNode u.clusters j → IsNode w.clusters j
      node_back j node = subst (λ (n : ℕ). IsNode n j) same node

-- ---- the start

none_pinned : (v : RevVec) (ks : List ℕ) (i d : ℕ) → (unwrap_or (slice_get (map (λ k. begun k v) ks) i) (begun d no_entries)).pins ≡ []
none_pinned v [] i d = refl
none_pinned v (k ∷ ks) zero d = refl
none_pinned v (k ∷ ks) (suc i) d = none_pinned v ks i d

settings_is : (clusters sessions : ℕ) → documents_in (start_table clusters sessions).documents id.Settings ≡ Some (start_settings sessions)
settings_is clusters sessions = refl

-- nothing is pinned and nothing kept
pub start_can : (clusters : ℕ) (sessions : List ℕ) → CanAllBound (start_state clusters sessions)
start_can clusters sessions = record {
  pins = λ k taking x i. absurd (subst (λ (ps : List _). IsIn x (values_of ps)) (none_pinned (start clusters) (range_with_len 1 clusters) (k - 1) k) i);
  kept = λ x i. absurd (subst (λ (o : Option Document). IsIn x (option_map_or kept_pairs o [])) (settings_is clusters (length sessions)) i);
}
