-- The least of all pairs that are held sees in its base all that its sweep vector sees.
use Rattle.std.proofs.Common.{◌≡◌, inl, inr, ℕ, ◌+◌, ◌-◌, ◌<◌, ◌≤◌, Bool, true, false, cond, not, ◌||◌, List, [], ◌∷◌, ◌++◌, length, map, fold, Option, Some, None, refl, sym, ap, ◌∙◌, subst, arith}
use Rattle.std.proofs.Math.ListN.{get_or}
use Rattle.std.specs.Prelude.{slice_get}
use Rattle.std.specs.List.{AllByRecursion}
use Rattle.std.specs.Map.{values_of}
use Rattle.std.specs.Option.{option_map_or, unwrap_or}
use Rattle.std.proofs.lemmas.List.Elements.{All-from_get_or, recursion_from_All}
use Rattle.std.proofs.lemmas.Option.{slice_get-get_or}
use Rattle.jr_rev.specs.declared.vector.Pin.{Pin}
use Rattle.jr_rev.specs.Vectors.{least, no_entries}
use Rattle.jr_rev.proofs.Bounds.{below_seen, least_left, least_right, least_seen}
use Rattle.oak_clean.specs.Clean.{SeesSwept}
use Rattle.oak_doc.specs.declared.document.Document.{Document}
use Rattle.oak_gc.specs.Bounds.{Told, kept_pairs, lesser_pair, root_pair}
use Rattle.oak_gc.proofs.Bounding.{pairs_of}
use Rattle.oak_machine.specs.Laws.{Says, Starts}
use Rattle.oak_machine.specs.Runs.{IsNode}
use Rattle.oak_machine.specs.Sessions.{is_recovered}
use Rattle.oak_node.specs.Memory.{NodeState, begun}
use Rattle.oak_node.specs.Pins.{pin_now}
use Rattle.oak_read.proofs.Walking.{all_both}
use Rattle.core_read.specs.Told.{IsIn}
use Rattle.core_world.specs.Held.{is_node_in}
use Rattle.core_world.specs.States.{memory_at}
use Rattle.core_world.proofs.Held.{node_in}
use Rattle.oak_tidy.specs.Replies.{node_tells}
use Rattle.oak_world.specs.Kept.{IsWorld}
use Rattle.oak_world.specs.Worlds.{WorldOf}
use Rattle.oak_alone.specs.Alone.{least_held}

each_in : {X : Type 0} (P : X → Type 0) (xs : List X) → ((x : X) → IsIn x xs → P x) → AllByRecursion P xs
each_in P [] each = tt
each_in P (x ∷ xs) each = (each x (inl refl), each_in P xs (λ y i. each y (inr i)))

-- ---- the least of such pairs

lesser_swept : (x y : Pin) → SeesSwept x → SeesSwept y → SeesSwept (lesser_pair x y)
lesser_swept x y a b r h =
    least_seen x.base y.base r (a r (below_seen (least x.sweep y.sweep) x.sweep r (least_left x.sweep y.sweep) h)) (b r (below_seen (least x.sweep y.sweep) y.sweep r (least_right x.sweep y.sweep) h))

fold_swept : (x : Pin) (ys : List Pin) → SeesSwept x → AllByRecursion SeesSwept ys → SeesSwept (fold lesser_pair x ys)
fold_swept x [] a each = a
fold_swept x (y ∷ ys) a each = fold_swept (lesser_pair x y) ys (lesser_swept x y a each.0) each.1

-- ---- what memories tell

-- the head and the pins of a cluster node are such pairs
record HoldsSwept (m : NodeState) : Type 0 where
  head : SeesSwept (pin_now m)
  pins : AllByRecursion SeesSwept (values_of m.pins)

-- they are, where it isn't recovered
abbrev TellsSwept : NodeState → Type 0
TellsSwept m = m.recovered ≡ false → HoldsSwept m

told_swept : (ms : List NodeState) → AllByRecursion TellsSwept ms → AllByRecursion SeesSwept (pairs_of (map node_tells ms))
told_swept [] h = tt
told_swept (m ∷ ms) h = by m.recovered h.0 (told_swept ms h.1)
  where
    tells : Told
    tells = record { head = pin_now m; pins = values_of m.pins }

    by : (b : Bool) → (b ≡ false → HoldsSwept m) → AllByRecursion SeesSwept (pairs_of (map node_tells ms)) → AllByRecursion SeesSwept (pairs_of (cond b None (Some tells) ∷ map node_tells ms))
    by true own rest = rest
    by false own rest = let held = own refl in all_both SeesSwept (pin_now m ∷ values_of m.pins) (pairs_of (map node_tells ms)) (held.head, held.pins) rest

-- ---- what a world holds

module _ (starts : Starts) (says : Says) {L : Type 0} (w : WorldOf L) (is : IsWorld starts says w) where
  memory_swept : (k : ℕ) → IsNode w.history.clusters k → TellsSwept (memory_at w.memories k)
  memory_swept k node here =
      let memory = is.kept.sessions.memories.memory k node in
      let taking : (not (is_node_in w.history.clusters k) || is_recovered w.history.past k) ≡ false =
      ap (λ b. not b || is_recovered w.history.past k) (node_in w.history.clusters k node) ∙ (sym memory.recovered ∙ here) in
      record {
        head = memory.sweep.below;
        pins = each_in SeesSwept (values_of (memory_at w.memories k).pins) (λ x i r h. below_seen x.sweep x.base r (is.tidying.bounds.pins k taking x i).swept h);
      }

  memories_swept : AllByRecursion TellsSwept w.memories
  memories_swept = recursion_from_All TellsSwept w.memories (All-from_get_or TellsSwept w.memories none each)
    where
      none : NodeState
      none = begun 0 no_entries

      each : (i : ℕ) → i < length w.memories → TellsSwept (get_or w.memories i none)
      each i within =
          let many : length w.memories ≡ w.history.clusters = is.kept.sessions.memories.counted in
          let low : 1 ≤ i + 1 = omega arith in
          let high : i + 1 ≤ w.history.clusters = omega (arith, many, within) in
          let back : i + 1 - 1 ≡ i = omega arith in
          let there : memory_at w.memories (i + 1) ≡ get_or w.memories i none =
          ap (λ (j : ℕ). unwrap_or (slice_get w.memories j) (begun (i + 1) no_entries)) back
          ∙ ap (λ (o : Option NodeState). unwrap_or o (begun (i + 1) no_entries)) (slice_get-get_or w.memories i none within) in
          subst TellsSwept there (memory_swept (i + 1) (low, high))

  settings_swept : AllByRecursion SeesSwept (kept_pairs is.kept.settings.document)
  settings_swept = each_in SeesSwept (kept_pairs is.kept.settings.document)
      (λ x i r h. below_seen x.sweep x.base r (is.tidying.bounds.kept x (subst (λ (o : Option Document). IsIn x (option_map_or kept_pairs o [])) (sym is.kept.settings.there) i)).swept h)

  pub least_swept : SeesSwept (least_held is.kept.root.document w.memories is.kept.settings.document)
  least_swept = fold_swept (root_pair is.kept.root.document) (pairs_of (map node_tells w.memories) ++ kept_pairs is.kept.settings.document) is.kept.root.tells.pair.below
      (all_both SeesSwept (pairs_of (map node_tells w.memories)) (kept_pairs is.kept.settings.document) (told_swept w.memories memories_swept) settings_swept)
