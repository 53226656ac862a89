-- A collector takes the least of all that it is told.
use Rattle.std.proofs.Common.{◌≡◌, ℕ, suc, ◌+◌, nat_lt, true, false, List, [], ◌∷◌, ◌++◌, Option, None, Some, length, map, fold, refl, sym, ap, ◌∙◌, arith}
use Rattle.std.specs.List.{flat_map}
use Rattle.std.specs.declared.alloc.Global.{Global}
use Rattle.jr_rev.specs.declared.vector.Pin.{Pin}
use Rattle.oak_doc.specs.declared.asks.Reply.{Reply}
use Rattle.oak_doc.specs.declared.asks.Reply.TheVariants as reply
use Rattle.oak_gc.specs.Bounds.{Told, kept_pairs, lesser_pair, root_pair}
use Rattle.oak_gc.specs.Bounding.{TakesTheLeast, collector_after, node_reply, those_that_tell}
use Rattle.oak_gc.specs.Collecting.{begun, behind_node, fed}
use Rattle.oak_gc.specs.declared.collector.Collector.{Collector}
use Rattle.oak_gc.specs.declared.reading.Step.TheVariants as step

pub fold-append : {A B : Type 0} (f : B → A → B) (b : B) (xs ys : List A) → fold f b (xs ++ ys) ≡ fold f (fold f b xs) ys
fold-append f b [] ys = refl
fold-append f b (x ∷ xs) ys = fold-append f (f b x) xs ys

-- a collector that has asked so many cluster nodes, with a bound
abbrev pub at_node : Global → ℕ → Pin → ℕ → Collector
at_node a clusters bound k = record (begun a clusters) { bound = bound; step = behind_node (begun a clusters) k }

abbrev pub pairs_of : List (Option Told) → List Pin
pairs_of nodes = flat_map (λ n. n.head ∷ n.pins) (those_that_tell nodes)

pub more_to_ask : (k n clusters : ℕ) → k + suc n ≡ clusters → nat_lt k clusters ≡ true
more_to_ask k n clusters is = grind arith

pub none_to_ask : (k clusters : ℕ) → k + 0 ≡ clusters → nat_lt k clusters ≡ false
none_to_ask k clusters is = grind arith

module _ (a : Global) (clusters : ℕ) where
  pub one_node : (bound : Pin) (n : Option Told) (k : ℕ) → nat_lt k clusters ≡ true → fed (at_node a clusters bound k) (node_reply n) ≡ at_node a clusters (fold lesser_pair bound (pairs_of (n ∷ []))) (k + 1)
  one_node bound None k less = rw less refl
  one_node bound (Some n) k less = rw less (ap (λ ps. at_node a clusters (fold lesser_pair bound ps) (k + 1)) (joined (n.head ∷ n.pins)))
    where
      joined : (ps : List Pin) → ps ≡ ps ++ []
      joined [] = refl
      joined (p ∷ ps) = ap (λ qs. p ∷ qs) (joined ps)

  pub pairs_more : (n : Option Told) (ns : List (Option Told)) (bound : Pin) → fold lesser_pair (fold lesser_pair bound (pairs_of (n ∷ []))) (pairs_of ns) ≡ fold lesser_pair bound (pairs_of (n ∷ ns))
  pairs_more None ns bound = refl
  pairs_more (Some n) ns bound =
      ap (λ b. fold lesser_pair b (pairs_of ns)) (fold-append lesser_pair bound (n.head ∷ n.pins) [])
      ∙ sym (fold-append lesser_pair bound (n.head ∷ n.pins) (pairs_of ns))

  each_node : (nodes : List (Option Told)) (bound : Pin) (k : ℕ) → k + length nodes ≡ clusters → (rest : List Reply)
      → collector_after (at_node a clusters bound k) (map node_reply nodes ++ rest) ≡ collector_after (record (begun a clusters) { bound = fold lesser_pair bound (pairs_of nodes); step = step.Settings }) rest
  each_node [] bound k is rest = rw (none_to_ask k clusters is) refl
  each_node (n ∷ ns) bound k is rest =
      ap (λ c. collector_after c (map node_reply ns ++ rest)) (one_node bound n k (more_to_ask k (length ns) clusters is))
      ∙ each_node ns (fold lesser_pair bound (pairs_of (n ∷ []))) (k + 1) (omega arith) rest
      ∙ ap (λ b. collector_after (record (begun a clusters) { bound = b; step = step.Settings }) rest) (pairs_more n ns bound)

pub takes_the_least : TakesTheLeast
takes_the_least a root settings nodes =
    each_node a (length nodes) nodes (root_pair root) 0 (omega arith) (reply.Found (Some settings) ∷ [])
    ∙ ap (λ b. record (begun a (length nodes)) { bound = b; step = step.First }) (sym (fold-append lesser_pair (root_pair root) (pairs_of nodes) (kept_pairs settings)))
