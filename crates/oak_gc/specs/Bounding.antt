-- The bound that a collector comes to.
use Rattle.std.specs.Prelude.{◌≡◌, List, [], ◌∷◌, ◌++◌, length, map, Option, None, Some}
use Rattle.std.specs.List.{filter_map, fold}
use Rattle.std.specs.declared.alloc.Global.{Global}
use Rattle.oak_doc.specs.declared.asks.Reply.{Reply}
use Rattle.oak_doc.specs.declared.asks.Reply.TheVariants as reply
use Rattle.oak_doc.specs.declared.document.Document.{Document}
use Rattle.oak_gc.specs.Bounds.{Told, bound_of}
use Rattle.oak_gc.specs.Collecting.{begun, fed}
use Rattle.oak_gc.specs.declared.collector.Collector.{Collector}
use Rattle.oak_gc.specs.declared.reading.Step.TheVariants as step

-- a collector after some replies
abbrev pub collector_after : Collector → List Reply → Collector
collector_after c rs = fold fed c rs

-- the reply of a cluster node: its head and its pins, or that it is recovered
abbrev pub node_reply : Option Told → Reply
node_reply (Some n) = reply.Pins n.head.base n.head.sweep n.pins
node_reply None = reply.Gone

-- the replies to what a collector asks for its bound: the root, each cluster node, and the settings last
abbrev pub bounding_replies : Document → List (Option Told) → Document → List Reply
bounding_replies root nodes settings = reply.Found (Some root) ∷ (map node_reply nodes ++ reply.Found (Some settings) ∷ [])

-- the cluster nodes that aren't recovered
abbrev pub those_that_tell : List (Option Told) → List Told
those_that_tell nodes = filter_map (λ n. n) nodes

-- once it is fed these replies, the bound of a collector is the least of all pairs in them, and it asks for the first document
abbrev pub TakesTheLeast : Type 0
TakesTheLeast = (a : Global) (root settings : Document) (nodes : List (Option Told))
    → collector_after (begun a (length nodes)) (bounding_replies root nodes settings) ≡ record (begun a (length nodes)) { bound = bound_of root (those_that_tell nodes) settings; step = step.First }
