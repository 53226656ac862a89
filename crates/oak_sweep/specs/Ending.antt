-- What a sweep comes to.
use Rattle.std.specs.Prelude.{◌≡◌, ◌≢◌, ℕ, zero, suc, List, [], ◌∷◌, ◌++◌, fold, map, Contains, Option, None, Some}
use Rattle.std.specs.Option.{option_map_or}
use Rattle.std.specs.List.{filter_map}
use Rattle.std.specs.Map.{keys_of}
use Rattle.std.specs.declared.alloc.Global.{Global}
use Rattle.std.specs.declared.cmp.Ordering.TheVariants.{Greater, Less}
use Rattle.jr_path.specs.Ids.{id_cmp, node_path}
use Rattle.jr_path.specs.declared.path.Path.{Path}
use Rattle.jr_path.specs.declared.path.DocId.{DocId}
use Rattle.jr_path.specs.declared.path.DocId.TheVariants as id
use Rattle.jr_rev.specs.declared.revision.Revision.{Revision}
use Rattle.jr_rev.specs.Vectors.{Entries, IsVector, greatest, no_entries, raised}
use Rattle.oak_doc.specs.declared.document.Document.{Document}
use Rattle.oak_doc.specs.declared.asks.Ask.{Ask}
use Rattle.oak_doc.specs.declared.asks.Ask.TheVariants as ask
use Rattle.oak_doc.specs.declared.asks.MemoryAsk.TheVariants as memory
use Rattle.oak_doc.specs.declared.asks.Reply.{Reply}
use Rattle.oak_doc.specs.declared.asks.Reply.TheVariants as reply
use Rattle.oak_read.specs.Meaning.{documents_in}
use Rattle.oak_read.specs.Reading as reading
use Rattle.oak_sweep.specs.Sweeping.{begun, due, fed, sweep_op, target_in}
use Rattle.oak_sweep.specs.declared.sweeper.Sweeper.{Sweeper}

-- ---- over documents at rest

-- what documents at rest, and a memory, answer
abbrev pub sweeper_answer : List (DocId × Document) → Ask → Reply
sweeper_answer table (ask.Update op) = option_map_or (λ d. reply.Updated (Some d)) (documents_in table op.id) reply.Absent
sweeper_answer table (ask.Memory m) = reply.Learnt
sweeper_answer table a = reading.answer table a

-- a sweep after n replies of documents at rest, each to what is due
abbrev pub sweeper_after : List (DocId × Document) → ℕ → Sweeper → Sweeper
sweeper_after table zero s = s
sweeper_after table (suc n) s = sweeper_after table n (fed s (sweeper_answer table (due s)))

-- the first n things that it asks for
abbrev pub asked_first : List (DocId × Document) → ℕ → Sweeper → List Ask
asked_first table zero s = []
asked_first table (suc n) s = due s ∷ asked_first table n (fed s (sweeper_answer table (due s)))

-- the nodes of a table, in store order of their documents
abbrev pub nodes_of : List (DocId × Document) → List Path
nodes_of table = filter_map node_path (keys_of table)

-- what is asked for behind the root's document: each node's document, and then that the sweep is told
abbrev pub asks_behind : Revision → List Path → List Ask
asks_behind target nodes = map (λ p. ask.NextAfter (Some (id.Node p))) nodes ++ (ask.Update (sweep_op target) ∷ ask.Memory (memory.Learn no_entries (raised no_entries target)) ∷ [])

-- a sweep over documents at rest asks for the root's document, and for each node's in store order,
-- raises the entry of `_sweepRev` to what the cluster node had published, and is done
abbrev pub SweepsAll : Type 0
SweepsAll = (table : List (DocId × Document)) (a : Global) (cluster : ℕ) → reading.IsTable table
    → let target = target_in cluster (documents_in table (id.Node [])) in
    (n : ℕ) × (asked_first table n (begun a cluster) ≡ ask.Find (id.Node []) ∷ ask.NextAfter None ∷ asks_behind target (nodes_of table))
    × (due (sweeper_after table n (begun a cluster)) ≡ ask.Done) × ((sweeper_after table n (begun a cluster)).target ≡ target)

-- ---- over documents that come and go

-- the id is behind the one that is asked from
abbrev pub IsIdBehind : Option DocId → DocId → Type 0
IsIdBehind None y = Unit {0}
IsIdBehind (Some x) y = id_cmp x y ≡ Less

-- the document is y, or one before it
abbrev pub IsUpTo : DocId → Document → Type 0
IsUpTo y d = id_cmp d.id y ≢ Greater

-- where y is there: whoever asks for the first document behind an id that y is behind is answered with one, and it isn't behind y
abbrev pub KnowsOf : DocId → Ask → Reply → Type 0
KnowsOf y (ask.NextAfter x) r = IsIdBehind x y → (d : Document) × (r ≡ reply.Found (Some d)) × IsUpTo y d
KnowsOf y _ r = Unit {0}

-- documents at rest know of each document among them
abbrev pub TablesKnow : Type 0
TablesKnow = (table : List (DocId × Document)) → reading.IsTable table → (y : DocId) (d : Document) → documents_in table y ≡ Some d → (a : Ask) → KnowsOf y a (sweeper_answer table a)

-- each reply to what was due then knows of y
abbrev pub AllKnow : DocId → Sweeper → List Reply → Type 0
AllKnow y s [] = Unit {0}
AllKnow y s (r ∷ rs) = KnowsOf y (due s) r × AllKnow y (fed s r) rs

-- one of the replies was the document of y
abbrev pub WasShown : DocId → List Reply → Type 0
WasShown y rs = (d : Document) × Contains rs (reply.Found (Some d)) × (d.id ≡ y)

-- a sweep that comes to its update of the root was shown the document of a node, where each reply
-- knew of that document
abbrev pub MissesNone : Type 0
MissesNone = (p : Path) (a : Global) (cluster : ℕ) (rs : List Reply) → AllKnow (id.Node p) (begun a cluster) rs
    → (target : Revision) → due (fold fed (begun a cluster) rs) ≡ ask.Update (sweep_op target) → WasShown (id.Node p) rs

-- ---- what the memory learns

-- a sweep vector that learns it is raised to the one revision, and else stays
abbrev pub TeachesOne : Type 0
TeachesOne = (v : Entries) (r : Revision) → IsVector v → greatest v (raised no_entries r) ≡ raised v r
