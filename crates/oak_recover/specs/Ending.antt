-- What a recovery comes to over documents at rest.
use Rattle.std.specs.Prelude.{◌≡◌, ℕ, zero, suc, ◌-◌, ◌^◌, min, cond, List, [], ◌∷◌, ◌++◌, length, map, Option, Some, None}
use Rattle.std.specs.Option.{option_and_then, option_map_or}
use Rattle.std.specs.List.{filter_map, flat_map, fold}
use Rattle.std.specs.declared.alloc.Global.{Global}
use Rattle.jr_path.specs.Ids.{node_path}
use Rattle.jr_path.specs.declared.path.Path.{Path}
use Rattle.jr_path.specs.declared.path.DocId.{DocId}
use Rattle.jr_path.specs.declared.path.DocId.TheVariants as id
use Rattle.jr_rev.specs.declared.revision.Revision.{Revision}
use Rattle.jr_rev.specs.declared.vector.RevVec.{RevVec}
use Rattle.jr_rev.specs.Revisions.{is_before}
use Rattle.oak_doc.specs.declared.document.Document.{Document}
use Rattle.oak_doc.specs.declared.asks.Ask.{Ask}
use Rattle.oak_doc.specs.declared.asks.Ask.TheVariants as ask
use Rattle.oak_doc.specs.declared.asks.Reply.{Reply}
use Rattle.oak_doc.specs.declared.asks.Reply.TheVariants as reply
use Rattle.oak_read.specs.Meaning.{documents_in}
use Rattle.oak_read.specs.Reading as reading
use Rattle.oak_sync.specs.Upward.{AreUpward}
use Rattle.oak_recover.specs.Dead.{committed_in, dead_in}
use Rattle.oak_recover.specs.Reading.{with_later}
use Rattle.oak_recover.specs.Recovering.{Feeds, begun, due, published_in, dead_id}
use Rattle.oak_recover.specs.declared.recovery.Recovery.{Recovery}

-- what documents at rest, and a memory, answer; an undo of a dead revision takes no status, and no entry of another document
abbrev pub recovery_answer : List (DocId × Document) → Ask → Reply
recovery_answer table (ask.Update op) = option_map_or (λ d. reply.Updated (Some d)) (documents_in table op.id) reply.Absent
recovery_answer table (ask.Undo r) = reply.Undone
recovery_answer table (ask.Memory m) = reply.Recovered
recovery_answer table a = reading.answer table a

-- a recovery before each of its asks, where documents at rest answer them
pub record IsRecoveryRun (table : List (DocId × Document)) (first : Recovery) (run : ℕ → Recovery) : Type 0 where
  pub begins : run 0 ≡ first
  pub next : (n : ℕ) → Feeds (run n) (recovery_answer table (due (run n))) (run (suc n))

-- what is undone where by what is asked, if a revision is
abbrev pub undone_asked : Recovery → Ask → List (DocId × Revision)
undone_asked s (ask.Undo r) = (dead_id s, r) ∷ []
undone_asked s _ = []

-- what a recovery undoes where by the ask that is due, if a revision is
abbrev pub undone_at : Recovery → List (DocId × Revision)
undone_at s = undone_asked s (due s)

-- what is undone in the first n asks
abbrev pub undone_by : (ℕ → Recovery) → ℕ → List (DocId × Revision)
undone_by run zero = []
undone_by run (suc n) = undone_by run n ++ undone_at (run n)

-- the greatest of some revisions
abbrev pub greatest_found : List Revision → Option Revision
greatest_found rs = fold with_later None rs

module _ (table : List (DocId × Document)) (t : RevVec) (k : ℕ) where
  -- how far the stopped node has published
  abbrev pub published : Revision
  published = published_in k (documents_in table (id.Node []))

  -- the documents of nodes, in store order
  abbrev pub documents_of_nodes : List Document
  documents_of_nodes = filter_map (λ e. option_map_or (λ p. Some e.1) (node_path e.0) None) table

  -- what is dead, document by document, in store order, each in ascending order
  abbrev pub dead : List (DocId × Revision)
  dead = flat_map (λ d. map (λ r. (d.id, r)) (dead_in (documents_in table) t k published d)) documents_of_nodes

  -- the greatest committed revision of k in a document, behind what was published
  abbrev pub latest_in : Document → Option Revision
  latest_in d = greatest_found (committed_in (documents_in table) t k published d)

  -- the later of a revision and of that
  abbrev pub with_latest : Revision → Document → Revision
  with_latest u d = option_map_or (λ r. cond (is_before u r) r u) (latest_in d) u

  -- the nodes of documents that have one
  abbrev pub noted : List Document → List Path
  noted docs = filter_map (λ d. option_and_then (λ r. node_path d.id) (latest_in d)) docs

  -- after n asks it has ended: it has undone what is dead, and counted that as far as can be told; it has told the documents with committed revisions, and all that is above them, the greatest of these, or what was published where there is none
  pub record EndsBy (run : ℕ → Recovery) (n : ℕ) : Type 0 where
    pub done : due (run n) ≡ ask.Done
    pub undone : undone_by run n ≡ dead
    pub count : (run n).undone ≡ min (length dead) (2 ^ 64 - 1)
    pub noted_ : (run n).noted ≡ noted documents_of_nodes
    pub told : AreUpward (run n).noted (run n).paths
    pub upto : (run n).upto ≡ fold with_latest published documents_of_nodes

-- every recovery over documents at rest ends so
abbrev pub RecoversAll : Type 0
RecoversAll = (table : List (DocId × Document)) (a : Global) (k : ℕ) (sessions : List ℕ) (t : RevVec) (run : ℕ → Recovery) → reading.IsTable table
    → IsRecoveryRun table (begun a k sessions t) run → (n : ℕ) × EndsBy table t k run n
