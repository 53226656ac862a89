-- The state of a world: all but the tasks of its sessions.
use Rattle.oak_machine.specs.Sessions.{is_attached}
use Rattle.jr_rev.specs.declared.vector.Pin.{Pin}
use Rattle.std.specs.Ordering.{nat_cmp}
use Rattle.std.specs.BTreeMap.{is_at}
use Rattle.std.specs.Map.{lookup}
use Rattle.std.specs.Prelude.{ℕ, ◌-◌, cond, ◌==◌, List, [], slice_get, slice_set, Option, None}
use Rattle.std.specs.List.{filter_map}
use Rattle.std.specs.Option.{option_map_or, unwrap_or, option_and_then}
use Rattle.jr_path.specs.declared.path.Path.{Path}
use Rattle.jr_path.specs.declared.path.DocId.TheVariants as id
use Rattle.jr_rev.specs.declared.revision.Revision.{Revision}
use Rattle.jr_rev.specs.declared.vector.RevVec.{RevVec}
use Rattle.jr_rev.specs.Vectors.{no_entries, sees}
use Rattle.oak_changes.specs.declared.changes.ChangesReader.{ChangesReader}
use Rattle.oak_commit.specs.Clashing.{Writer}
use Rattle.oak_doc.specs.declared.document.Document.{Document}
use Rattle.oak_doc.specs.declared.document.PrevEntry.{PrevEntry}
use Rattle.oak_machine.specs.declared.event.Start.{Start}
use Rattle.oak_machine.specs.History.{Begin, History, Past}
use Rattle.core_begun.specs.Told.{start_in}
use Rattle.oak_node.specs.Memory.{NodeState, begun}
use Rattle.oak_node.specs.Pins.{pin_of}
use Rattle.oak_read.specs.declared.reader.Reader.{Reader}
use Rattle.oak_read.specs.Meaning.{documents_in}
use Rattle.oak_store.specs.Tables.{Table}
use Rattle.core_keep.specs.Formers.{Formers}
use Rattle.core_clash.specs.Core.{Core}
use Rattle.core_clash.specs.Sessions.{Running}

-- all of a world: its nodes and sessions, its past, its documents, memories, committers and readers
pub record State : Type 0 where
  -- the number of cluster nodes, and the cluster node of each session
  pub clusters : ℕ
  pub sessions : List ℕ
  -- what the journal begins with
  pub begin : Begin
  -- the events so far, the newest first
  pub past : Past
  pub table : Table
  -- the memories of the cluster nodes 1, 2 and so on
  pub memories : List NodeState
  -- of each session the committer at work, from its draw to the end
  pub running : ℕ → Option Running
  -- the reader of its load or list
  pub reading : ℕ → Option Reader
  -- and the reader of what commits changed since its cursor
  pub observing : ℕ → Option ChangesReader
  -- the former documents of the previous documents that were listed so far
  pub formers : Formers

-- what the journal of a state tells
abbrev pub history_in : State → History
history_in w =
    record { clusters = w.clusters; sessions = w.sessions; begin = w.begin; past = w.past }

-- the start of its journal
abbrev pub origin : State → Start
origin w = start_in w.clusters w.begin

-- of the sessions, s has this now, and the others have what they had
abbrev pub with_session : {X : Type 0} → (ℕ → Option X) → ℕ → Option X → ℕ → Option X
with_session has s x q = cond (q == s) x (has q)

-- ---- documents

-- the documents of the nodes in a table, by their paths
abbrev pub nodes_in : Table → Path → Option Document
nodes_in t p = documents_in t.documents (id.Node p)

-- of each node what its document lists as previous documents
abbrev pub listed_at : Table → Path → List PrevEntry
listed_at t p = option_map_or (λ d. d.prev) (nodes_in t p) []

-- of each node the previous documents that its document lists and that are there
abbrev pub moved_in : Table → Path → List Document
moved_in t p =
    option_map_or (λ d. filter_map (λ e. documents_in t.documents (id.Prev e.number p)) d.prev)
    (nodes_in t p) []

-- the core of many committers: the documents with the previous ones that they list, what there was
-- from the beginning, the events so far, and the writer of each draw
abbrev pub core_in : Start → Past → Table → (Revision → Writer) → Core
core_in start past t writers = record {
  number = t.number;
  docs = nodes_in t;
  moved = moved_in t;
  old = sees start.at;
  past = past;
  writers = writers;
}

-- ---- memories

-- the memory of cluster node k
abbrev pub memory_at : List NodeState → ℕ → NodeState
memory_at memories k = unwrap_or (slice_get memories (k - 1)) (begun k no_entries)

-- the memories, with this one of cluster node k
abbrev pub with_memory : List NodeState → ℕ → NodeState → List NodeState
with_memory memories k m = slice_set memories (k - 1) m

-- the cluster node of session s
abbrev pub node_of : State → ℕ → ℕ
node_of w s = unwrap_or (slice_get w.sessions s) 0

-- the memory of the cluster node of session s
abbrev pub memory_of : State → ℕ → NodeState
memory_of w s = memory_at w.memories (node_of w s)

-- the base of session s: that of its pin
abbrev pub base_in : State → ℕ → RevVec
base_in w s = option_map_or (λ pin. pin.base) (pin_of (memory_of w s) s) (memory_of w s).head

-- the pair that the settings keep for session s, where they have it as a reader
abbrev pub reader_pin : Table → ℕ → Option Pin
reader_pin t s =
    option_and_then (λ d. lookup (is_at (nat_cmp s)) d.readers)
    (documents_in t.documents id.Settings)

-- the pin at which session s reads: while it is attached that of the settings, else that of its
-- node's memory
abbrev pub actor_pin : State → ℕ → Option Pin
actor_pin w s = cond (is_attached w.past s) (reader_pin w.table s) (pin_of (memory_of w s) s)
