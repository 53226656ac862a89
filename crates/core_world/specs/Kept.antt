-- What each world keeps: the journal is a run, the documents hold what it tells, the committers are
-- sound, the memories are those of the journal, and the readers read.
use Rattle.std.specs.Prelude.{◌≡◌, ◌==◌, ◌∷◌, ◌&&◌, ℕ, Bool, cond, not, IsTrue, List, [], drop, length, slice_get, Option, None, Some, IsFalse}
use Rattle.std.specs.BTreeMap.{is_at}
use Rattle.std.specs.FinMap.{is_sorted}
use Rattle.std.specs.Map.{lookup}
use Rattle.std.specs.Ordering.{eq_by_cmp, nat_cmp}
use Rattle.std.specs.List.{list_any}
use Rattle.jr_path.specs.Names.{name_cmp, path_cmp}
use Rattle.jr_path.specs.declared.path.DocId.TheVariants as id
use Rattle.jr_path.specs.Lists.{Text}
use Rattle.jr_rev.specs.declared.vector.Pin.{Pin}
use Rattle.oak_machine.specs.declared.event.Event.TheVariants as event
use Rattle.jr_path.specs.declared.path.Path.{Path}
use Rattle.jr_rev.specs.declared.revision.Revision.{Revision}
use Rattle.jr_rev.specs.declared.vector.RevVec.{RevVec}
use Rattle.oak_clash.specs.declared.mark.Mark.{Mark}
use Rattle.oak_commit.specs.Clashing.{Writer, has, has_mark}
use Rattle.oak_doc.specs.declared.document.Document.{Document}
use Rattle.oak_machine.specs.declared.event.Start.{Start}
use Rattle.oak_machine.specs.History.{Begin, Past}
use Rattle.oak_machine.specs.Commits.{is_committed, is_in_flight}
use Rattle.oak_machine.specs.Laws.{Says, Starts}
use Rattle.oak_machine.specs.Runs.{AreNodes, IsNode, IsRunOf}
use Rattle.oak_machine.specs.Sessions.{base_of, cursor_at, session_base, has_left, has_login, is_drawing, is_stopped, is_stopped_under, kept_checkpoint, last_checkpoint}
use Rattle.oak_node.specs.Memory.{NodeState}
use Rattle.oak_node.specs.Pins.{pin_of}
use Rattle.oak_changes.specs.declared.changes.ChangesReader.{ChangesReader}
use Rattle.oak_read.specs.declared.reader.Reader.{Reader}
use Rattle.oak_read.specs.Meaning.{documents_in}
use Rattle.oak_store.specs.Tables.{Table}
use Rattle.core_clash.specs.Core.{IsCleared}
use Rattle.core_clash.specs.Sessions.{IsTheirs, Running}
use Rattle.core_clash.specs.Sound.{Sound}
use Rattle.core_nodes.specs.Nodes.{cursor_owner, ArePinsOf, IsMemoryOf, IsOnRoot, IsPair, KeepsChanges, base_of_pin}
use Rattle.core_keep.specs.Formers.{AreFormers, Formers}
use Rattle.core_watch.specs.Reading.{ReadsTree}
use Rattle.core_changes.specs.Observing.{IsObserving}
use Rattle.jr_rev.specs.Vectors.{sees, start_of}
use Rattle.core_read.specs.Told.{IsIn}
use Rattle.core_keep.specs.Holding.{Holding}
use Rattle.core_begun.specs.Kept.{bounded_since, swept_since, IsKeptSince}
use Rattle.core_keep.specs.From.{course_from}
use Rattle.core_world.specs.Held.{holding_in}
use Rattle.core_world.specs.States.{State, origin, actor_pin, core_in, memory_at, memory_of, nodes_in}
use Rattle.core_world.specs.Steps.{paths_to_write}

-- ---- documents and committers

-- the committer has written the document of p, and hasn't undone it
abbrev pub has_written : Writer → Path → Bool
has_written w p = list_any (eq_by_cmp path_cmp p) w.written

-- the committers of all sessions, over the documents
pub record AreCommitting (start : Start) (past : Past) (t : Table) (running : ℕ → Option Running)
    : Type 0 where
  -- the writers of all draws, also of those that have ended, with which the core is sound
  pub writers : Revision → Writer
  pub sound : Sound (core_in start past t writers)
  -- the committers at work are those of their draws, and each writes the marked documents
  pub theirs : (s : ℕ) (x : Running) → running s ≡ Some x → IsTheirs past writers s x
  pub listed : (s : ℕ) (x : Running) → running s ≡ Some x
      → x.writer.paths ≡ paths_to_write x.draw.marks
  -- the documents keep what the past tells, and each draw in flight that isn't committed is written
  -- just where its writer has written
  pub kept : IsKeptSince start (documents_in t.documents) past (λ r. has_written (writers r))
  -- none at work is of a cluster node that was stopped
  pub unstopped : (s : ℕ) (x : Running) → running s ≡ Some x
      → IsFalse (is_stopped past x.draw.revision.cluster)

-- which sessions have a committer or a reader at work
pub record AreAtWork (sessions : List ℕ) (past : Past) (running : ℕ → Option Running)
    (reading : ℕ → Option Reader) : Type 0 where
  -- of cluster nodes that weren't stopped, those with a draw in flight have a committer
  pub idle : (s : ℕ) → running s ≡ None → IsFalse (is_stopped_under sessions past s)
      → IsFalse (is_drawing past s)
  -- whose committer is at work hasn't left
  pub stays : (s : ℕ) (x : Running) → running s ≡ Some x → IsFalse (has_left past s)
  -- of a stopped cluster node no session has a committer or a reader at work
  pub goes : (s : ℕ) (x : Running) → running s ≡ Some x → IsFalse (is_stopped_under sessions past s)
  pub reads : (s : ℕ) (r : Reader) → reading s ≡ Some r → IsFalse (is_stopped_under sessions past s)
  -- and none of one that has a draw in flight has left
  pub halted : (s : ℕ) → IsTrue (is_stopped_under sessions past s) → IsTrue (is_drawing past s)
      → IsFalse (has_left past s)

-- ---- memories

-- there is a memory for each cluster node, which is that of the past, with the pins of the node's
-- sessions, and with what the node's draws changed
pub record AreMemories (begin : Begin) (clusters : ℕ) (sessions : List ℕ) (past : Past)
    (memories : List NodeState) : Type 0 where
  pub counted : length memories ≡ clusters
  pub memory : (k : ℕ) → IsNode clusters k → IsMemoryOf begin clusters past k (memory_at memories k)
  pub pins : (k : ℕ) → IsNode clusters k → ArePinsOf sessions past k (memory_at memories k)
  -- what the draws of the node marked is noted as changed, as far back as the memory says
  pub changes : (k : ℕ) → IsNode clusters k → KeepsChanges past k (memory_at memories k)

-- ---- readers

-- the base of session s, from its login until it leaves
abbrev pub live_base : Past → ℕ → Option RevVec
live_base past s = cond (has_login past s && not (has_left past s)) (base_of past s) None

-- a pair sees what there was from the beginning and what the bounds so far see, in both vectors
pub record IsAboveBounds (start : Start) (past : Past) (x : Pin) : Type 0 where
  pub base : (r : Revision) → IsTrue (bounded_since start past r) → IsTrue (sees x.base r)
  pub sweep : (r : Revision) → IsTrue (swept_since start past r) → IsTrue (sees x.sweep r)

-- the readers of all sessions
pub record AreReading (start : Start) (past : Past) (t : Table) (formers : Formers)
    (reading : ℕ → Option Reader) : Type 0 where
  -- what is told of former documents is so
  pub told : AreFormers (documents_in t.documents) (course_from start past) formers
  -- each reads the tree
  pub reads : (s : ℕ) (r : Reader) → reading s ≡ Some r
      → ReadsTree start (documents_in t.documents) past formers r
  -- the pair of each is above the bounds so far
  pub above : (s : ℕ) (r : Reader) → reading s ≡ Some r → IsAboveBounds start past r.pin
  -- a reader reads at the base of its session, with a sweep vector that goes with it
  pub at_base : (s : ℕ) (r : Reader) → reading s ≡ Some r → live_base past s ≡ Some r.pin.base
  pub pairs : (s : ℕ) (r : Reader) → reading s ≡ Some r → IsPair r.pin.base r.pin.sweep

-- ---- readers of changes

-- a reader of changes of session s tells the commits between the session's cursor and its own pin
pub record IsBetweenPins (start : Start) (past : Past) (s : ℕ) (r : ChangesReader) : Type 0 where
  pub cursor : cursor_at past s ≡ Some r.from
  pub own : session_base past s ≡ Some r.pin.base
  -- the pin's sweep vector goes with its base
  pub pair : IsPair r.pin.base r.pin.sweep
  -- the pin sees what there was from the beginning and what the bounds so far see, and so does the
  -- cursor
  pub above : IsAboveBounds start past r.pin
  pub above_cursor : (o : Revision) → IsTrue (bounded_since start past o) → IsTrue (sees r.from o)

-- what is kept of all readers of changes
pub record AreObserving (start : Start) (sessions : List ℕ) (past : Past) (t : Table)
    (formers : Formers) (observing : ℕ → Option ChangesReader) : Type 0 where
  -- of a stopped cluster node no session has one
  pub goes : (s : ℕ) (r : ChangesReader) → observing s ≡ Some r
      → IsFalse (is_stopped_under sessions past s)
  -- the owner of its cursor is no session
  pub apart : (s : ℕ) (r : ChangesReader) → observing s ≡ Some r
      → slice_get sessions (cursor_owner s) ≡ None
  pub between : (s : ℕ) (r : ChangesReader) → observing s ≡ Some r → IsBetweenPins start past s r
  -- what it has told so far are the changes at the documents that it has passed
  pub tells : (s : ℕ) (r : ChangesReader) → observing s ≡ Some r
      → IsObserving start (documents_in t.documents) past formers r

-- ---- the root

-- a sweep vector sees the start of each cluster node
abbrev pub SeesStarts : ℕ → RevVec → Type 0
SeesStarts clusters sweep = (k : ℕ) → IsNode clusters k → IsTrue (sees sweep (start_of k))

-- the root's document is there; it tells what is public, and how far each cluster node has swept,
-- from its start on
pub record IsRootKept (begin : Begin) (clusters : ℕ) (past : Past) (t : Table) : Type 0 where
  pub document : Document
  pub there : nodes_in t [] ≡ Some document
  pub tells : IsOnRoot begin clusters past document.last_rev document.sweep_rev
  pub begun : SeesStarts clusters document.sweep_rev

-- the root told these vectors at some moment so far
abbrev pub WereOnRoot : Begin → ℕ → Past → RevVec → RevVec → Type 0
WereOnRoot begin clusters past last sweep =
    (n : ℕ) × IsOnRoot begin clusters (drop n past) last sweep

-- ---- the settings

-- the vector of the checkpoint that session s attached to, until it is detached
abbrev pub reader_at : Past → ℕ → Option RevVec
reader_at [] s = None
reader_at (event.Attach t id ∷ past) s = cond (t == s) (last_checkpoint past id) (reader_at past s)
reader_at (event.Detach t ∷ past) s = cond (t == s) None (reader_at past s)
reader_at (_ ∷ past) s = reader_at past s

-- what the settings' document keeps
pub record AreSettingsKept (sessions : List ℕ) (past : Past) (t : Table) : Type 0 where
  pub document : Document
  pub there : documents_in t.documents id.Settings ≡ Some document
  pub ordered : IsTrue (is_sorted name_cmp document.checkpoints)
  pub numbered : IsTrue (is_sorted nat_cmp document.readers)
  -- exactly the last checkpoint of each id that wasn't released since, with a sweep vector of its
  pub checkpoints : (id : Text)
      → base_of_pin (lookup (is_at (name_cmp id)) document.checkpoints) ≡ kept_checkpoint past id
  pub checkpoint_pairs : (id : Text) (pin : Pin)
      → lookup (is_at (name_cmp id)) document.checkpoints ≡ Some pin → IsPair pin.base pin.sweep
  -- a reader for each session that is attached and wasn't detached since, unless its cluster node
  -- was stopped, and for no other, each with a sweep vector of its
  pub readers : (s : ℕ) → IsFalse (is_stopped_under sessions past s)
      → base_of_pin (lookup (is_at (nat_cmp s)) document.readers) ≡ reader_at past s
  pub only : (s : ℕ) (pin : Pin) → lookup (is_at (nat_cmp s)) document.readers ≡ Some pin
      → reader_at past s ≡ Some pin.base
  pub reader_pairs : (s : ℕ) (pin : Pin) → lookup (is_at (nat_cmp s)) document.readers ≡ Some pin
      → IsPair pin.base pin.sweep

-- ---- the whole

-- what sessions, their commits, readers and memories keep
pub record AreSessionsKept (starts : Starts) (says : Says) (w : State) : Type 0 where
  -- sessions are at cluster nodes, and the past is that of a run
  pub nodes : AreNodes w.clusters w.sessions
  pub run : IsRunOf starts says w.clusters w.sessions w.begin w.past
  -- commits in flight, and who is at work
  pub committing : AreCommitting (origin w) w.past w.table w.running
  pub working : AreAtWork w.sessions w.past w.running w.reading
  -- the memory of each cluster node is that of the past
  pub memories : AreMemories w.begin w.clusters w.sessions w.past w.memories
  -- readers, and readers of changes
  pub readers : AreReading (origin w) w.past w.table w.formers w.reading
  pub observers : AreObserving (origin w) w.sessions w.past w.table w.formers w.observing

-- what is kept of sessions, of the root and of the settings
pub record AreLayersKept (starts : Starts) (says : Says) (w : State) : Type 0 where
  pub sessions : AreSessionsKept starts says w
  pub root : IsRootKept w.begin w.clusters w.past w.table
  pub settings : AreSettingsKept w.sessions w.past w.table

-- all that is held is above the beginning and the bounds so far: heads, pins, and what the settings
-- keep
pub record AreAboveBounds (start : Start) (past : Past) (h : Holding) : Type 0 where
  pub heads : (k : ℕ) → IsFalse (h.gone k) → IsAboveBounds start past (h.heads k)
  pub pins : (k : ℕ) → IsFalse (h.gone k) → (x : Pin) → IsIn x (h.pins k)
      → IsAboveBounds start past x
  pub kept : (x : Pin) → IsIn x h.kept → IsAboveBounds start past x

-- each reader at work reads at a pin of its session
pub record IsPinned (w : State) : Type 0 where
  -- each reader reads at the pin of its session
  pub reads : (s : ℕ) (r : Reader) → w.reading s ≡ Some r → actor_pin w s ≡ Some r.pin
  -- each reader of changes tells them up to its session's own pin, attached or not
  pub observes : (s : ℕ) (r : ChangesReader) → w.observing s ≡ Some r
      → pin_of (memory_of w s) s ≡ Some r.pin

-- what each step of a world keeps
pub record IsKept (starts : Starts) (says : Says) (w : State) : Type 0 where
  -- the journal is a run, the documents hold what it tells, committers are sound, memories are the
  -- journal's, and readers read
  pub sessions : AreSessionsKept starts says w
  -- the root tells what is public
  pub root : IsRootKept w.begin w.clusters w.past w.table
  -- the settings have the checkpoints that are kept, and who is attached
  pub settings : AreSettingsKept w.sessions w.past w.table
  -- all that is held sees what there was from the beginning and what the bounds so far see
  pub above : AreAboveBounds (origin w) w.past (holding_in w)
  -- each reader reads at a pin of its session
  pub pinned : IsPinned w
  -- the sweep vector of each memory sees each start
  pub begun : (k : ℕ) → IsNode w.clusters k → SeesStarts w.clusters (memory_at w.memories k).sweep

-- ---- what is left of a revision

-- a document has no entry of r, but for its collisions
pub record IsFreeOf (r : Revision) (d : Document) : Type 0 where
  pub marks : (m : Mark) → IsFalse (has_mark d r m)
  pub root : IsFalse (has d.commit_root r)
  pub said : IsFalse (has d.revisions r)

-- no document has anything of what cluster node k has in flight and hasn't committed
abbrev pub IsClearedOf : State → ℕ → Type 0
IsClearedOf w k =
    (r : Revision) → r.cluster ≡ k → IsTrue (is_in_flight w.past r)
    → IsFalse (is_committed w.past r) → IsCleared (nodes_in w.table) r
