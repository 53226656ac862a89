-- What contracts see of a world.
use Rattle.std.specs.Prelude.{ℕ, Bool, false, ⊤, List, [], ◌∷◌, ◌++◌, length, map, reverse, slice_get, slice_set, Option, Some, None}
use Rattle.std.specs.Option.{unwrap_or}
use Rattle.std.specs.List.{fold, range_with_len}
use Rattle.jr_path.specs.Ids.{names_of}
use Rattle.jr_path.specs.Lists.{Text}
use Rattle.jr_path.specs.declared.path.DocId.{DocId}
use Rattle.jr_rev.specs.Vectors.{start}
use Rattle.oak_changes.specs.declared.changes.ChangesReader.{ChangesReader}
use Rattle.oak_commit.specs.Committing.{Committing, is_past, meeting}
use Rattle.oak_commit.specs.Kept.{undoes, wants}
use Rattle.oak_commit.specs.Looking.{with_found}
use Rattle.oak_commit.specs.declared.look.Look.{Look}
use Rattle.oak_doc.specs.declared.document.Document.{Document}
use Rattle.oak_machine.specs.declared.event.Event.TheVariants as event
use Rattle.oak_machine.specs.declared.event.Journal.{Journal}
use Rattle.oak_machine.specs.History.{History, Past}
use Rattle.oak_node.specs.Memory.{NodeState, begun as begun_memory}
use Rattle.oak_read.specs.Meaning.{documents_in}
use Rattle.oak_read.specs.declared.reader.Reader.{Reader}
use Rattle.oak_store.specs.Tables.{Table}
use Rattle.core_clash.specs.Sessions.{Running}
use Rattle.core_keep.specs.Formers.{Formers}
use Rattle.core_tidy.specs.Tidying.{reader_of}
use Rattle.core_world.specs.Start.{start_table}
use Rattle.core_world.specs.States.{State, memory_at, with_memory}
use Rattle.oak_world.specs.declared.actor.Actor.{Actor}
use Rattle.oak_step.specs.declared.work.Work.{Work}
use Rattle.oak_step.specs.declared.work.Work.TheVariants as work
use Rattle.oak_saves.specs.Saves.{Parts, parts}
use Rattle.oak_tidy.specs.declared.tidying.Tidying.{Tidying}

-- ---- a world

-- what a session does, how many events there were when it was told so, the bytes that are reserved
-- for its reply, how many documents its loads have read, and whether it is attached to a checkpoint
pub record ActorState : Type 0 where
  pub work : Work
  pub began : ℕ
  pub reply : Option ℕ
  pub reads : ℕ
  pub attached : Bool

-- a session's part of the world, as it is shown
abbrev pub shown_actor : Actor → ActorState
shown_actor a = record {
  work = a.work;
  began = a.began;
  reply = a.reply;
  reads = a.reads;
  attached = a.attached;
}

-- the cluster nodes, the sessions and the events of a world that began at the initial tree
pub record Story : Type 0 where
  pub clusters : ℕ
  pub sessions : List ℕ
  pub past : Past

-- the history of a story, which begins with nothing
abbrev pub live : Story → History
live h = record { clusters = h.clusters; sessions = h.sessions; begin = None; past = h.past }

-- the story that a journal tells, the newest event first
abbrev pub story_of : Journal → Story
story_of j = record { clusters = j.clusters; sessions = j.sessions; past = reverse j.events.list }

-- a law, what the journal tells, the documents, the memories of the cluster nodes 1, 2 and so on,
-- and what each session does
pub record WorldOf (L : Type 0) : Type 0 where
  pub law : L
  pub history : Story
  pub table : Table
  pub memories : List NodeState
  pub actors : List ActorState

-- what is seen of a world's fields
abbrev pub shown_world : {L : Type 0} → L → Journal → Table → List NodeState → List Actor
    → WorldOf L
shown_world law j t ms actors = record {
  law = law;
  history = story_of j;
  table = t;
  memories = ms;
  actors = map shown_actor actors;
}

-- a session that does nothing
abbrev pub idle : ActorState
idle = record { work = work.Rest; began = 0; reply = None; reads = 0; attached = false }

-- what session s does, and what is kept for it
abbrev pub actor_in : List ActorState → ℕ → ActorState
actor_in actors s = unwrap_or (slice_get actors s) idle

-- the work of a session, among all
abbrev pub work_in : List ActorState → ℕ → Work
work_in actors s = (actor_in actors s).work

-- nothing is left to be done but to tell how a task ended
abbrev pub IsAtRest : Work → Type 0
IsAtRest work.Rest = ⊤
IsAtRest (work.Told e) = ⊤
IsAtRest _ = ⊥

-- what is told directly before the reply: how a split or a collection ended
abbrev pub told_first : Work → Past
told_first (work.Told e) = e ∷ []
told_first _ = []

-- the world of these cluster nodes and sessions before any step
abbrev pub start_world : {L : Type 0} → L → ℕ → List ℕ → WorldOf L
start_world law clusters sessions = record {
  law = law;
  history = record { clusters = clusters; sessions = sessions; past = [] };
  table = start_table clusters (length sessions);
  memories = map (λ k. begun_memory k (start clusters)) (range_with_len 1 clusters);
  actors = map (λ k. idle) sessions;
}

-- ---- a look

-- a document with what moved to these previous ones put back, where they are there
abbrev pub filled_by : Table → Document → List DocId → Document
filled_by t d ids = fold (λ x i. with_found x (documents_in t.documents i)) d ids

-- what a committer is to be once its look is through, where it looks
abbrev pub look_through : Table → Committing → Option Look → Committing
look_through t c None = c
look_through t c (Some k) =
    meeting c (names_of k.first) (Some (filled_by t k.document (k.first ∷ k.rest)))

-- a committer as it stands once it has found the previous documents for which it has still to ask:
-- the marks that it is to make are to come
abbrev pub once_looked : Table → Committing → Committing
once_looked t c = look_through t c c.looking

-- ---- its state

-- a committer at work, with its draw
abbrev pub running_as : ℕ → Committing → Running
running_as s c = record {
  draw = record {
    revision = c.revision;
    session = s;
    base = c.base;
    edit = c.edit;
    marks = c.marks;
  };
  writer = record c.writer { undoing = undoes c.outcome; wants = wants c.outcome };
  committed = is_past c.outcome;
}

-- a session's committer, where it commits: one that looks has the marks that are to come
abbrev pub running_of : Table → ℕ → Work → Option Running
running_of t s (work.Commit c) = Some (running_as s (once_looked t c))
running_of t s _ = None

-- the split or the collection that a session does
abbrev pub tidying_of : Work → Option Tidying
tidying_of (work.Tidy x) = Some x
tidying_of _ = None

-- a session's reader, where it loads, or splits and has read nothing
abbrev pub reading_of : Work → Option Reader
reading_of (work.Read r) = Some r
reading_of (work.Tidy x) = reader_of x
reading_of _ = None

-- the reader of what changed that a session's work has
abbrev pub observing_of : Work → Option ChangesReader
observing_of (work.Changes r) = Some r
observing_of _ = None

-- the state of a world: its story, its table, its nodes' memories and what its sessions do
abbrev pub state_with : Story → Table → List NodeState → List ActorState → State
state_with h t ms actors = record {
  clusters = h.clusters;
  sessions = h.sessions;
  begin = None;
  past = h.past;
  table = t;
  memories = ms;
  running = λ s. running_of t s (work_in actors s);
  reading = λ s. reading_of (work_in actors s);
  observing = λ s. observing_of (work_in actors s);
  formers = λ p k. None;
}

-- a state in which these former documents are told of
abbrev pub with_formers : State → Formers → State
with_formers x formers = record x { formers = formers }

-- all but the law, what is kept for replies, and what is told of former documents
abbrev pub state_of : {L : Type 0} → WorldOf L → State
state_of w = state_with w.history w.table w.memories w.actors

-- ---- one session's part

-- the cluster node of session s
abbrev pub node_in : Story → ℕ → ℕ
node_in h s = unwrap_or (slice_get h.sessions s) 0

-- the documents, the memory of the node of session s, and the events
abbrev pub parts_at : {L : Type 0} → WorldOf L → ℕ → Parts
parts_at w s = parts w.table (memory_at w.memories (node_in w.history s)) (reverse w.history.past)

-- the world with these parts of session s, which does this
abbrev pub with_parts : {L : Type 0} → WorldOf L → ℕ → Parts → ActorState → WorldOf L
with_parts w s p a = record {
  law = w.law;
  history = record {
    clusters = w.history.clusters;
    sessions = w.history.sessions;
    past = reverse p.list;
  };
  table = p.table;
  memories = with_memory w.memories (node_in w.history s) p.memory;
  actors = slice_set w.actors s a;
}

-- ---- what the other calls make of a world

-- the world where session s does this, since now
abbrev pub with_work : {L : Type 0} → WorldOf L → ℕ → Work → WorldOf L
with_work w s v = record w {
  actors = slice_set w.actors s
      (record (actor_in w.actors s) { work = v; began = length w.history.past });
}

-- the world where so many bytes are reserved for the reply of session s
abbrev pub with_reply : {L : Type 0} → WorldOf L → ℕ → Option ℕ → WorldOf L
with_reply w s bytes =
    record w { actors = slice_set w.actors s (record (actor_in w.actors s) { reply = bytes }) }

-- the story with these events more, the newest first
abbrev pub with_events : Story → Past → Story
with_events h es = record h { past = es ++ h.past }

-- the events of the reply of index i of a session that does this
abbrev pub reply_events : ℕ → ℕ → Text → Work → Past
reply_events s i text v = event.Said s i text ∷ told_first v

-- the world after session s has said its reply of index i, and before it how its task ended, where
-- that was to be told
abbrev pub said_in : {L : Type 0} → WorldOf L → ℕ → ℕ → Text → WorldOf L
said_in w s i text = record w {
  history = with_events w.history (reply_events s i text (work_in w.actors s));
  actors = slice_set w.actors s (record (actor_in w.actors s) { work = work.Rest; reply = None });
}
