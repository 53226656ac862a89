-- One step of a session: on the documents, on the memory of its cluster node, and on the events.
use Rattle.std.specs.Prelude.{◌≡◌, ◌≢◌, ◌⊎◌, ◌<◌, ◌≤◌, ◌-◌, ◌^◌, ℕ, false, List, [], ◌∷◌, ◌++◌, Option, Some, None, IsSome, IsTrue, is_some}
use Rattle.std.specs.declared.alloc.Global.{Global}
use Rattle.jr_rev.specs.declared.revision.Revision.{Revision}
use Rattle.jr_rev.specs.Vectors.{no_entries, raised, sees}
use Rattle.oak_changes.specs.declared.changes.ChangesReader.{ChangesReader}
use Rattle.oak_changes.specs.declared.changes.Step.TheVariants as observed
use Rattle.oak_changes.specs.Reading as changes
use Rattle.oak_clash.specs.Clashes.{marked_paths}
use Rattle.oak_commit.specs.Committing.{Committing, begun, is_past, wanting}
use Rattle.oak_commit.specs.Stages.{stage_of}
use Rattle.oak_commit.specs.declared.outcome.CommitEnd.TheVariants as end
use Rattle.oak_commit.specs.declared.stage.Stage.TheVariants as stage
use Rattle.oak_doc.specs.declared.asks.Ask.{Ask}
use Rattle.oak_doc.specs.declared.asks.Ask.TheVariants as ask
use Rattle.oak_machine.specs.declared.event.Event.{Event}
use Rattle.oak_machine.specs.declared.event.Event.TheVariants as event
use Rattle.oak_machine.specs.declared.event.StepKind.{StepKind}
use Rattle.oak_machine.specs.declared.event.StepKind.TheVariants as kind
use Rattle.oak_node.specs.Heads.{AwaitsEarlier, HasEnded, known_time, learned, next_draw, with_draw}
use Rattle.oak_node.specs.Memory.{NodeState}
use Rattle.oak_node.specs.Notes.{IsPending, with_notes, without_seen}
use Rattle.oak_node.specs.Pins.{pin_now, pin_of, with_pin}
use Rattle.oak_read.specs.declared.reader.Reader.{Reader}
use Rattle.oak_read.specs.declared.reader.ReadOut.TheVariants as out
use Rattle.oak_read.specs.declared.reader.Step.{Step}
use Rattle.oak_read.specs.declared.reader.Step.TheVariants as step
use Rattle.oak_read.specs.Reading.{answer, due, fed as fed_reader}
use Rattle.oak_sweep.specs.Sweeping as sweeping
use Rattle.oak_sweep.specs.declared.stage.Stage.{Stage as Swept}
use Rattle.oak_sweep.specs.declared.stage.Stage.TheVariants as swept
use Rattle.oak_sweep.specs.declared.sweeper.Sweeper.{Sweeper}
use Rattle.oak_sync.specs.Learning as learning
use Rattle.oak_sync.specs.Publishing as publishing
use Rattle.oak_sync.specs.declared.back_read.BackRead.{BackRead}
use Rattle.oak_sync.specs.declared.back_write.BackWrite.{BackWrite}
use Rattle.oak_sync.specs.declared.stage.Stage.{Stage as Syncing}
use Rattle.oak_sync.specs.declared.stage.Stage.TheVariants as syncing
use Rattle.oak_store.specs.Tables.{Table}
use Rattle.core_nodes.specs.Nodes.{cursor_owner, without_session}
use Rattle.core_world.specs.Steps.{after_update, setting_op}
pub use Rattle.oak_acts.specs.Acts.{after_ask, answered_by, pinned_base, replied}
use Rattle.oak_saves.specs.Saves.{Parts, Saving, parts, parts_ended, saving, UpdatesDocument, needed_by, CanCommit}
use Rattle.oak_step.specs.declared.upkeep.Upkeep.{Upkeep}
use Rattle.oak_step.specs.declared.upkeep.Upkeep.TheVariants as upkeep
use Rattle.oak_step.specs.Upkeeps.{set_checkpoint}
use Rattle.oak_node.specs.declared.pending.Pending.{Pending}
use Rattle.oak_doc.specs.declared.update.Change.TheVariants as change
use Rattle.jr_rev.specs.declared.vector.Pin.{Pin}
use Rattle.oak_step.specs.declared.work.Work.{Work}
use Rattle.oak_step.specs.declared.work.Work.TheVariants as work
use Rattle.oak_port.specs.declared.task.StepOut.{StepOut}
use Rattle.oak_port.specs.declared.task.StepOut.TheVariants as answers
use Rattle.oak_port.specs.declared.task.TaskEnd.{TaskEnd}
use Rattle.oak_port.specs.declared.task.TaskEnd.TheVariants as ends

-- who makes a step, session s of cluster node k, and the parts before it
pub record Stepping : Type 0 where
  pub session : ℕ
  pub node : ℕ
  pub old : Parts

-- a step of session s of cluster node k from these parts
abbrev pub stepping : ℕ → ℕ → Parts → Stepping
stepping s k p = record { session = s; node = k; old = p }

-- ---- loads

-- what a task ends with whose reader is done
abbrev pub end_of_reading : Step → Option TaskEnd
end_of_reading (step.Done (out.Node n)) = Some (ends.Node n)
end_of_reading (step.Done (out.Children ns)) = Some (ends.Children ns)
end_of_reading _ = None

-- the reader, once the documents have answered what it asked
abbrev pub read_on : Table → Reader → Reader
read_on t r = fed_reader r (answer t.documents (due r))

-- the reader is fed what the documents answer; where nothing more is due then, the task ends with
-- what it gives
abbrev pub ReadsNext : Table → Reader → Work → StepOut → Type 0
ReadsNext t r v (answers.Went kind.Read) =
    (v ≡ work.Read (read_on t r)) × (due (read_on t r) ≢ ask.Done)
ReadsNext t r v (answers.Ready e) = (v ≡ work.Rest) × (end_of_reading (read_on t r).step ≡ Some e)
ReadsNext t r v answers.Memory = v ≡ work.Rest
ReadsNext t r v _ = ⊥

-- ---- what commits changed

-- the reader of changes, once the documents have answered what it asked
abbrev pub changes_on : Table → ChangesReader → ChangesReader
changes_on t r = changes.fed r (answer t.documents (changes.due r))

-- the reader of changes is fed what the documents answer; where nothing more is due then, the task
-- ends with what the commits changed
abbrev pub ReadsChangesOn : Table → ChangesReader → Work → StepOut → Type 0
ReadsChangesOn t r v (answers.Went kind.Read) =
    (v ≡ work.Changes (changes_on t r)) × (changes.due (changes_on t r) ≢ ask.Done)
ReadsChangesOn t r v (answers.Ready (ends.Changes commits)) =
    (v ≡ work.Rest) × ((changes_on t r).step ≡ observed.Done commits)
ReadsChangesOn t r v answers.Memory = v ≡ work.Rest
ReadsChangesOn t r v _ = ⊥

-- ---- a commit

-- what a session does then whose commit has ended so: of an accepted one the base is to move, and a
-- refused one is over
abbrev pub EndsSo : Committing → Work → StepOut → Type 0
EndsSo c v (answers.Went kind.Finish) = IsTrue (is_past c.outcome) × (v ≡ work.Move c.revision)
EndsSo c v (answers.Ready (ends.Commit e)) =
    (c.outcome ≡ Some e) × (is_past c.outcome ≡ false) × (v ≡ work.Rest)
EndsSo c v _ = ⊥

-- the revision of a commit ends
abbrev pub EndsCommit : Stepping → Committing → Parts → Work → StepOut → Type 0
EndsCommit a c q v o = (stage_of c ≡ stage.Finish) × (q ≡ parts_ended a.node a.old c.revision)
    × EndsSo c v o

-- the operation that is due is made, or answered
abbrev pub CommitGoesOn : ℕ → Saving → Saving → StepOut → Type 0
CommitGoesOn s old new o = (x : StepKind) × (o ≡ answers.Went x) × UpdatesDocument s old new x

-- memory is refused for it: nothing changes, but that the commit turns to undoing
pub record IsGivenUp (old new : Saving) (o : StepOut) : Type 0 where
  pub answer : o ≡ answers.Memory
  pub going : old.committer.outcome ≡ None
  pub table : new.table ≡ old.table
  pub list : new.list ≡ old.list
  pub committer : new.committer ≡ wanting old.committer

-- a step of a committer's update goes on, or gives up for want of memory
abbrev pub UpdatesOn : ℕ → Saving → Saving → StepOut → Type 0
UpdatesOn s old new o = CommitGoesOn s old new o ⊎ IsGivenUp old new o

-- a step of a commit: its end, or an operation on a document, which leaves the memory
abbrev pub CommitsOn : Stepping → Committing → Parts → Work → StepOut → Type 0
CommitsOn a c q v o =
    EndsCommit a c q v o ⊎ ((q.memory ≡ a.old.memory) × (d : Committing) × (v ≡ work.Commit d)
    × UpdatesOn a.session (saving a.old.table a.old.list c) (saving q.table q.list d) o)

-- the base moves to the head once that sees r, and awaits an earlier revision until then
abbrev pub Moves : Stepping → Revision → Parts → Work → StepOut → Type 0
Moves a r q v (answers.Wait o) = (q ≡ a.old) × (v ≡ work.Move r) × AwaitsEarlier a.old.memory r o
Moves a r q v (answers.Ready (ends.Commit (end.Committed o))) =
    (o ≡ r) × IsTrue (sees a.old.memory.head r)
    × (q ≡ parts a.old.table (with_pin a.old.memory a.session (pin_now a.old.memory))
    (a.old.list ++ event.Refresh a.session a.old.memory.head ∷ []))
    × (v ≡ work.Rest)
Moves a r q v _ = ⊥

-- ---- all

-- memory was refused: nothing is changed, and the task has ended
abbrev pub Refused : Parts → Parts → Work → Type 0
Refused p q v = (q ≡ p) × (v ≡ work.Rest)

-- a background write, once the documents have answered what it asked
abbrev pub published_on : Table → BackWrite → BackWrite
published_on t b = publishing.fed b (answered_by t (publishing.due b))

-- a background write makes the update that is due, and is fed the answer; where that is the root's,
-- its revision is published, and the task ends
abbrev pub PublishesOn : Stepping → BackWrite → Parts → Work → StepOut → Type 0
PublishesOn a b q v (answers.Went kind.Back) =
    (publishing.stage_of b ≡ syncing.Write)
    × (q ≡ parts (after_ask a.old.table (publishing.due b)) a.old.memory
    (a.old.list ++ event.Went a.session kind.Back ∷ []))
    × (v ≡ work.Upkeep (upkeep.Publish (published_on a.old.table b)))
PublishesOn a b q v (answers.Ready (ends.Published o)) =
    (publishing.stage_of b ≡ syncing.Publish) × (o ≡ b.upto)
    × (q ≡ parts (after_ask a.old.table (publishing.due b)) a.old.memory
    (a.old.list ++ event.Out a.node b.upto ∷ []))
    × (v ≡ work.Rest)
PublishesOn a b q v answers.Memory = Refused a.old q v
PublishesOn a b q v _ = ⊥

-- a background write begins with the notes that it took, and makes its first update, or memory is
-- refused
abbrev pub PublishesFirst : Stepping → Pending → Parts → Work → StepOut → Type 0
PublishesFirst a n q v o =
    ((o ≡ answers.Memory) × Refused a.old q v)
    ⊎ ((g : Global) × (b : BackWrite) × publishing.HasWrittenNothing g n b
    × PublishesOn a b q v o)

-- a background read, once the documents have answered what it asked
abbrev pub learned_on : Table → BackRead → BackRead
learned_on t b = learning.fed b (answered_by t (learning.due b))

-- a background read is fed the root's document; then the memory learns the two vectors that it
-- read, and the task ends
abbrev pub LearnsOn : Stepping → BackRead → Parts → Work → StepOut → Type 0
LearnsOn a b q v (answers.Went kind.Back) =
    (learning.stage_of b ≡ syncing.Read)
    × (q ≡ parts (after_ask a.old.table (learning.due b)) a.old.memory
    (a.old.list ++ event.Went a.session kind.Back ∷ []))
    × (v ≡ work.Upkeep (upkeep.Read (learned_on a.old.table b)))
LearnsOn a b q v (answers.Ready (ends.Learnt u)) =
    (learning.stage_of b ≡ syncing.Learn)
    × (u ≡ (learned a.old.memory b.last b.sweep).head)
    × (q ≡ parts a.old.table (learned a.old.memory b.last b.sweep)
    (a.old.list ++ event.In a.node (learned a.old.memory b.last b.sweep).head ∷ []))
    × (v ≡ work.Rest)
LearnsOn a b q v answers.Memory = Refused a.old q v
LearnsOn a b q v _ = ⊥

-- a sweep, once the documents have answered what it asked
abbrev pub swept_on : Table → Sweeper → Sweeper
swept_on t x = sweeping.fed x (answered_by t (sweeping.due x))

-- the event of a step of session s of cluster node k, of a sweep that asks this: with the root's
-- update the node has swept up to the target
abbrev pub sweep_event : ℕ → ℕ → Sweeper → Ask → Event
sweep_event s k x (ask.Update op) = event.Sweep k x.target
sweep_event s k x _ = event.Went s kind.Sweep

-- a sweep has something to ask of the documents
abbrev pub IsPassing : Swept → Type 0
IsPassing swept.Root = Unit {0}
IsPassing swept.Document = Unit {0}
IsPassing swept.Publish = Unit {0}
IsPassing _ = ⊥

-- a sweep reads the root, passes over a document or tells the root, and is fed the answer; at last
-- the memory learns how far it went, that alone, and the task ends
abbrev pub PassesOn : Stepping → Sweeper → Parts → Work → StepOut → Type 0
PassesOn a x q v (answers.Went kind.Sweep) =
    IsPassing (sweeping.stage_of x)
    × (q ≡ parts (after_ask a.old.table (sweeping.due x)) a.old.memory
    (a.old.list ++ sweep_event a.session a.node x (sweeping.due x) ∷ []))
    × (v ≡ work.Upkeep (upkeep.Sweeping (swept_on a.old.table x)))
PassesOn a x q v (answers.Ready (ends.Swept r)) =
    (sweeping.stage_of x ≡ swept.Learn) × (r ≡ x.target)
    × (q ≡ parts a.old.table (learned a.old.memory no_entries (raised no_entries x.target))
    (a.old.list ++ event.Went a.session kind.Learn ∷ []))
    × (v ≡ work.Rest)
PassesOn a x q v answers.Memory = Refused a.old q v
PassesOn a x q v _ = ⊥

-- a step of background work, of a sweep, or on the settings
abbrev pub KeepsUp : Stepping → Upkeep → Parts → Work → StepOut → Type 0
KeepsUp a upkeep.Write q v (answers.Went kind.Back) =
    (n : Pending) × IsPending a.old.memory n
    × (q ≡ parts a.old.table (without_seen a.old.memory)
    (a.old.list ++ event.Went a.session kind.Back ∷ []))
    × (v ≡ work.Upkeep (upkeep.Noted n))
KeepsUp a upkeep.Write q v answers.Memory = Refused a.old q v
KeepsUp a upkeep.Write q v _ = ⊥
KeepsUp a (upkeep.Noted n) q v o = PublishesFirst a n q v o
KeepsUp a (upkeep.Publish b) q v o = PublishesOn a b q v o
KeepsUp a (upkeep.Read b) q v o = LearnsOn a b q v o
KeepsUp a upkeep.Sweep q v o = (g : Global) × PassesOn a (sweeping.begun g a.node) q v o
KeepsUp a (upkeep.Sweeping x) q v o = PassesOn a x q v o
KeepsUp a (upkeep.Checkpoint i) q v (answers.Ready (ends.Set None)) =
    (pin : Pin) × (pin_of a.old.memory a.session ≡ Some pin)
    × (q ≡ parts (after_update a.old.table (setting_op (change.Checkpoint i pin))) a.old.memory
    (a.old.list ++ event.Checkpoint i pin.base ∷ []))
    × (v ≡ work.Rest)
KeepsUp a (upkeep.Checkpoint i) q v answers.Memory = Refused a.old q v
KeepsUp a (upkeep.Checkpoint i) q v _ = ⊥
KeepsUp a (upkeep.Release i) q v (answers.Ready (ends.Set None)) =
    IsTrue (is_some (set_checkpoint a.old.table i))
    × (q ≡ parts (after_update a.old.table (setting_op (change.Release i))) a.old.memory
    (a.old.list ++ event.Release i ∷ []))
    × (v ≡ work.Rest)
KeepsUp a (upkeep.Release i) q v (answers.Ready ends.NoCheckpoint) =
    (set_checkpoint a.old.table i ≡ None)
    × (q ≡ parts (after_update a.old.table (setting_op (change.Release i))) a.old.memory
    (a.old.list ++ event.Went a.session kind.Settings ∷ []))
    × (v ≡ work.Rest)
KeepsUp a (upkeep.Release i) q v answers.Memory = Refused a.old q v
KeepsUp a (upkeep.Release i) q v _ = ⊥
KeepsUp a (upkeep.Attach i) q v (answers.Ready (ends.Set (Some pin))) =
    (set_checkpoint a.old.table i ≡ Some pin)
    × (q ≡ parts (after_update a.old.table (setting_op (change.Attach a.session i))) a.old.memory
    (a.old.list ++ event.Attach a.session i ∷ []))
    × (v ≡ work.Rest)
KeepsUp a (upkeep.Attach i) q v (answers.Ready ends.NoCheckpoint) =
    (set_checkpoint a.old.table i ≡ None)
    × (q ≡ parts (after_update a.old.table (setting_op (change.Attach a.session i))) a.old.memory
    (a.old.list ++ event.Went a.session kind.Settings ∷ []))
    × (v ≡ work.Rest)
KeepsUp a (upkeep.Attach i) q v answers.Memory = Refused a.old q v
KeepsUp a (upkeep.Attach i) q v _ = ⊥
KeepsUp a upkeep.Detach q v (answers.Went kind.Pin) =
    (q ≡ parts a.old.table (with_pin a.old.memory a.session (pin_now a.old.memory))
    (a.old.list ++ event.Refresh a.session a.old.memory.head ∷ []))
    × (v ≡ work.Upkeep (upkeep.Detaching (pin_now a.old.memory)))
KeepsUp a upkeep.Detach q v answers.Memory = Refused a.old q v
KeepsUp a upkeep.Detach q v _ = ⊥
KeepsUp a (upkeep.Detaching pin) q v (answers.Ready (ends.Pinned o)) =
    (o ≡ pin)
    × (q ≡ parts (after_update a.old.table (setting_op (change.Detach a.session))) a.old.memory
    (a.old.list ++ event.Detach a.session ∷ []))
    × (v ≡ work.Rest)
KeepsUp a (upkeep.Detaching pin) q v answers.Memory = Refused a.old q v
KeepsUp a (upkeep.Detaching pin) q v _ = ⊥
KeepsUp a upkeep.Observe q v (answers.Ready (ends.Pinned pin)) =
    (pin_of a.old.memory a.session ≡ Some pin)
    × (q ≡ parts a.old.table (with_pin a.old.memory (cursor_owner a.session) pin)
    (a.old.list ++ event.Went a.session kind.Pin ∷ []))
    × (v ≡ work.Rest)
KeepsUp a upkeep.Observe q v answers.Memory = Refused a.old q v
KeepsUp a upkeep.Observe q v _ = ⊥

-- how a step of session s of cluster node k goes, by what it does: the parts after it, what the
-- session does then, and the answer
abbrev pub Steps : ℕ → ℕ → Parts → Work → Parts → Work → StepOut → Type 0
Steps s k p work.Login q v (answers.Ready (ends.Pinned pin)) =
    (pin ≡ pin_now p.memory)
    × (q ≡ parts p.table (with_pin p.memory s (pin_now p.memory))
    (p.list ++ event.Login s p.memory.head ∷ []))
    × (v ≡ work.Rest)
Steps s k p work.Login q v answers.Memory = Refused p q v
Steps s k p work.Login q v _ = ⊥
Steps s k p work.End q v (answers.Ready ends.Ended) =
    (q ≡ parts p.table (without_session p.memory s) (p.list ++ event.Went s kind.End ∷ []))
    × (v ≡ work.Rest)
Steps s k p work.End q v answers.Memory = Refused p q v
Steps s k p work.End q v _ = ⊥
Steps s k p work.Refresh q v (answers.Ready (ends.Pinned pin)) =
    (pin ≡ pin_now p.memory)
    × (q ≡ parts p.table (with_pin p.memory s (pin_now p.memory))
    (p.list ++ event.Refresh s p.memory.head ∷ []))
    × (v ≡ work.Rest)
Steps s k p work.Refresh q v answers.Memory = Refused p q v
Steps s k p work.Refresh q v _ = ⊥
Steps s k p (work.Read r) q v o = (q ≡ p) × ReadsNext p.table r v o
Steps s k p (work.Changes r) q v o = (q ≡ p) × ReadsChangesOn p.table r v o
Steps s k p (work.Plan edit marks) q v (answers.Went kind.Draw) =
    (q ≡ parts p.table (with_notes (next_draw p.memory) (with_draw p.memory (next_draw p.memory))
    (marked_paths marks))
    (p.list ++ event.Draw (record {
      revision = next_draw p.memory;
      session = s;
      base = pinned_base p.memory s;
      edit = edit;
      marks = marks;
    }) ∷ []))
    × (v ≡ work.Commit (begun (next_draw p.memory) (pinned_base p.memory s) edit marks))
Steps s k p (work.Plan edit marks) q v answers.Memory = Refused p q v
Steps s k p (work.Plan edit marks) q v _ = ⊥
Steps s k p (work.Commit c) q v o = CommitsOn (stepping s k p) c q v o
Steps s k p (work.Move r) q v o = Moves (stepping s k p) r q v o
Steps s k p (work.Upkeep u) q v o = KeepsUp (stepping s k p) u q v o
Steps s k p work.Rest q v o = ⊥
Steps s k p (work.Tidy x) q v o = ⊥
Steps s k p (work.Told e) q v o = ⊥

-- ---- places

-- for how many events of a session's work, as it stands, places are kept
abbrev pub needed : Work → ℕ
needed (work.Commit c) = needed_by c
needed (work.Move r) = 1
needed (work.Tidy x) = 1
needed (work.Told e) = 1
needed _ = 0

-- ---- what a step takes

-- the revision has ended by the memory, the session is pinned, and a place is kept
pub record CanMove (s : ℕ) (m : NodeState) (places : ℕ) (r : Revision) : Type 0 where
  pub ended : HasEnded m r
  pub pinned : IsSome (pin_of m s)
  pub place : 1 ≤ places

-- a background write has a document to tell
abbrev pub IsPublishing : Syncing → Type 0
IsPublishing syncing.Write = Unit {0}
IsPublishing syncing.Publish = Unit {0}
IsPublishing _ = ⊥

-- a background read has the root to read, or the memory has to learn
abbrev pub IsBackReading : Syncing → Type 0
IsBackReading syncing.Read = Unit {0}
IsBackReading syncing.Learn = Unit {0}
IsBackReading _ = ⊥

-- background work or a sweep has something due; a checkpoint is made, a cursor pinned, and a
-- session detached, where the session is pinned
abbrev pub CanKeepUp : ℕ → NodeState → Upkeep → Type 0
CanKeepUp s m (upkeep.Publish b) = IsPublishing (publishing.stage_of b)
CanKeepUp s m (upkeep.Read b) = IsBackReading (learning.stage_of b)
CanKeepUp s m (upkeep.Sweeping x) = sweeping.stage_of x ≢ swept.Done
CanKeepUp s m (upkeep.Checkpoint i) = IsSome (pin_of m s)
CanKeepUp s m upkeep.Detach = IsSome (pin_of m s)
CanKeepUp s m upkeep.Observe = (s < 64) × IsSome (pin_of m s)
CanKeepUp s m _ = Unit {0}

-- the session does something that takes its own memory alone, and what that takes is there
abbrev pub CanStep : ℕ → NodeState → ℕ → Work → Type 0
CanStep s m places work.Rest = ⊥
CanStep s m places (work.Tidy x) = ⊥
CanStep s m places (work.Told e) = ⊥
CanStep s m places work.End = s < 64
CanStep s m places work.Refresh = IsSome (pin_of m s)
CanStep s m places (work.Plan edit marks) = known_time m < 2 ^ 64 - 1
CanStep s m places (work.Commit c) = CanCommit m places c
CanStep s m places (work.Move r) = CanMove s m places r
CanStep s m places (work.Upkeep u) = CanKeepUp s m u
CanStep s m places _ = Unit {0}
