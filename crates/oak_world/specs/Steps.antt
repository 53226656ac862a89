-- What sessions do, and what a step makes of a world.
use Rattle.std.specs.Prelude.{◌≡◌, ◌≢◌, ◌⊎◌, ◌≤◌, ◌+◌, ◌-◌, ◌^◌, ℕ, Bool, true, false, cond, min, List, [], ◌∷◌, length, slice_get, slice_set, Option, Some, None, is_some, IsTrue, IsFalse}
use Rattle.std.specs.Option.{IsSomeAnd, option_map_or}
use Rattle.std.specs.declared.alloc.Global.{Global}
use Rattle.jr_path.specs.declared.path.Path.{Path}
use Rattle.jr_path.specs.declared.path.Item.{Item}
use Rattle.jr_path.specs.Lists.{Text}
use Rattle.jr_rev.specs.declared.revision.Revision.{Revision}
use Rattle.jr_rev.specs.declared.vector.Pin.{Pin}
use Rattle.jr_rev.specs.Vectors.{sees}
use Rattle.oak_changes.specs.declared.changes.Step.TheVariants as observed
use Rattle.oak_changes.specs.Reading as changes
use Rattle.oak_clash.specs.Clashes.{marked_paths}
use Rattle.oak_commit.specs.Clashing.{Met}
use Rattle.oak_commit.specs.Committing.{Committing, begun, refused, wanting, with_undone, written}
use Rattle.oak_commit.specs.Kept.{undoes}
use Rattle.oak_commit.specs.Stages.{stage_of}
use Rattle.oak_commit.specs.declared.look.Look.{Look}
use Rattle.oak_commit.specs.declared.outcome.CommitEnd.TheVariants as end
use Rattle.oak_commit.specs.declared.stage.Stage.TheVariants as stage
use Rattle.oak_doc.specs.declared.asks.Ask.TheVariants as ask
use Rattle.oak_machine.specs.declared.event.Event.TheVariants as event
use Rattle.oak_machine.specs.declared.event.StepKind.{StepKind}
use Rattle.oak_machine.specs.declared.event.StepKind.TheVariants as kind
use Rattle.oak_machine.specs.History.{History}
use Rattle.oak_machine.specs.Laws.{Says, after}
use Rattle.oak_machine.specs.Sessions.{has_left, has_login, next_index}
use Rattle.oak_node.specs.declared.pending.Pending.{Pending}
use Rattle.oak_node.specs.Pins.{pin_of}
use Rattle.oak_doc.specs.declared.update.Change.TheVariants as change
use Rattle.oak_node.specs.Notes.{IsPending}
use Rattle.oak_node.specs.Heads.{AwaitsEarlier, learned, next_draw}
use Rattle.oak_node.specs.Pins.{pin_now}
use Rattle.oak_read.specs.Reading.{due}
use Rattle.core_tidy.specs.Steps.{after_tidied, tidied_in}
use Rattle.core_world.specs.States.{State, base_in, memory_of, node_of, nodes_in}
use Rattle.core_world.specs.Steps.{after_attach, after_back, after_checkpoint, after_detach, after_learn, after_learn_swept, after_observe, after_out, after_pending, after_release, after_sweep, after_unfound, after_went, after_draw, after_finish, after_last, after_leave, after_login, after_mark, after_refresh, after_undoing, after_want, after_write, after_write_in_want, with_observer, with_reader}
use Rattle.oak_port.specs.declared.task.StepOut.{StepOut}
use Rattle.oak_port.specs.declared.task.StepOut.TheVariants as answers
use Rattle.oak_port.specs.declared.task.TaskEnd.TheVariants as ends
use Rattle.oak_sweep.specs.Sweeping as sweeping
use Rattle.oak_sweep.specs.declared.stage.Stage.{Stage as Swept}
use Rattle.oak_sweep.specs.declared.stage.Stage.TheVariants as swept
use Rattle.oak_sweep.specs.declared.sweeper.Sweeper.{Sweeper}
use Rattle.oak_sync.specs.Learning as learning
use Rattle.oak_sync.specs.Publishing as publishing
use Rattle.oak_sync.specs.declared.back_read.BackRead.{BackRead}
use Rattle.oak_sync.specs.declared.back_write.BackWrite.{BackWrite}
use Rattle.oak_sync.specs.declared.stage.Stage.TheVariants as syncing
use Rattle.oak_step.specs.declared.upkeep.Upkeep.{Upkeep}
use Rattle.oak_step.specs.declared.upkeep.Upkeep.TheVariants as upkeep
use Rattle.oak_step.specs.Upkeeps.{set_checkpoint}
use Rattle.oak_step.specs.declared.work.Work.{Work}
use Rattle.oak_step.specs.declared.work.Work.TheVariants as work
use Rattle.oak_step.specs.Works.{kind_due}
use Rattle.oak_step.specs.Parts.{EndsSo, changes_on, end_of_reading, read_on, swept_on}
use Rattle.oak_saves.specs.Saves.{committed, fed_previous, mark_made}
use Rattle.oak_tidy.specs.declared.tidying.Tidied.{Tidied}
use Rattle.oak_tidy.specs.declared.tidying.Tidied.TheVariants as tidied
use Rattle.oak_tidy.specs.declared.tidying.Tidying.{Tidying}
use Rattle.oak_tidy.specs.Tidyings.{GoesOrEnds, kind_tidied}
use Rattle.oak_world.specs.Worlds.{ActorState, IsAtRest, WorldOf, actor_in, running_as, state_of, told_first, work_in}

-- ---- who may be told what

-- the session has come, and not left
pub record IsPresent (h : History) (s : ℕ) : Type 0 where
  pub login : IsTrue (has_login h.past s)
  pub stays : IsFalse (has_left h.past s)

-- the session is one of the world's, and does nothing
pub record IsIdle {L : Type 0} (w : WorldOf L) (s : ℕ) : Type 0 where
  pub there : IsTrue (is_some (slice_get w.history.sessions s))
  pub idle : work_in w.actors s ≡ work.Rest

-- the session is one of the world's, and nothing is left to be done for it but to tell how its task
-- ended
pub record IsResting {L : Type 0} (w : WorldOf L) (s : ℕ) : Type 0 where
  pub there : IsTrue (is_some (slice_get w.history.sessions s))
  pub rest : IsAtRest (work_in w.actors s)

-- the text is the next reply of session s, which the law lets it say behind how its task ended, and
-- its bytes are reserved
pub record HasReplyPlace (says : Says) (h : History) (a : ActorState) (s i : ℕ)
    (text : Text) : Type 0 where
  pub next : i ≡ next_index h.past s
  pub lawful : says (after (told_first a.work) h) s i text
  pub room : IsSomeAnd a.reply (λ bytes. length text ≤ bytes)

-- ---- a step

-- a committer is before its commit point, and looks at no previous document
pub record MayUpdate (c : Committing) : Type 0 where
  pub going : c.outcome ≡ None
  pub looked : c.looking ≡ None

module _ (s : ℕ) (w : State) (c : Committing) (u : State) (d : Committing) where
  -- a committer makes the next mark, or is refused by that; or writes the next document, and turns
  -- to undoing where memory is refused for what it met there; or looks at a previous document of
  -- that, by which the state stays, since it has the marks that are to come, or turns to undoing
  -- then; or makes the last write, or is refused by that; or undoes the first document that is
  -- written and not undone
  abbrev pub MakesUpdate : StepKind → Type 0
  MakesUpdate kind.Mark = (f : Met) × (rest : List Met) × MayUpdate c
      × (c.writer.due ≡ f ∷ rest) × (u ≡ after_mark w s (running_as s c) f rest)
      × (((u.past ≡ event.Went s kind.Mark ∷ w.past) × (d ≡ mark_made c rest))
      ⊎ ((u.past ≡ event.Refuse c.revision f.mine f.other ∷ w.past)
      × (d ≡ refused c f.mine f.other)))
  MakesUpdate kind.Write = (p : Path) × (rest : List Path) × MayUpdate c
      × (c.writer.due ≡ []) × (c.writer.left ≡ p ∷ rest)
      × (((u ≡ after_write w s (running_as s c) p rest)
      × (d ≡ written c p rest (nodes_in w.table p)))
      ⊎ ((u ≡ after_write_in_want w s (running_as s c) p rest)
      × (d ≡ wanting (written c p rest (nodes_in w.table p)))))
  MakesUpdate kind.Read = (k : Look) × (c.outcome ≡ None) × (c.looking ≡ Some k)
      × (((u ≡ w) × (d ≡ fed_previous w.table c))
      ⊎ ((u ≡ after_want w s (running_as s c)) × (d ≡ wanting (fed_previous w.table c))))
  MakesUpdate kind.Last = MayUpdate c × (c.writer.due ≡ []) × (c.writer.left ≡ [])
      × (u ≡ after_last w s (running_as s c))
      × (((u.past ≡ event.Commit c.revision ∷ w.past) × (d ≡ committed c))
      ⊎ ((item : Item) × (o : Revision) × (u.past ≡ event.Refuse c.revision item o ∷ w.past)
      × (d ≡ refused c item o)))
  MakesUpdate kind.Undo =
      (p : Path) × (rest : List Path) × IsTrue (undoes c.outcome) × (c.writer.written ≡ p ∷ rest)
      × (u ≡ after_undoing w s (running_as s c) p rest) × (d ≡ with_undone c)
  MakesUpdate _ = ⊥

-- a step of a commit: an operation on a document, the end of its revision, or its turn to undoing
-- where memory was refused
abbrev pub MakesCommit : ℕ → State → Committing → State → Work → StepOut → Type 0
MakesCommit s w c u v o =
    ((x : StepKind) × (o ≡ answers.Went x) × (d : Committing) × (v ≡ work.Commit d)
    × MakesUpdate s w c u d x)
    ⊎ ((stage_of c ≡ stage.Finish) × (u ≡ after_finish w s (running_as s c)) × EndsSo c v o)
    ⊎ ((o ≡ answers.Memory) × (c.outcome ≡ None) × (u ≡ after_want w s (running_as s c))
    × (v ≡ work.Commit (wanting c)))

-- a background write tells the document of a node below the root; or the root's, which publishes
-- its revision, and the task ends
abbrev pub MakesBackWrite : ℕ → State → BackWrite → State → Work → StepOut → Type 0
MakesBackWrite s w b u v (answers.Went kind.Back) =
    (publishing.stage_of b ≡ syncing.Write)
    × (p : Path) × (publishing.due b ≡ ask.Update (publishing.back_op p b.upto))
    × (u ≡ after_back w s p b.upto) × (v ≡ work.Upkeep (upkeep.Publish (publishing.went_on b)))
MakesBackWrite s w b u v (answers.Ready (ends.Published o)) =
    (publishing.stage_of b ≡ syncing.Publish) × (o ≡ b.upto) × (u ≡ after_out w s b.upto)
    × (v ≡ work.Rest)
MakesBackWrite s w b u v answers.Memory = (u ≡ w) × (v ≡ work.Rest)
MakesBackWrite s w b u v _ = ⊥

-- a background write begins with the notes that it took, and tells its first document, or memory is
-- refused
abbrev pub BeginsBackWrite : ℕ → State → Pending → State → Work → StepOut → Type 0
BeginsBackWrite s w n u v o =
    ((o ≡ answers.Memory) × (u ≡ w) × (v ≡ work.Rest))
    ⊎ ((a : Global) × (b : BackWrite) × publishing.HasWrittenNothing a n b
    × MakesBackWrite s w b u v o)

-- a background read reads the root's document; then the memory learns the two vectors that it read,
-- and the task ends
abbrev pub MakesBackRead : ℕ → State → BackRead → State → Work → StepOut → Type 0
MakesBackRead s w b u v (answers.Went kind.Back) =
    (learning.stage_of b ≡ syncing.Read) × (u ≡ after_went w s kind.Back)
    × (v ≡ work.Upkeep (upkeep.Read (learning.with_root b (nodes_in w.table []))))
MakesBackRead s w b u v (answers.Ready (ends.Learnt x)) =
    (learning.stage_of b ≡ syncing.Learn)
    × (x ≡ (learned (memory_of w s) b.last b.sweep).head) × (u ≡ after_learn w s b.last b.sweep)
    × (v ≡ work.Rest)
MakesBackRead s w b u v answers.Memory = (u ≡ w) × (v ≡ work.Rest)
MakesBackRead s w b u v _ = ⊥

-- a sweep that stands in a stage reads the root or passes over a document, which changes nothing;
-- or once it has asked for each, it tells the root how far it goes
abbrev pub PassesTo : ℕ → State → Sweeper → Swept → State → Type 0
PassesTo s w x swept.Root u = u ≡ after_went w s kind.Sweep
PassesTo s w x swept.Document u = u ≡ after_went w s kind.Sweep
PassesTo s w x swept.Publish u = u ≡ after_sweep w s x.target
PassesTo s w x _ u = ⊥

-- a sweep goes on, and is fed the answer to what it asked; or its cluster node learns how far it
-- went, that alone, and the task ends
abbrev pub MakesSweep : ℕ → State → Sweeper → State → Work → StepOut → Type 0
MakesSweep s w x u v (answers.Went kind.Sweep) =
    PassesTo s w x (sweeping.stage_of x) u
    × (v ≡ work.Upkeep (upkeep.Sweeping (swept_on w.table x)))
MakesSweep s w x u v (answers.Ready (ends.Swept r)) =
    (sweeping.stage_of x ≡ swept.Learn) × (r ≡ x.target) × (u ≡ after_learn_swept w s x.target)
    × (v ≡ work.Rest)
MakesSweep s w x u v answers.Memory = (u ≡ w) × (v ≡ work.Rest)
MakesSweep s w x u v _ = ⊥

-- a step of background work, of a sweep, or on the settings
abbrev pub MakesUpkeep : ℕ → State → Upkeep → State → Work → StepOut → Type 0
MakesUpkeep s w upkeep.Write u v (answers.Went kind.Back) = (n : Pending)
    × IsPending (memory_of w s) n × (u ≡ after_pending w s) × (v ≡ work.Upkeep (upkeep.Noted n))
MakesUpkeep s w upkeep.Write u v answers.Memory = (u ≡ w) × (v ≡ work.Rest)
MakesUpkeep s w upkeep.Write u v _ = ⊥
MakesUpkeep s w (upkeep.Noted n) u v o = BeginsBackWrite s w n u v o
MakesUpkeep s w (upkeep.Publish b) u v o = MakesBackWrite s w b u v o
MakesUpkeep s w (upkeep.Read b) u v o = MakesBackRead s w b u v o
MakesUpkeep s w upkeep.Sweep u v o =
    (a : Global) × MakesSweep s w (sweeping.begun a (node_of w s)) u v o
MakesUpkeep s w (upkeep.Sweeping x) u v o = MakesSweep s w x u v o
MakesUpkeep s w (upkeep.Checkpoint i) u v (answers.Ready (ends.Set None)) = (pin : Pin)
    × (pin_of (memory_of w s) s ≡ Some pin) × (u ≡ after_checkpoint w s i pin) × (v ≡ work.Rest)
MakesUpkeep s w (upkeep.Checkpoint i) u v answers.Memory = (u ≡ w) × (v ≡ work.Rest)
MakesUpkeep s w (upkeep.Checkpoint i) u v _ = ⊥
MakesUpkeep s w (upkeep.Release i) u v (answers.Ready (ends.Set None)) =
    IsTrue (is_some (set_checkpoint w.table i)) × (u ≡ after_release w i) × (v ≡ work.Rest)
MakesUpkeep s w (upkeep.Release i) u v (answers.Ready ends.NoCheckpoint) =
    (set_checkpoint w.table i ≡ None) × (u ≡ after_unfound w s (change.Release i)) × (v ≡ work.Rest)
MakesUpkeep s w (upkeep.Release i) u v answers.Memory = (u ≡ w) × (v ≡ work.Rest)
MakesUpkeep s w (upkeep.Release i) u v _ = ⊥
MakesUpkeep s w (upkeep.Attach i) u v (answers.Ready (ends.Set (Some pin))) =
    (set_checkpoint w.table i ≡ Some pin) × (u ≡ after_attach w s i) × (v ≡ work.Rest)
MakesUpkeep s w (upkeep.Attach i) u v (answers.Ready ends.NoCheckpoint) =
    (set_checkpoint w.table i ≡ None) × (u ≡ after_unfound w s (change.Attach s i))
    × (v ≡ work.Rest)
MakesUpkeep s w (upkeep.Attach i) u v answers.Memory = (u ≡ w) × (v ≡ work.Rest)
MakesUpkeep s w (upkeep.Attach i) u v _ = ⊥
MakesUpkeep s w upkeep.Detach u v (answers.Went kind.Pin) =
    (u ≡ after_refresh w s) × (v ≡ work.Upkeep (upkeep.Detaching (pin_now (memory_of w s))))
MakesUpkeep s w upkeep.Detach u v answers.Memory = (u ≡ w) × (v ≡ work.Rest)
MakesUpkeep s w upkeep.Detach u v _ = ⊥
MakesUpkeep s w (upkeep.Detaching pin) u v (answers.Ready (ends.Pinned o)) =
    (o ≡ pin) × (u ≡ after_detach w s) × (v ≡ work.Rest)
MakesUpkeep s w (upkeep.Detaching pin) u v answers.Memory = (u ≡ w) × (v ≡ work.Rest)
MakesUpkeep s w (upkeep.Detaching pin) u v _ = ⊥
MakesUpkeep s w upkeep.Observe u v (answers.Ready (ends.Pinned pin)) =
    (pin_of (memory_of w s) s ≡ Some pin) × (u ≡ after_observe w s pin) × (v ≡ work.Rest)
MakesUpkeep s w upkeep.Observe u v answers.Memory = (u ≡ w) × (v ≡ work.Rest)
MakesUpkeep s w upkeep.Observe u v _ = ⊥

-- what a session does whose split or collection has left this
abbrev pub work_left : Tidied → Work
work_left (tidied.Going x) = work.Tidy x
work_left (tidied.Told e) = work.Told e
work_left tidied.Gone = work.Rest

-- a split or a collection makes the operation for which its automaton asks, and is fed the reply;
-- where memory is refused it is gone
abbrev pub MakesTidying : ℕ → State → Tidying → State → Work → StepOut → Type 0
MakesTidying s w x u v answers.Memory = (u ≡ with_reader w s None) × (v ≡ work.Rest)
MakesTidying s w x u v o = (u ≡ after_tidied w s x)
    × (left : Tidied) × (v ≡ work_left left) × GoesOrEnds s (kind_tidied x) (tidied_in w x) left o

-- how a step of session s goes, by what it does: the state after it, what it does then, and the
-- answer
abbrev pub MakesState : ℕ → State → Work → State → Work → StepOut → Type 0
MakesState s w work.Login u v (answers.Ready (ends.Pinned pin)) =
    (u ≡ after_login w s) × (v ≡ work.Rest) × (pin ≡ pin_now (memory_of w s))
MakesState s w work.Login u v answers.Memory = (u ≡ w) × (v ≡ work.Rest)
MakesState s w work.Login u v _ = ⊥
MakesState s w work.End u v (answers.Ready ends.Ended) = (u ≡ after_leave w s) × (v ≡ work.Rest)
MakesState s w work.End u v answers.Memory = (u ≡ w) × (v ≡ work.Rest)
MakesState s w work.End u v _ = ⊥
MakesState s w work.Refresh u v (answers.Ready (ends.Pinned pin)) =
    (u ≡ after_refresh w s) × (v ≡ work.Rest) × (pin ≡ pin_now (memory_of w s))
MakesState s w work.Refresh u v answers.Memory = (u ≡ w) × (v ≡ work.Rest)
MakesState s w work.Refresh u v _ = ⊥
MakesState s w (work.Read r) u v (answers.Went kind.Read) =
    (u ≡ with_reader w s (Some (read_on w.table r))) × (v ≡ work.Read (read_on w.table r))
    × (due (read_on w.table r) ≢ ask.Done)
MakesState s w (work.Read r) u v (answers.Ready e) = (u ≡ with_reader w s None) × (v ≡ work.Rest)
    × (end_of_reading (read_on w.table r).step ≡ Some e)
MakesState s w (work.Read r) u v answers.Memory = (u ≡ with_reader w s None) × (v ≡ work.Rest)
MakesState s w (work.Read r) u v _ = ⊥
MakesState s w (work.Changes r) u v (answers.Went kind.Read) =
    (u ≡ with_observer w s (Some (changes_on w.table r)))
    × (v ≡ work.Changes (changes_on w.table r))
    × (changes.due (changes_on w.table r) ≢ ask.Done)
MakesState s w (work.Changes r) u v (answers.Ready (ends.Changes commits)) =
    (u ≡ with_observer w s None) × (v ≡ work.Rest)
    × ((changes_on w.table r).step ≡ observed.Done commits)
MakesState s w (work.Changes r) u v answers.Memory = (u ≡ with_observer w s None) × (v ≡ work.Rest)
MakesState s w (work.Changes r) u v _ = ⊥
MakesState s w (work.Plan edit marks) u v (answers.Went kind.Draw) =
    (u ≡ after_draw w s edit marks (marked_paths marks))
    × (v ≡ work.Commit (begun (next_draw (memory_of w s)) (base_in w s) edit marks))
MakesState s w (work.Plan edit marks) u v answers.Memory = (u ≡ w) × (v ≡ work.Rest)
MakesState s w (work.Plan edit marks) u v _ = ⊥
MakesState s w (work.Commit c) u v o = MakesCommit s w c u v o
MakesState s w (work.Move r) u v (answers.Wait o) =
    (u ≡ w) × (v ≡ work.Move r) × AwaitsEarlier (memory_of w s) r o
MakesState s w (work.Move r) u v (answers.Ready (ends.Commit (end.Committed o))) =
    (u ≡ after_refresh w s) × (v ≡ work.Rest) × (o ≡ r) × IsTrue (sees (memory_of w s).head r)
MakesState s w (work.Move r) u v _ = ⊥
MakesState s w (work.Upkeep k) u v o = MakesUpkeep s w k u v o
MakesState s w (work.Tidy x) u v o = MakesTidying s w x u v o
MakesState s w (work.Told e) u v _ = ⊥
MakesState s w work.Rest u v _ = ⊥

-- the documents that loads have read, after a step of a load; the count stays at its last value
abbrev pub reads_of_load : StepOut → ℕ → ℕ
reads_of_load answers.Memory n = n
reads_of_load _ n = min (n + 1) (2 ^ 64 - 1)

-- the reads that are counted, after a step of a session's work
abbrev pub reads_after : Work → StepOut → ℕ → ℕ
reads_after (work.Read r) o n = reads_of_load o n
reads_after _ o n = n

-- whether a session is attached once what it does is made, where that moves its base: an attaching
-- attaches it, and to the head it goes for a login, a refresh, its commit, and before it is
-- detached
abbrev pub attaching_by : Upkeep → Option Bool
attaching_by (upkeep.Attach i) = Some true
attaching_by upkeep.Detach = Some false
attaching_by _ = None

-- whether a session is attached once its work is made, where that moves its base
abbrev pub attaching : Work → Option Bool
attaching work.Login = Some false
attaching work.Refresh = Some false
attaching (work.Move r) = Some false
attaching (work.Upkeep u) = attaching_by u
attaching _ = None

-- the step was made, and found what it asked for
abbrev pub is_made : StepOut → Bool
is_made (answers.Ready ends.NoCheckpoint) = false
is_made (answers.Wait o) = false
is_made answers.Memory = false
is_made _ = true

-- whether a session is attached after a step, by whether it was
abbrev pub attached_after : Work → StepOut → Bool → Bool
attached_after v o was = option_map_or (λ now. cond (is_made o) now was) (attaching v) was

-- a step of session s: it changes the state so, and of the sessions what this one does; the law
-- stays
pub record StepsIn {L : Type 0} (w : WorldOf L) (s : ℕ) (u : WorldOf L) (o : StepOut) : Type 0 where
  pub does : Work
  pub makes : MakesState s (state_of w) (work_in w.actors s) (state_of u) does o
  pub actors : u.actors
      ≡ slice_set w.actors s (record (actor_in w.actors s) {
        work = does;
        reads = reads_after (work_in w.actors s) o (actor_in w.actors s).reads;
        attached = attached_after (work_in w.actors s) o (actor_in w.actors s).attached;
      })
  pub law : u.law ≡ w.law

-- ---- steps of many

-- one that is named in a schedule takes a step, where it is a session with a task; else nothing is
-- changed
abbrev pub Turns : {L : Type 0} → WorldOf L → ℕ → WorldOf L → Type 0
Turns w s v = ((o : StepOut) × StepsIn w s v o)
    ⊎ ((v ≡ w) × ((slice_get w.history.sessions s ≡ None) ⊎ (kind_due (work_in w.actors s) ≡ None)))

-- the sessions of a list take their turns, one after another
abbrev pub Plays : {L : Type 0} → WorldOf L → List ℕ → WorldOf L → Type 0
Plays w [] u = u ≡ w
Plays {L} w (s ∷ ss) u = (v : WorldOf L) × Turns w s v × Plays v ss u
