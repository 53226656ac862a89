-- What a session is told of a world: the history so far and what is being done for the session, and
-- what a step makes of these.
use Rattle.std.specs.Prelude.{◌≡◌, ◌≢◌, ◌↔◌, ◌⊎◌, ◌<◌, ◌≤◌, ℕ, Bool, true, false, ⊤, List, [], ◌∷◌}
use Rattle.std.specs.Prelude.{reverse, slice_get, Contains, Option, None, Some, IfSome, IsTrue, IsFalse}
use Rattle.std.specs.Borrow.{GName}
use Rattle.std.specs.Option.{option_map_or}
use Rattle.jr_path.specs.declared.path.Item.{Item}
use Rattle.jr_path.specs.declared.path.Path.{Path}
use Rattle.jr_path.specs.Lists.{Text}
use Rattle.jr_rev.specs.declared.revision.Revision.{Revision}
use Rattle.jr_rev.specs.declared.vector.RevVec.{RevVec}
use Rattle.jr_rev.specs.Revisions.{is_at_most, is_before}
use Rattle.jr_rev.specs.Vectors.{sees}
use Rattle.jr_tree.specs.declared.edit.Edit.{Edit}
use Rattle.jr_tree.specs.Trees.{Nodes, dated_children_of, node_at}
use Rattle.oak_clash.specs.declared.mark.MarkAt.{MarkAt}
use Rattle.oak_machine.specs.declared.event.Draw.{Draw}
use Rattle.oak_machine.specs.declared.event.Event.{Event}
use Rattle.oak_machine.specs.declared.event.Event.TheVariants as event
use Rattle.oak_machine.specs.declared.event.StepKind.{StepKind}
use Rattle.oak_machine.specs.declared.event.StepKind.TheVariants as kind
use Rattle.oak_machine.specs.History.{Begin, History, Past, begin_tree}
use Rattle.oak_machine.specs.Commits.{is_in_flight, tree_at}
use Rattle.oak_machine.specs.Heads.{head_of, local, published}
use Rattle.oak_machine.specs.Asked.{is_of_commit}
use Rattle.oak_machine.specs.Laws.{AreOthers, Asks, Says, Starts, after}
use Rattle.oak_machine.specs.Runs.{IsNode, IsRun}
use Rattle.oak_machine.specs.Changed.{changes_between}
use Rattle.oak_machine.specs.Sessions.{base_of, cursor_at, has_left, has_login, is_attached}
use Rattle.oak_machine.specs.Sessions.{kept_checkpoint, next_index}
use Rattle.oak_machine.specs.Steps.{is_appended_by, is_kind}
use Rattle.oak_commit.specs.declared.outcome.CommitEnd.{CommitEnd}
use Rattle.oak_commit.specs.declared.outcome.CommitEnd.TheVariants as commit
use Rattle.oak_port.specs.declared.task.StepOut.{StepOut}
use Rattle.oak_port.specs.declared.task.StepOut.TheVariants as out
use Rattle.oak_port.specs.declared.task.Task.{Task}
use Rattle.oak_port.specs.declared.task.Task.TheVariants as task
use Rattle.oak_port.specs.declared.task.TaskEnd.TheVariants as end

-- ---- what is being done for a session

-- nothing; a task; a commit that has drawn its revision: it writes, or it undoes and will end so,
-- or it is committed, or it has ended and its base doesn't see it yet; a background write that has
-- taken its notes, and will publish this revision; a background read that has read this of the
-- root; a sweep that has read of the root how far its cluster node has published, this revision,
-- and passes over documents; a sweep that has told the root how far it went, this revision, and
-- whose node has still to learn it; a collection that has taken its bound, and drops what is
-- garbage of it; how a split or a collection has ended, which is to be told with the reply; or a
-- detaching whose base has moved to this vector
pub data Work : Type 0 where
  Idle : Work
  Starting : Task → Work
  Writing : Revision → Work
  Undoing : Revision → CommitEnd → Work
  Deciding : Revision → Work
  Awaiting : Revision → Work
  Publishing : Revision → Work
  Learning : RevVec → Work
  Passing : Revision → Work
  Sweeping : Revision → Work
  Collecting : Work
  Telling : Event → Work
  Detaching : RevVec → Work

-- nothing is left to be done but to tell how a task ended
abbrev pub IsAtRest : Work → Type 0
IsAtRest Idle = ⊤
IsAtRest (Telling e) = ⊤
IsAtRest _ = ⊥

-- what stands directly before the reply: how a split or a collection ended
abbrev pub end_told : Work → Past
end_told (Telling e) = e ∷ []
end_told _ = []

-- what is being done for a session, how many bytes of its next reply have a place, where that has
-- one, and the kind of its next step
pub record Seat : Type 0 where
  pub work : Work
  pub room : Option ℕ
  pub due : Option StepKind

-- which reference leads to the world, and the seats of the other sessions, where nobody else steps
-- the world
pub record Beside : Type 0 where
  pub name : GName
  pub seats : Option (List Seat)

-- the history so far, the session, its seat, and what stands beside it
pub record Shown : Type 0 where
  pub history : History
  pub session : ℕ
  pub work : Work
  pub room : Option ℕ
  pub due : Option StepKind
  pub beside : Beside

-- ---- what is added

-- to a history events of others were added, and then these, the newest first; the new one is a run
pub record Grows (starts : Starts) (says : Says) (s : ℕ) (old new : History) (others own : Past)
    : Type 0 where
  pub grown : new ≡ after own (after others old)
  pub theirs : AreOthers s others old.past
  pub run : IsRun starts says new

-- others alone may have acted, nobody where nobody else steps the world; the session now does this,
-- and its reply has this place; what is due stays with what is being done
pub record OthersAlone (starts : Starts) (says : Says) (old new : Shown) (work : Work)
    (room : Option ℕ) : Type 0 where
  pub others : Past
  pub grows : Grows starts says old.session old.history new.history others []
  pub session : new.session ≡ old.session
  pub work_is : new.work ≡ work
  pub room_is : new.room ≡ room
  pub same_due : (work ≡ old.work) → new.due ≡ old.due
  pub beside : new.beside ≡ old.beside
  pub alone : IfSome old.beside.seats (λ seats. others ≡ [])

-- others alone may have acted; the session does what it did, and its reply has the place it had
abbrev pub StaysSo : Starts → Says → Shown → Shown → Type 0
StaysSo starts says old new = OthersAlone starts says old new old.work old.room

-- of the paths at which the node at the base of the session isn't the one at a vector each is told
abbrev pub TellsChanges : History → ℕ → (since : RevVec) → (told : List Path) → Type 0
TellsChanges h s since told = (base : RevVec) (p : Path) → base_of h.past s ≡ Some base
    → (Contains told p → ⊥)
    → node_at (tree_at h.begin h.past base) p ≡ node_at (tree_at h.begin h.past since) p

-- ---- what a step makes

-- the tree at the base of a session
abbrev pub tree_of : Begin → Past → ℕ → Nodes
tree_of begin past s = option_map_or (tree_at begin past) (base_of past s) (begin_tree begin)

-- the events of the end of a revision: that it ended, and that the head moved, where it did
abbrev pub IsFinish : Revision → Past → Type 0
IsFinish r own =
    (own ≡ event.End r ∷ [])
    ⊎ ((k : ℕ) × (v : RevVec) × (own ≡ event.Head k v ∷ event.End r ∷ []))

-- a draw of a session's edit with its marks
pub record IsDrawFor (s : ℕ) (edit : Edit) (marks : List MarkAt) (d : Draw) : Type 0 where
  pub session : d.session ≡ s
  pub edit_is : d.edit ≡ edit
  pub marks_are : d.marks ≡ marks

-- a commit that writes makes one write, or reads a previous document of one that it wrote; behind
-- either it undoes where memory is refused for what it met there; or it makes one mark; or it is
-- decided by a mark or by its last write: committed, or refused for a clash
abbrev pub WritesOn : ℕ → Revision → StepKind → Past → Work → Type 0
WritesOn s r k own now =
    ((k ≡ kind.Write) × (own ≡ event.Went s kind.Write ∷ [])
    × ((now ≡ Writing r) ⊎ (now ≡ Undoing r commit.Memory)))
    ⊎ ((k ≡ kind.Read) × (own ≡ []) × ((now ≡ Writing r) ⊎ (now ≡ Undoing r commit.Memory)))
    ⊎ ((k ≡ kind.Mark) × (own ≡ event.Went s kind.Mark ∷ []) × (now ≡ Writing r))
    ⊎ ((k ≡ kind.Last) × (own ≡ event.Commit r ∷ []) × (now ≡ Deciding r))
    ⊎ ((item : Item) × (o : Revision) × ((k ≡ kind.Mark) ⊎ (k ≡ kind.Last))
    × (own ≡ event.Refuse r item o ∷ []) × (now ≡ Undoing r (commit.Clash item o)))

-- q holds the head of its cluster node back from r: it was drawn there before r, and is in flight
pub record HoldsBack (past : Past) (q r : Revision) : Type 0 where
  pub node : q.cluster ≡ r.cluster
  pub earlier : IsTrue (is_before q r)
  pub flying : IsTrue (is_in_flight past q)

-- the vector sees exactly what the cluster nodes have published
abbrev pub IsPublic : History → RevVec → Type 0
IsPublic h v = (r : Revision) → IsTrue (sees v r)
    ↔ (IsNode h.clusters r.cluster × IsTrue (is_at_most r (published h.begin h.past r.cluster)))

-- a vector sees all that another sees
abbrev pub SeesAllOf : RevVec → RevVec → Type 0
SeesAllOf v u = (r : Revision) → IsTrue (sees u r) → IsTrue (sees v r)

-- the session is of cluster node k
abbrev pub IsSessionOn : History → ℕ → ℕ → Type 0
IsSessionOn h s k = slice_get h.sessions s ≡ Some k

-- a sweep that goes up to r passes one document more, or tells the root: from then on what is found
-- of its cluster node's changes up to r is committed
abbrev pub SweepsOn : History → ℕ → Revision → StepKind → Past → Work → Type 0
SweepsOn h s r k own now = (k ≡ kind.Sweep)
    × (((own ≡ event.Went s kind.Sweep ∷ []) × (now ≡ Passing r))
    ⊎ ((m : ℕ) × IsSessionOn h s m × (own ≡ event.Sweep m r ∷ []) × (now ≡ Sweeping r)))

-- a split reads a commit root, or the previous document that it wrote, by a reading step; it reads
-- its own document, or changes a document, by a step that counts
abbrev pub SplitsOn : ℕ → StepKind → Past → Type 0
SplitsOn s k own = ((k ≡ kind.Read) × (own ≡ []))
    ⊎ ((k ≡ kind.Split) × (own ≡ event.Went s kind.Split ∷ []))

-- a collection reads a part of its bound, with the settings the last, by which it is taken
abbrev pub BoundsOn : ℕ → Past → Work → Type 0
BoundsOn s own now =
    ((own ≡ event.Went s kind.Bound ∷ []) × (now ≡ Starting task.Collect))
    ⊎ ((m : RevVec) × (t : RevVec) × (own ≡ event.Bound m t ∷ []) × (now ≡ Collecting))

-- a collection that has its bound reads a document, or changes or removes one
abbrev pub CollectsOn : ℕ → StepKind → Past → Type 0
CollectsOn s k own = ((k ≡ kind.Read) × (own ≡ []))
    ⊎ ((k ≡ kind.Collect) × (own ≡ event.Went s kind.Collect ∷ []))

-- the head of the cluster node of r sees r
abbrev pub is_in_head : History → Revision → Bool
is_in_head h r = sees (head_of h.clusters h.begin h.past r.cluster) r

-- a step of a session at a history, by what is being done and what it answers: the events that it
-- adds, the newest first, and what is being done then. Memory is refused without effect. Nothing
-- answers yet that the cluster node is stopped
abbrev pub Makes : History → ℕ → Work → StepOut → Past → Work → Type 0
Makes h s (Starting task.Login) (out.Ready (end.Pinned pin)) own now =
    (own ≡ event.Login s pin.base ∷ []) × (now ≡ Idle)
Makes h s (Starting task.Refresh) (out.Ready (end.Pinned pin)) own now =
    (own ≡ event.Refresh s pin.base ∷ []) × (now ≡ Idle)
Makes h s (Starting task.End) (out.Ready end.Ended) own now =
    (own ≡ event.Went s kind.End ∷ []) × (now ≡ Idle)
Makes h s (Starting (task.Load p)) (out.Went k) own now =
    (k ≡ kind.Read) × (own ≡ []) × (now ≡ Starting (task.Load p))
Makes h s (Starting (task.Load p)) (out.Ready (end.Node found)) own now =
    (found ≡ node_at (tree_of h.begin h.past s) p) × (own ≡ []) × (now ≡ Idle)
Makes h s (Starting (task.List p)) (out.Went k) own now =
    (k ≡ kind.Read) × (own ≡ []) × (now ≡ Starting (task.List p))
Makes h s (Starting (task.List p)) (out.Ready (end.Children names)) own now =
    (names ≡ dated_children_of (tree_of h.begin h.past s) p) × (own ≡ []) × (now ≡ Idle)
Makes h s (Starting (task.Commit edit marks)) (out.Went k) own now =
    (d : Draw) × IsDrawFor s edit marks d × (k ≡ kind.Draw) × (own ≡ event.Draw d ∷ [])
    × (now ≡ Writing d.revision)
Makes h s (Starting task.BackWrite) (out.Went k) own now =
    (m : ℕ) × IsSessionOn h s m × (k ≡ kind.Back) × (own ≡ event.Went s kind.Back ∷ [])
    × (now ≡ Publishing (local h.begin h.past m))
Makes h s (Starting task.BackRead) (out.Went k) own now =
    (v : RevVec) × IsPublic h v × (k ≡ kind.Back) × (own ≡ event.Went s kind.Back ∷ [])
    × (now ≡ Learning v)
Makes h s (Starting task.Sweep) (out.Went k) own now =
    (m : ℕ) × IsSessionOn h s m × (k ≡ kind.Sweep) × (own ≡ event.Went s kind.Sweep ∷ [])
    × (now ≡ Passing (published h.begin h.past m))
Makes h s (Starting (task.Split p)) (out.Went k) own now =
    SplitsOn s k own × (now ≡ Starting (task.Split p))
Makes h s (Starting (task.Split p)) (out.Ready (end.Split e)) own now =
    (k : StepKind) × SplitsOn s k own × (now ≡ Telling (event.Split s p e))
Makes h s (Starting task.Collect) (out.Went k) own now = (k ≡ kind.Bound) × BoundsOn s own now
Makes h s (Starting (task.Checkpoint i)) (out.Ready (end.Set None)) own now =
    (v : RevVec) × (base_of h.past s ≡ Some v) × (own ≡ event.Checkpoint i v ∷ []) × (now ≡ Idle)
Makes h s (Starting (task.Release i)) (out.Ready (end.Set None)) own now =
    (own ≡ event.Release i ∷ []) × (now ≡ Idle)
Makes h s (Starting (task.Release i)) (out.Ready end.NoCheckpoint) own now =
    (kept_checkpoint h.past i ≡ None) × (own ≡ event.Went s kind.Settings ∷ []) × (now ≡ Idle)
Makes h s (Starting (task.Attach i)) (out.Ready (end.Set (Some pin))) own now =
    (kept_checkpoint h.past i ≡ Some pin.base) × (own ≡ event.Attach s i ∷ []) × (now ≡ Idle)
Makes h s (Starting (task.Attach i)) (out.Ready end.NoCheckpoint) own now =
    (kept_checkpoint h.past i ≡ None) × (own ≡ event.Went s kind.Settings ∷ []) × (now ≡ Idle)
Makes h s (Starting task.Detach) (out.Went k) own now =
    (v : RevVec) × (k ≡ kind.Pin) × (own ≡ event.Refresh s v ∷ []) × (now ≡ Detaching v)
Makes h s (Starting task.Observe) (out.Ready (end.Pinned pin)) own now =
    (base_of h.past s ≡ Some pin.base) × (own ≡ event.Went s kind.Pin ∷ []) × (now ≡ Idle)
Makes h s (Starting (task.Changes since)) (out.Went k) own now =
    (k ≡ kind.Read) × (own ≡ []) × (now ≡ Starting (task.Changes since))
Makes h s (Starting (task.Changes since)) (out.Ready (end.Changes found)) own now =
    (v : RevVec) × (base_of h.past s ≡ Some v)
    × (found ≡ changes_between h.begin h.past since v) × (own ≡ []) × (now ≡ Idle)
Makes h s (Starting t) out.Memory own now = (own ≡ []) × (now ≡ Idle)
Makes h s (Publishing r) (out.Went k) own now =
    (k ≡ kind.Back) × (own ≡ event.Went s kind.Back ∷ []) × (now ≡ Publishing r)
Makes h s (Publishing r) (out.Ready (end.Published o)) own now =
    (m : ℕ) × IsSessionOn h s m × (o ≡ r) × (own ≡ event.Out m r ∷ []) × (now ≡ Idle)
Makes h s (Publishing r) out.Memory own now = (own ≡ []) × (now ≡ Idle)
Makes h s (Learning u) (out.Ready (end.Learnt v)) own now =
    (m : ℕ) × IsSessionOn h s m × SeesAllOf v u × (own ≡ event.In m v ∷ []) × (now ≡ Idle)
Makes h s (Learning u) out.Memory own now = (own ≡ []) × (now ≡ Idle)
Makes h s (Passing r) (out.Went k) own now = SweepsOn h s r k own now
Makes h s (Passing r) out.Memory own now = (own ≡ []) × (now ≡ Idle)
Makes h s (Sweeping r) (out.Ready (end.Swept o)) own now =
    (o ≡ r) × (own ≡ event.Went s kind.Learn ∷ []) × (now ≡ Idle)
Makes h s (Sweeping r) out.Memory own now = (own ≡ []) × (now ≡ Idle)
Makes h s Collecting (out.Went k) own now = CollectsOn s k own × (now ≡ Collecting)
Makes h s Collecting (out.Ready (end.Collected c)) own now =
    (own ≡ event.Went s kind.Collect ∷ []) × (now ≡ Telling (event.Collected s c))
Makes h s Collecting out.Memory own now = (own ≡ []) × (now ≡ Idle)
Makes h s (Detaching v) (out.Ready (end.Pinned pin)) own now =
    (pin.base ≡ v) × (own ≡ event.Detach s ∷ []) × (now ≡ Idle)
Makes h s (Detaching v) out.Memory own now = (own ≡ []) × (now ≡ Idle)
Makes h s (Writing r) (out.Went k) own now = WritesOn s r k own now
Makes h s (Writing r) out.Memory own now = (own ≡ []) × (now ≡ Undoing r commit.Memory)
Makes h s (Undoing r e) (out.Went k) own now =
    (k ≡ kind.Undo) × (own ≡ event.Went s kind.Undo ∷ []) × (now ≡ Undoing r e)
Makes h s (Undoing r e) (out.Ready (end.Commit f)) own now =
    (f ≡ e) × IsFinish r own × (now ≡ Idle)
Makes h s (Deciding r) (out.Went k) own now =
    (k ≡ kind.Finish) × IsFinish r own × (now ≡ Awaiting r)
Makes h s (Awaiting r) (out.Wait q) own now =
    (own ≡ []) × (now ≡ Awaiting r) × IsFalse (is_in_head h r) × HoldsBack h.past q r
Makes h s (Awaiting r) (out.Ready (end.Commit f)) own now =
    (f ≡ commit.Committed r) × IsTrue (is_in_head h r)
    × (v : RevVec) × IsTrue (sees v r) × (own ≡ event.Refresh s v ∷ []) × (now ≡ Idle)
Makes h s _ _ own now = ⊥

-- the kind of the step that ended a split, by what it added: it read, or changed a document
abbrev pub split_kind : Past → StepKind
split_kind [] = kind.Read
split_kind _ = kind.Split

-- the kind of the step that ended a task and added these
abbrev pub last_kind : Work → Past → StepKind
last_kind (Starting task.Login) own = kind.Login
last_kind (Starting task.Refresh) own = kind.Pin
last_kind (Starting task.End) own = kind.End
last_kind (Starting (task.Checkpoint i)) own = kind.Settings
last_kind (Starting (task.Release i)) own = kind.Settings
last_kind (Starting (task.Attach i)) own = kind.Settings
last_kind (Starting task.Observe) own = kind.Pin
last_kind (Starting (task.Split p)) own = split_kind own
last_kind (Starting t) own = kind.Read
last_kind (Publishing r) own = kind.Back
last_kind (Learning u) own = kind.Learn
last_kind (Sweeping r) own = kind.Learn
last_kind Collecting own = kind.Collect
last_kind (Detaching v) own = kind.Settings
last_kind (Undoing r e) own = kind.Finish
last_kind _ own = kind.Pin

-- the events are those of a step of the kind that is told
abbrev pub AreOfStep : History → ℕ → Work → StepOut → Past → Type 0
AreOfStep h s work (out.Went k) own = IsTrue (is_appended_by h s k (reverse own))
AreOfStep h s work (out.Ready e) own =
    IsTrue (is_appended_by h s (last_kind work own) (reverse own))
AreOfStep h s work _ own = own ≡ []

-- the kind is due
abbrev pub is_due : StepKind → Option StepKind → Bool
is_due k due = option_map_or (is_kind k) due false

-- a write, a mark and a last write are made only where they are due
abbrev pub is_by_due : Option StepKind → Past → Bool
is_by_due due (event.Went s kind.Write ∷ []) = is_due kind.Write due
is_by_due due (event.Went s kind.Mark ∷ []) = is_due kind.Mark due
is_by_due due (event.Commit r ∷ []) = is_due kind.Last due
is_by_due due _ = true

-- a commit that writes reads a previous document where that is due, and nowhere else; no event is
-- added then, also where memory is refused for it
abbrev pub ReadsAsDue : Bool → StepOut → Past → Type 0
ReadsAsDue true answer own = own ≡ []
ReadsAsDue false (out.Went kind.Read) own = ⊥
ReadsAsDue false answer own = ⊤

-- a split reads where that is due, and no event is added then; elsewhere it changes a document, but
-- where memory is refused
abbrev pub SplitsAsDue : Bool → StepOut → Past → Type 0
SplitsAsDue true answer own = own ≡ []
SplitsAsDue false out.Memory own = ⊤
SplitsAsDue false answer own = own ≢ []

-- events of others were added, none where nobody else steps the world, and then a step made these
pub record Steps (starts : Starts) (says : Says) (old new : Shown) (answer : StepOut) : Type 0 where
  pub others : Past
  pub own : Past
  pub grows : Grows starts says old.session old.history new.history others own
  pub makes : Makes (after others old.history) old.session old.work answer own new.work
  pub of_step : AreOfStep (after others old.history) old.session old.work answer own
  pub as_due : IsTrue (is_by_due old.due own)
  pub reads_due : (r : Revision) → old.work ≡ Writing r
      → ReadsAsDue (is_due kind.Read old.due) answer own
  pub splits_due : (p : Path) → old.work ≡ Starting (task.Split p)
      → SplitsAsDue (is_due kind.Read old.due) answer own
  pub session : new.session ≡ old.session
  pub room : new.room ≡ old.room
  pub beside : new.beside ≡ old.beside
  pub alone : IfSome old.beside.seats (λ seats. others ≡ [])

-- events of others were added, and then the reply, directly behind how a split or a collection
-- ended, where that is to be told; its place is taken
pub record Answers (starts : Starts) (says : Says) (old new : Shown) (index : ℕ) (text : Text)
    : Type 0 where
  pub others : Past
  pub grows : Grows starts says old.session old.history new.history others
      (event.Said old.session index text ∷ end_told old.work)
  pub session : new.session ≡ old.session
  pub work : new.work ≡ Idle
  pub room : new.room ≡ None
  pub beside : new.beside ≡ old.beside
  pub alone : IfSome old.beside.seats (λ seats. others ≡ [])

-- ---- how long it lasts

-- the step waits for an earlier revision
abbrev pub IsWait : StepOut → Type 0
IsWait (out.Wait q) = ⊤
IsWait _ = ⊥

-- to the history nothing was added but what one step of the session made
pub record ActedAlone (old new : Shown) (answer : StepOut) : Type 0 where
  pub own : Past
  pub grown : new.history ≡ after own old.history
  pub makes : Makes old.history old.session old.work answer own new.work

-- a step of the session, which acted alone, waits, or fewer steps are left of what is being done
abbrev pub LastsLess : (before now : ℕ) → Shown → Shown → StepOut → Type 0
LastsLess before now old new answer = ActedAlone old new answer → IsWait answer ⊎ (now < before)

-- where nothing was added to the history, as many steps are left
abbrev pub LastsOn : (before now : ℕ) → Shown → Shown → Type 0
LastsOn before now old new = (new.history ≡ old.history) → now ≡ before

-- ---- what a task asks

-- a task may start: a login first, the others of a session that has logged in and not left; an edit
-- that the law lets start; a detaching where the session is attached, and others only where it
-- isn't; what changed since a vector where the session's cursor is there. No world stops or
-- recovers yet
abbrev pub MayBegin : Starts → History → ℕ → Task → Type 0
MayBegin starts h s task.Login = IsFalse (has_login h.past s)
MayBegin starts h s (task.Commit edit marks) =
    IsTrue (has_login h.past s) × IsFalse (has_left h.past s) × IsFalse (is_attached h.past s)
    × starts h s edit marks
MayBegin starts h s (task.Checkpoint i) =
    IsTrue (has_login h.past s) × IsFalse (has_left h.past s) × IsFalse (is_attached h.past s)
MayBegin starts h s task.Refresh =
    IsTrue (has_login h.past s) × IsFalse (has_left h.past s) × IsFalse (is_attached h.past s)
MayBegin starts h s task.Observe =
    IsTrue (has_login h.past s) × IsFalse (has_left h.past s) × IsFalse (is_attached h.past s)
MayBegin starts h s (task.Attach i) =
    IsTrue (has_login h.past s) × IsFalse (has_left h.past s) × IsFalse (is_attached h.past s)
MayBegin starts h s task.Detach =
    IsTrue (has_login h.past s) × IsFalse (has_left h.past s) × IsTrue (is_attached h.past s)
MayBegin starts h s (task.Changes since) =
    IsTrue (has_login h.past s) × IsFalse (has_left h.past s) × IsFalse (is_attached h.past s)
    × (cursor_at h.past s ≡ Some since)
MayBegin starts h s (task.Stop k) = ⊥
MayBegin starts h s (task.Recover k) = ⊥
MayBegin starts h s _ = IsTrue (has_login h.past s) × IsFalse (has_left h.past s)

-- the place of the reply has this many bytes
abbrev pub HasRoom : Option ℕ → ℕ → Type 0
HasRoom None n = ⊥
HasRoom (Some room) n = n ≤ room

-- ---- for which command

-- the steps of a task append such an event
abbrev pub Appends : Task → Event → Type 0
Appends task.Login (event.Login s v) = ⊤
Appends task.End (event.Went s kind.End) = ⊤
Appends task.Refresh (event.Refresh s v) = ⊤
Appends (task.Commit edit marks) e = IsTrue (is_of_commit e)
Appends task.BackWrite (event.Went s kind.Back) = ⊤
Appends task.BackWrite (event.Out k r) = ⊤
Appends task.BackRead (event.Went s kind.Back) = ⊤
Appends task.BackRead (event.In k v) = ⊤
Appends task.Sweep (event.Went s kind.Sweep) = ⊤
Appends task.Sweep (event.Sweep k r) = ⊤
Appends task.Sweep (event.Went s kind.Learn) = ⊤
Appends (task.Split p) (event.Went s kind.Split) = ⊤
Appends (task.Split p) (event.Split s path e) = path ≡ p
Appends task.Collect (event.Went s kind.Bound) = ⊤
Appends task.Collect (event.Bound m t) = ⊤
Appends task.Collect (event.Went s kind.Collect) = ⊤
Appends task.Collect (event.Collected s c) = ⊤
Appends (task.Checkpoint i) (event.Checkpoint id v) = id ≡ i
Appends (task.Release i) (event.Release id) = id ≡ i
Appends (task.Release i) (event.Went s kind.Settings) = ⊤
Appends (task.Attach i) (event.Attach s id) = id ≡ i
Appends (task.Attach i) (event.Went s kind.Settings) = ⊤
Appends task.Detach (event.Refresh s v) = ⊤
Appends task.Detach (event.Detach s) = ⊤
Appends task.Observe (event.Went s kind.Pin) = ⊤
Appends _ _ = ⊥

-- what is being done may still append such an event
abbrev pub MayAppend : Work → Event → Type 0
MayAppend (Starting t) e = Appends t e
MayAppend (Writing r) e = IsTrue (is_of_commit e)
MayAppend (Undoing r f) e = IsTrue (is_of_commit e)
MayAppend (Deciding r) e = IsTrue (is_of_commit e)
MayAppend (Awaiting r) e = IsTrue (is_of_commit e)
MayAppend (Publishing r) e = Appends task.BackWrite e
MayAppend (Learning v) e = Appends task.BackRead e
MayAppend (Passing r) e = Appends task.Sweep e
MayAppend (Sweeping r) e = Appends task.Sweep e
MayAppend Collecting e = Appends task.Collect e
MayAppend (Telling x) e = e ≡ x
MayAppend (Detaching v) e = Appends task.Detach e
MayAppend Idle e = ⊥

-- the next command of session s asks for each event that the task appends
abbrev pub IsAskedOf : Asks → History → ℕ → Task → Type 0
IsAskedOf asks h s t = (e : Event) → Appends t e → asks s (next_index h.past s) e
