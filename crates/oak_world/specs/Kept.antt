-- What each world keeps.
use Rattle.jr_path.specs.declared.path.Path.{Path}
use Rattle.oak_commit.specs.declared.look.Look.{Look}
use Rattle.oak_store.specs.Tables.{Table}
use Rattle.std.specs.Prelude.{◌≡◌, ◌≤◌, ◌+◌, ℕ, false, cond, [], ◌∷◌, ◌++◌, List, length, map, sum_by, slice_get, Some, is_some, IsTrue, IsFalse}
use Rattle.oak_commit.specs.Committing.{Committing}
use Rattle.oak_machine.specs.History.{History}
use Rattle.oak_machine.specs.Commits.{is_ended}
use Rattle.oak_machine.specs.declared.event.Event.{Event}
use Rattle.oak_machine.specs.Asked.{AreAsked}
use Rattle.oak_machine.specs.Laws.{Asks, Says, Starts}
use Rattle.oak_machine.specs.Sessions.{has_login, has_reader, is_attached, is_stopped, next_index}
use Rattle.oak_read.specs.Reading.{IsTable}
use Rattle.core_clash.specs.Core.{root_of}
use Rattle.core_keep.specs.Formers.{Formers}
use Rattle.core_tidy.specs.Tidying.{AreTidying}
use Rattle.core_world.specs.Kept.{IsKept, WereOnRoot}
use Rattle.jr_rev.specs.declared.revision.Revision.{Revision}
use Rattle.jr_rev.specs.Revisions.{is_at_most}
use Rattle.oak_machine.specs.Heads.{local, published}
use Rattle.oak_port.specs.Ports.{MayAppend}
use Rattle.oak_sweep.specs.Sweeping as sweeping
use Rattle.oak_sweep.specs.declared.stage.Stage.{Stage as Swept}
use Rattle.oak_sweep.specs.declared.stage.Stage.TheVariants as swept
use Rattle.oak_sweep.specs.declared.sweeper.Sweeper.{Sweeper}
use Rattle.oak_sync.specs.Learning.{stage_of}
use Rattle.oak_sync.specs.declared.back_read.BackRead.{BackRead}
use Rattle.oak_sync.specs.declared.back_write.BackWrite.{BackWrite}
use Rattle.oak_sync.specs.declared.stage.Stage.{Stage as Syncing}
use Rattle.oak_sync.specs.declared.stage.Stage.TheVariants as syncing
use Rattle.oak_step.specs.declared.upkeep.Upkeep.{Upkeep}
use Rattle.oak_step.specs.declared.upkeep.Upkeep.TheVariants as upkeep
use Rattle.oak_world.specs.declared.actor.Actor.{Actor}
use Rattle.oak_step.specs.declared.work.Work.{Work}
use Rattle.oak_step.specs.declared.work.Work.TheVariants as work
use Rattle.oak_step.specs.Parts.{needed}
use Rattle.oak_tidy.specs.Tidyings.{CanTidy}
use Rattle.oak_world.specs.Ends.{MayTell}
use Rattle.oak_world.specs.Worlds.{WorldOf, actor_in, live, once_looked, state_of, tidying_of, with_formers, work_in}
use Rattle.oak_world.specs.Looks.{AreListedOnce, IsLookingOn}
use Rattle.oak_world.specs.Seen.{shown_work}
use Rattle.oak_world.specs.Steps.{IsPresent}

-- what a session goes by: the documents, what is told of former ones, and the history
pub record Scene : Type 0 where
  pub table : Table
  pub formers : Formers
  pub history : History

-- a scene of these
abbrev pub scene : Table → Formers → History → Scene
scene t formers h = record { table = t; formers = formers; history = h }

-- the session has come, and the commit hasn't ended; the commit goes to the commit roots of those
-- that it is to mark, also of those whom it will meet in its look
pub record IsAtWork (x : Scene) (s : ℕ) (c : Committing) : Type 0 where
  pub come : IsPresent x.history s
  pub unended : c.ended ≡ false
  pub roots : (once_looked x.table c).roots
      ≡ map (λ f. root_of x.history.past f.other) (once_looked x.table c).writer.due
  pub looks : (k : Look) → c.looking ≡ Some k → IsLookingOn x.table x.formers c k

-- the revision is one of the session's cluster node, at most its local one
abbrev pub IsOwn : History → ℕ → Revision → Type 0
IsOwn h s r = (slice_get h.sessions s ≡ Some r.cluster)
    × IsTrue (is_at_most r (local h.begin h.past r.cluster))

-- the revision is one of the session's cluster node, and published
abbrev pub IsOwnPublished : History → ℕ → Revision → Type 0
IsOwnPublished h s r = (slice_get h.sessions s ≡ Some r.cluster)
    × IsTrue (is_at_most r (published h.begin h.past r.cluster))

-- the root's document is the last that a background write tells, and is still to be told
pub record EndsInRoot (b : BackWrite) : Type 0 where
  pub front : List Path
  pub paths : b.paths ≡ front ++ [] ∷ []
  pub ahead : b.written ≤ length front

-- a background read that stands in a stage has still to read the root, or has read what the root
-- told
abbrev pub MayReadOn : History → BackRead → Syncing → Type 0
MayReadOn h b syncing.Read = Unit {0}
MayReadOn h b syncing.Learn = WereOnRoot h.begin h.clusters h.past b.last b.sweep
MayReadOn h b _ = ⊥

-- a sweep of the session's cluster node that stands in a stage has still to read the root, or goes
-- up to what is published
abbrev pub MaySweepOn : History → ℕ → Sweeper → Swept → Type 0
MaySweepOn h s x swept.Root = slice_get h.sessions s ≡ Some x.cluster
MaySweepOn h s x swept.Done = ⊥
MaySweepOn h s x _ = IsOwnPublished h s x.target

-- what is published is the node's own, what is learned the root told, and what is swept published;
-- at an attached session no checkpoint is made, no cursor is pinned, and no further checkpoint is
-- taken; it is detached, and once it is at the head, its reader goes
abbrev pub MayKeepUp : History → ℕ → Upkeep → Type 0
MayKeepUp h s (upkeep.Noted n) = IsOwn h s n.upto
MayKeepUp h s (upkeep.Publish b) = IsOwn h s b.upto × EndsInRoot b
MayKeepUp h s (upkeep.Read b) = MayReadOn h b (stage_of b)
MayKeepUp h s (upkeep.Sweeping x) = MaySweepOn h s x (sweeping.stage_of x)
MayKeepUp h s (upkeep.Checkpoint i) = IsFalse (is_attached h.past s)
MayKeepUp h s (upkeep.Attach i) = IsFalse (is_attached h.past s)
MayKeepUp h s upkeep.Detach = IsTrue (is_attached h.past s)
MayKeepUp h s (upkeep.Detaching pin) =
    IsFalse (is_attached h.past s) × IsTrue (has_reader h.past s)
MayKeepUp h s upkeep.Observe = IsFalse (is_attached h.past s)
MayKeepUp h s _ = Unit {0}

-- what a session does, it may do: a session that splits or collects can go on over the memories of
-- all cluster nodes, and how its split or collection ended it may tell
abbrev pub May : Starts → Scene → ℕ → Work → Type 0
May starts x s work.Rest = Unit {0}
May starts x s work.Login = IsFalse (has_login x.history.past s)
May starts x s work.End = IsPresent x.history s
May starts x s work.Refresh = IsPresent x.history s × IsFalse (is_attached x.history.past s)
May starts x s (work.Read r) = IsPresent x.history s
May starts x s (work.Changes r) = IsPresent x.history s × IsFalse (is_attached x.history.past s)
May starts x s (work.Plan edit marks) =
    IsPresent x.history s × IsFalse (is_attached x.history.past s) × starts x.history s edit marks
May starts x s (work.Commit c) = IsAtWork x s c
May starts x s (work.Upkeep u) = IsPresent x.history s × MayKeepUp x.history s u
May starts x s (work.Move r) =
    IsPresent x.history s × IsTrue (is_ended x.history.past r)
    × (slice_get x.history.sessions s ≡ Some r.cluster)
May starts x s (work.Tidy y) = IsPresent x.history s × CanTidy x.history.clusters y
May starts x s (work.Told e) = IsPresent x.history s × MayTell x.history s e

-- the state is kept by its law, with the former documents of those that list previous ones; the
-- documents are in store order, and each lists each previous document once; there are at most 64
-- sessions, of each it is known whether it is attached to a checkpoint, no cluster node is stopped,
-- each may do what it does, and those that split or collect have tidied so far what they may go on
-- from
pub record IsWorld (starts : Starts) (says : Says) {L : Type 0} (w : WorldOf L) : Type 0 where
  pub formers : Formers
  pub kept : IsKept starts says (with_formers (state_of w) formers)
  pub table : IsTable w.table.documents
  pub once : AreListedOnce w.table
  pub few : length w.history.sessions ≤ 64
  pub attached : (s : ℕ) → (actor_in w.actors s).attached ≡ is_attached w.history.past s
  pub unstopped : (k : ℕ) → IsFalse (is_stopped w.history.past k)
  pub seats : length w.actors ≡ length w.history.sessions
  pub may : (s : ℕ)
      → May starts (scene w.table formers (live w.history)) s (work_in w.actors s)
  pub tidying :
      AreTidying (with_formers (state_of w) formers) (λ s. tidying_of (work_in w.actors s))

-- each event was made for a command that asks for it, and the next command of each session asks for
-- each event that what is being done for it may still append
pub record IsAskedWorld (asks : Asks) {L : Type 0} (w : WorldOf L) : Type 0 where
  pub made : AreAsked asks (live w.history)
  pub coming : (s : ℕ) (e : Event) → MayAppend (shown_work (work_in w.actors s)) e
      → asks s (next_index w.history.past s) e

-- the places that are kept for what a session does, and for its reply
abbrev pub IsPlaced : Actor → Type 0
IsPlaced a = needed a.work + cond (is_some a.reply) 1 0 ≤ a.places

-- each session has its places, and the journal keeps them all
pub record ArePlaced (actors : List Actor) (places : ℕ) : Type 0 where
  pub all : sum_by (λ a. a.places) actors ≡ places
  pub each : (s : ℕ) (a : Actor) → slice_get actors s ≡ Some a → IsPlaced a
