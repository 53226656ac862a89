-- What a session is shown of a world through its port.
use Rattle.std.specs.Prelude.{ℕ, Option, None, Some, map, slice_set}
use Rattle.std.specs.Borrow.{GName}
use Rattle.jr_path.specs.declared.path.Path.{Path}
use Rattle.jr_rev.specs.declared.revision.Revision.{Revision}
use Rattle.oak_commit.specs.declared.outcome.CommitEnd.{CommitEnd}
use Rattle.oak_commit.specs.declared.outcome.CommitEnd.TheVariants as end
use Rattle.core_watch.specs.Standing.{path_read}
use Rattle.oak_gc.specs.Stages as collecting
use Rattle.oak_gc.specs.declared.stage.Stage.{Stage as Collected}
use Rattle.oak_gc.specs.declared.stage.Stage.TheVariants as collected
use Rattle.oak_port.specs.declared.task.Task.{Task}
use Rattle.oak_port.specs.declared.task.Task.TheVariants as task
use Rattle.oak_sweep.specs.Sweeping as sweeping
use Rattle.oak_sweep.specs.declared.stage.Stage.{Stage as Swept}
use Rattle.oak_sweep.specs.declared.stage.Stage.TheVariants as swept
use Rattle.oak_sweep.specs.declared.sweeper.Sweeper.{Sweeper}
use Rattle.oak_sync.specs.Learning.{stage_of}
use Rattle.oak_sync.specs.declared.back_read.BackRead.{BackRead}
use Rattle.oak_sync.specs.declared.stage.Stage.{Stage as Syncing}
use Rattle.oak_sync.specs.declared.stage.Stage.TheVariants as syncing
use Rattle.oak_step.specs.declared.upkeep.Upkeep.{Upkeep}
use Rattle.oak_step.specs.declared.upkeep.Upkeep.TheVariants as upkeep
use Rattle.oak_port.specs.Ports.{Awaiting, Collecting, Deciding, Detaching, Idle, Learning, Passing, Publishing, Seat, Shown, Starting, Sweeping, Telling, Undoing, Work as Shows, Writing}
use Rattle.oak_step.specs.declared.work.Work.{Work}
use Rattle.oak_step.specs.declared.work.Work.TheVariants as work
use Rattle.oak_step.specs.Works.{kind_due}
use Rattle.oak_tidy.specs.declared.tidying.Tidying.{Tidying}
use Rattle.oak_tidy.specs.declared.tidying.Tidying.TheVariants as tidying
use Rattle.oak_world.specs.Worlds.{ActorState, WorldOf, actor_in, live, work_in}

-- the task of a reader: a list where it has a parent, and else a load
abbrev pub task_of : Option Path → Path → Task
task_of None p = task.Load p
task_of (Some q) p = task.List p

-- a commit that has drawn its revision, by how it ends
abbrev pub shown_by : Revision → Option CommitEnd → Shows
shown_by r None = Writing r
shown_by r (Some (end.Committed o)) = Deciding r
shown_by r (Some e) = Undoing r e

-- a background read that stands in a stage
abbrev pub shown_read : BackRead → Syncing → Shows
shown_read b syncing.Learn = Learning b.last
shown_read b _ = Starting task.BackRead

-- a sweep that stands in a stage
abbrev pub shown_sweep : Sweeper → Swept → Shows
shown_sweep x swept.Root = Starting task.Sweep
shown_sweep x swept.Learn = Sweeping x.target
shown_sweep x _ = Passing x.target

-- background work, a sweep, or a change of the settings
abbrev pub shown_upkeep : Upkeep → Shows
shown_upkeep upkeep.Write = Starting task.BackWrite
shown_upkeep (upkeep.Noted n) = Publishing n.upto
shown_upkeep (upkeep.Publish b) = Publishing b.upto
shown_upkeep (upkeep.Read b) = shown_read b (stage_of b)
shown_upkeep upkeep.Sweep = Starting task.Sweep
shown_upkeep (upkeep.Sweeping x) = shown_sweep x (sweeping.stage_of x)
shown_upkeep (upkeep.Checkpoint i) = Starting (task.Checkpoint i)
shown_upkeep (upkeep.Release i) = Starting (task.Release i)
shown_upkeep (upkeep.Attach i) = Starting (task.Attach i)
shown_upkeep upkeep.Detach = Starting task.Detach
shown_upkeep (upkeep.Detaching pin) = Detaching pin.base
shown_upkeep upkeep.Observe = Starting task.Observe

-- a collection that stands in a stage: before its bound is taken it starts
abbrev pub shown_collect : Collected → Shows
shown_collect collected.Bound = Starting task.Collect
shown_collect _ = Collecting

-- a split, or a collection
abbrev pub shown_tidying : Tidying → Shows
shown_tidying (tidying.Split x) = Starting (task.Split x.path)
shown_tidying (tidying.Collect x) = shown_collect (collecting.stage_of x)

-- what is shown of what a session does
abbrev pub shown_work : Work → Shows
shown_work work.Rest = Idle
shown_work work.Login = Starting task.Login
shown_work work.End = Starting task.End
shown_work work.Refresh = Starting task.Refresh
shown_work (work.Read r) = Starting (task_of r.parent (path_read r))
shown_work (work.Changes r) = Starting (task.Changes r.from)
shown_work (work.Plan edit marks) = Starting (task.Commit edit marks)
shown_work (work.Commit c) = shown_by c.revision c.outcome
shown_work (work.Move r) = Awaiting r
shown_work (work.Upkeep u) = shown_upkeep u
shown_work (work.Tidy x) = shown_tidying x
shown_work (work.Told e) = Telling e

-- the seat of a session
abbrev pub seat_of : ActorState → Seat
seat_of a = record { work = shown_work a.work; room = a.reply; due = kind_due a.work }

-- the seat of a session that isn't there
abbrev pub no_seat : Seat
no_seat = record { work = Idle; room = None; due = None }

-- what session s is shown of a world to which a reference of this name leads
abbrev pub shown_at : {L : Type 0} → GName → WorldOf L → ℕ → Shown
shown_at name w s = record {
  history = live w.history;
  session = s;
  work = shown_work (work_in w.actors s);
  room = (actor_in w.actors s).reply;
  due = kind_due (work_in w.actors s);
  beside = record { name = name; seats = Some (slice_set (map seat_of w.actors) s no_seat) };
}
