-- What a session does that is told to do a task, and the kind of its next step.
use Rattle.std.specs.Prelude.{◌≡◌, ℕ, Option, Some, None, IsSome}
use Rattle.std.specs.declared.alloc.Global.{Global}
use Rattle.jr_rev.specs.declared.vector.Pin.{Pin}
use Rattle.oak_changes.specs.Reading.{changes_reader}
use Rattle.oak_commit.specs.Stages.{stage_of}
use Rattle.oak_commit.specs.declared.stage.Stage.{Stage}
use Rattle.oak_commit.specs.declared.stage.Stage.TheVariants as stage
use Rattle.oak_gc.specs.Collecting as collecting
use Rattle.oak_machine.specs.declared.event.StepKind.{StepKind}
use Rattle.oak_machine.specs.declared.event.StepKind.TheVariants as kind
use Rattle.oak_port.specs.declared.task.Task.{Task}
use Rattle.oak_port.specs.declared.task.Task.TheVariants as task
use Rattle.oak_prev.specs.Splitting as splitting
use Rattle.oak_read.specs.Reading.{children_reader, node_reader}
use Rattle.oak_sync.specs.Learning.{begun}
use Rattle.oak_step.specs.declared.upkeep.Upkeep.TheVariants as upkeep
use Rattle.oak_step.specs.declared.work.Work.{Work}
use Rattle.oak_step.specs.declared.work.Work.TheVariants as work
use Rattle.oak_step.specs.Upkeeps.{kind_kept}
use Rattle.oak_tidy.specs.declared.tidying.Tidying.TheVariants as tidying
use Rattle.oak_tidy.specs.Tidyings.{kind_tidied}

-- what a session does that is told to do a task, at its pin, where there are n cluster nodes
abbrev pub Begins : ℕ → Option Pin → Task → Work → Type 0
Begins n pin task.Login v = v ≡ work.Login
Begins n pin task.End v = v ≡ work.End
Begins n pin task.Refresh v = v ≡ work.Refresh
Begins n pin (task.Load p) v =
    (a : Global) × (at : Pin) × (pin ≡ Some at) × (v ≡ work.Read (node_reader a at p))
Begins n pin (task.List p) v =
    (a : Global) × (at : Pin) × (pin ≡ Some at) × (v ≡ work.Read (children_reader a at p))
Begins n pin (task.Changes since) v =
    (a : Global) × (at : Pin) × (pin ≡ Some at)
    × (v ≡ work.Changes (changes_reader a since at))
Begins n pin (task.Commit edit marks) v = v ≡ work.Plan edit marks
Begins n pin task.BackWrite v = v ≡ work.Upkeep upkeep.Write
Begins n pin task.BackRead v = (a : Global) × (v ≡ work.Upkeep (upkeep.Read (begun a)))
Begins n pin task.Sweep v = v ≡ work.Upkeep upkeep.Sweep
Begins n pin (task.Checkpoint i) v = v ≡ work.Upkeep (upkeep.Checkpoint i)
Begins n pin (task.Release i) v = v ≡ work.Upkeep (upkeep.Release i)
Begins n pin (task.Attach i) v = v ≡ work.Upkeep (upkeep.Attach i)
Begins n pin task.Detach v = v ≡ work.Upkeep upkeep.Detach
Begins n pin task.Observe v = v ≡ work.Upkeep upkeep.Observe
Begins n pin (task.Split p) v =
    (a : Global) × (at : Pin) × (pin ≡ Some at)
    × (v ≡ work.Tidy (tidying.Split (splitting.begun a at p)))
Begins n pin task.Collect v =
    (a : Global) × (v ≡ work.Tidy (tidying.Collect (collecting.begun a n)))
Begins n pin _ v = ⊥

-- a session may be told to do a task: a world does the task, and it reads or splits where it has a
-- pin
abbrev pub CanBegin : Option Pin → Task → Type 0
CanBegin pin (task.Load p) = IsSome pin
CanBegin pin (task.List p) = IsSome pin
CanBegin pin (task.Changes since) = IsSome pin
CanBegin pin (task.Split p) = IsSome pin
CanBegin pin (task.Stop k) = ⊥
CanBegin pin (task.Recover k) = ⊥
CanBegin pin _ = Unit {0}

-- the kind of the next step of a committer that stands in a stage
abbrev pub kind_of_stage : Stage → Option StepKind
kind_of_stage stage.Mark = Some kind.Mark
kind_of_stage stage.Write = Some kind.Write
kind_of_stage stage.Look = Some kind.Read
kind_of_stage stage.Last = Some kind.Last
kind_of_stage stage.Undo = Some kind.Undo
kind_of_stage stage.Finish = Some kind.Finish
kind_of_stage stage.Done = None

-- the kind of the step that is due, if a step is
abbrev pub kind_due : Work → Option StepKind
kind_due work.Rest = None
kind_due work.Login = Some kind.Login
kind_due work.End = Some kind.End
kind_due work.Refresh = Some kind.Pin
kind_due (work.Read r) = Some kind.Read
kind_due (work.Changes r) = Some kind.Read
kind_due (work.Plan edit marks) = Some kind.Draw
kind_due (work.Commit c) = kind_of_stage (stage_of c)
kind_due (work.Move r) = Some kind.Pin
kind_due (work.Upkeep u) = Some (kind_kept u)
kind_due (work.Tidy x) = Some (kind_tidied x)
kind_due (work.Told e) = None
