-- What the settings have, and the kinds of the steps of background work and on the settings.
use Rattle.std.specs.Prelude.{Option}
use Rattle.std.specs.BTreeMap.{is_at}
use Rattle.std.specs.Map.{lookup}
use Rattle.std.specs.Option.{option_and_then}
use Rattle.jr_path.specs.Names.{name_cmp}
use Rattle.jr_path.specs.declared.path.DocId.TheVariants as id
use Rattle.jr_path.specs.Lists.{Text}
use Rattle.jr_rev.specs.declared.vector.Pin.{Pin}
use Rattle.oak_machine.specs.declared.event.StepKind.{StepKind}
use Rattle.oak_machine.specs.declared.event.StepKind.TheVariants as kind
use Rattle.oak_store.specs.Tables.{Table, found}
use Rattle.oak_sweep.specs.Sweeping as sweeping
use Rattle.oak_sweep.specs.declared.stage.Stage.{Stage as Swept}
use Rattle.oak_sweep.specs.declared.stage.Stage.TheVariants as swept
use Rattle.oak_sync.specs.Learning.{stage_of}
use Rattle.oak_sync.specs.declared.stage.Stage.{Stage}
use Rattle.oak_sync.specs.declared.stage.Stage.TheVariants as stage
use Rattle.oak_step.specs.declared.upkeep.Upkeep.{Upkeep}
use Rattle.oak_step.specs.declared.upkeep.Upkeep.TheVariants as upkeep

-- the checkpoint of that id that the settings have
abbrev pub set_checkpoint : Table → Text → Option Pin
set_checkpoint t i =
    option_and_then (λ d. lookup (is_at (name_cmp i)) d.checkpoints) (found t id.Settings)

-- the kind of the next step of a background read that stands in a stage
abbrev pub kind_read : Stage → StepKind
kind_read stage.Learn = kind.Learn
kind_read _ = kind.Back

-- the kind of the next step of a sweep that stands in a stage
abbrev pub kind_swept : Swept → StepKind
kind_swept swept.Learn = kind.Learn
kind_swept _ = kind.Sweep

-- the kind of the next step of an upkeep
abbrev pub kind_kept : Upkeep → StepKind
kind_kept upkeep.Write = kind.Back
kind_kept (upkeep.Noted n) = kind.Back
kind_kept (upkeep.Publish b) = kind.Back
kind_kept (upkeep.Read b) = kind_read (stage_of b)
kind_kept upkeep.Sweep = kind.Sweep
kind_kept (upkeep.Sweeping x) = kind_swept (sweeping.stage_of x)
kind_kept (upkeep.Checkpoint i) = kind.Settings
kind_kept (upkeep.Release i) = kind.Settings
kind_kept (upkeep.Attach i) = kind.Settings
kind_kept upkeep.Detach = kind.Pin
kind_kept (upkeep.Detaching pin) = kind.Settings
kind_kept upkeep.Observe = kind.Pin
