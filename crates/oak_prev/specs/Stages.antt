-- Which kind of step a splitter has due.
use Rattle.oak_prev.specs.declared.splitter.Splitter.{Splitter}
use Rattle.oak_prev.specs.declared.splitter.Step.{Step}
use Rattle.oak_prev.specs.declared.splitter.Step.TheVariants as step
use Rattle.oak_prev.specs.declared.stage.Stage.{Stage}
use Rattle.oak_prev.specs.declared.stage.Stage.TheVariants as stage

-- the document, the updates and the removal are counted; the status of what moves and the previous document are read beside
abbrev pub stage_of : Splitter → Stage
stage_of s = by s.step
  where
    by : Step → Stage
    by step.Root = stage.Read
    by (step.Find k o) = stage.Read
    by (step.Done o) = stage.Done
    by _ = stage.Split
