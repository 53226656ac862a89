-- Which kind of step a collector has due.
use Rattle.oak_gc.specs.declared.collector.Collector.{Collector}
use Rattle.oak_gc.specs.declared.reading.Step.{Step}
use Rattle.oak_gc.specs.declared.reading.Step.TheVariants as step
use Rattle.oak_gc.specs.declared.stage.Stage.{Stage}
use Rattle.oak_gc.specs.declared.stage.Stage.TheVariants as stage

-- first the bound, then the documents; the previous documents that a document lists are read beside
abbrev pub stage_of : Collector → Stage
stage_of c = by c.step
  where
    by : Step → Stage
    by step.Root = stage.Bound
    by (step.Node k) = stage.Bound
    by step.Settings = stage.Bound
    by (step.Listed n) = stage.Read
    by step.Done = stage.Done
    by _ = stage.Collect
