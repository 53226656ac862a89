-- Where no step is left of what a session does, none is left at other documents and memories.
use Rattle.std.proofs.Common.{◌≡◌, ℕ, Option, Some, None, refl, arith}
use Rattle.oak_commit.specs.Committing.{Committing}
use Rattle.oak_commit.specs.declared.outcome.CommitEnd.{CommitEnd}
use Rattle.core_world.specs.States.{State, memory_of}
use Rattle.oak_gc.specs.declared.collector.Collector.{Collector}
use Rattle.oak_gc.specs.declared.reading.Step.{Step as CollectStep}
use Rattle.oak_gc.specs.declared.reading.Step.TheVariants as collect_step
use Rattle.oak_prev.specs.declared.splitter.Splitter.{Splitter}
use Rattle.oak_prev.specs.declared.splitter.Step.{Step as SplitStep}
use Rattle.oak_prev.specs.declared.splitter.Step.TheVariants as split_step
use Rattle.oak_store.specs.Tables.{Table}
use Rattle.oak_step.specs.declared.upkeep.Upkeep.{Upkeep}
use Rattle.oak_step.specs.declared.upkeep.Upkeep.TheVariants as upkeep
use Rattle.oak_step.specs.declared.work.Work.{Work}
use Rattle.oak_step.specs.declared.work.Work.TheVariants as work
use Rattle.oak_tidy.specs.declared.tidying.Tidying.{Tidying}
use Rattle.oak_tidy.specs.declared.tidying.Tidying.TheVariants as tidying
use Rattle.oak_tidy.specs.Left.{tidying_left}
use Rattle.oak_world.specs.Left.{commit_left, steps_left, upkeep_left}
use Rattle.oak_world.proofs.Sweepers.{some_passes_left}

-- a commit always has a step left
going : (w : State) (c : Committing) (o : Option CommitEnd) → commit_left w.table c o ≡ 0 → ⊥
going w c None h = omega (arith, h)
going w c (Some e) h = omega (arith, h)

-- a split or a collection has a step left until it is done
split_over : (t u : Table) (x : Splitter) → tidying_left t (tidying.Split x) ≡ 0 → tidying_left u (tidying.Split x) ≡ 0
split_over t u x = by x.step
  where
    by : (st : SplitStep) → tidying_left t (tidying.Split (record x { step = st })) ≡ 0 → tidying_left u (tidying.Split (record x { step = st })) ≡ 0
    by split_step.Read h = absurd (omega (arith, h))
    by split_step.Root h = absurd (omega (arith, h))
    by (split_step.Previous e n) h = absurd (omega (arith, h))
    by (split_step.Main e n) h = absurd (omega (arith, h))
    by (split_step.Find k o) h = absurd (omega (arith, h))
    by (split_step.Remove k found o) h = absurd (omega (arith, h))
    by (split_step.Done o) h = refl

collect_over : (t u : Table) (x : Collector) → tidying_left t (tidying.Collect x) ≡ 0 → tidying_left u (tidying.Collect x) ≡ 0
collect_over t u x = by x.step
  where
    by : (st : CollectStep) → tidying_left t (tidying.Collect (record x { step = st })) ≡ 0 → tidying_left u (tidying.Collect (record x { step = st })) ≡ 0
    by collect_step.Root h = absurd (omega (arith, h))
    by (collect_step.Node k) h = absurd (omega (arith, h))
    by collect_step.Settings h = absurd (omega (arith, h))
    by collect_step.First h = absurd (omega (arith, h))
    by collect_step.Next h = absurd (omega (arith, h))
    by (collect_step.Listed n) h = absurd (omega (arith, h))
    by collect_step.Prune h = absurd (omega (arith, h))
    by collect_step.Remove h = absurd (omega (arith, h))
    by (collect_step.RemovePrevious n read) h = absurd (omega (arith, h))
    by collect_step.Done h = refl

tidying_over : (t u : Table) (x : Tidying) → tidying_left t x ≡ 0 → tidying_left u x ≡ 0
tidying_over t u (tidying.Split x) h = split_over t u x h
tidying_over t u (tidying.Collect x) h = collect_over t u x h

-- where a session has no step left at one state, none is left at another
pub none_left : (s : ℕ) (w u : State) (v : Work) → steps_left s w.table (memory_of w s) v ≡ 0 → steps_left s u.table (memory_of u s) v ≡ 0
none_left s w u work.Rest h = refl
none_left s w u work.Login h = absurd (omega (arith, h))
none_left s w u work.End h = absurd (omega (arith, h))
none_left s w u work.Refresh h = absurd (omega (arith, h))
none_left s w u (work.Read r) h = absurd (omega (arith, h))
none_left s w u (work.Changes r) h = absurd (omega (arith, h))
none_left s w u (work.Plan edit marks) h = absurd (omega (arith, h))
none_left s w u (work.Commit c) h = absurd (going w c c.outcome h)
none_left s w u (work.Move r) h = absurd (omega (arith, h))
none_left s w u (work.Tidy x) h = tidying_over w.table u.table x h
none_left s w u (work.Told e) h = refl
none_left s w u (work.Upkeep k) h = by k h
  where
    by : (k : Upkeep) → upkeep_left w.table (memory_of w s) k ≡ 0 → upkeep_left u.table (memory_of u s) k ≡ 0
    by upkeep.Write h = absurd (omega (arith, h))
    by (upkeep.Noted p) h = h
    by (upkeep.Publish b) h = h
    by (upkeep.Read b) h = h
    by upkeep.Sweep h = absurd (omega (arith, h))
    by (upkeep.Sweeping x) h = let some = some_passes_left w.table x in absurd (omega (arith, h, some))
    by (upkeep.Checkpoint i) h = h
    by (upkeep.Release i) h = h
    by (upkeep.Attach i) h = h
    by upkeep.Detach h = h
    by (upkeep.Detaching pin) h = h
    by upkeep.Observe h = h
