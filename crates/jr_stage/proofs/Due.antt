-- A last write is due only to a commit under way.
use Rattle.std.proofs.Common.{◌≡◌, Bool, true, false, Some, None, Option, refl}
use mathlib.Core.Bool.{false≢true}
use Rattle.jr_rev.specs.declared.revision.Revision.{Revision}
use Rattle.oak_commit.specs.declared.outcome.CommitEnd.{CommitEnd}
use Rattle.oak_commit.specs.declared.outcome.CommitEnd.TheVariants as end
use Rattle.oak_port.specs.Ports.{Deciding, Undoing, Work as Shows, Writing}
use Rattle.oak_step.specs.declared.work.Work.{Work}
use Rattle.oak_step.specs.declared.work.Work.TheVariants as work
use Rattle.oak_step.specs.declared.upkeep.Upkeep.{Upkeep}
use Rattle.oak_step.specs.declared.upkeep.Upkeep.TheVariants as upkeep
use Rattle.oak_step.specs.Upkeeps.{kind_kept, kind_read, kind_swept}
use Rattle.oak_sweep.specs.Sweeping as sweeping
use Rattle.oak_sweep.specs.declared.stage.Stage.{Stage as Swept}
use Rattle.oak_sweep.specs.declared.stage.Stage.TheVariants as swept
use Rattle.oak_sync.specs.Learning.{stage_of}
use Rattle.oak_sync.specs.declared.stage.Stage.{Stage as Syncing}
use Rattle.oak_sync.specs.declared.stage.Stage.TheVariants as syncing
use Rattle.oak_gc.specs.Stages as collect_stages
use Rattle.oak_gc.specs.declared.stage.Stage.{Stage as Collects}
use Rattle.oak_gc.specs.declared.stage.Stage.TheVariants as collects
use Rattle.oak_prev.specs.Stages as split_stages
use Rattle.oak_prev.specs.declared.stage.Stage.{Stage as Splits}
use Rattle.oak_prev.specs.declared.stage.Stage.TheVariants as splits
use Rattle.oak_tidy.specs.Tidyings.{kind_collect, kind_split, kind_tidied}
use Rattle.oak_tidy.specs.declared.tidying.Tidying.{Tidying}
use Rattle.oak_tidy.specs.declared.tidying.Tidying.TheVariants as tidying
use Rattle.oak_world.specs.Seen.{shown_by, shown_work}
use Rattle.oak_step.specs.Works.{kind_due}
use Rattle.jr_stage.specs.SoFar.{is_last_due}

abbrev pub at_commit : Shows → Bool
at_commit (Writing r) = true
at_commit (Undoing r e) = true
at_commit (Deciding r) = true
at_commit w = false

commits : (r : Revision) (o : Option CommitEnd) → at_commit (shown_by r o) ≡ true
commits r None = refl
commits r (Some (end.Committed q)) = refl
commits r (Some (end.Clash item q)) = refl
commits r (Some end.Memory) = refl

-- a background read makes no last write
read_commits : (at : Syncing) → is_last_due (Some (kind_read at)) ≡ true → ⊥
read_commits syncing.Write h = false≢true h
read_commits syncing.Publish h = false≢true h
read_commits syncing.Read h = false≢true h
read_commits syncing.Learn h = false≢true h
read_commits syncing.Done h = false≢true h

-- a sweep makes no last write
passes_commits : (y : Swept) → is_last_due (Some (kind_swept y)) ≡ true → ⊥
passes_commits swept.Root h = false≢true h
passes_commits swept.Document h = false≢true h
passes_commits swept.Publish h = false≢true h
passes_commits swept.Learn h = false≢true h
passes_commits swept.Done h = false≢true h

-- background work, and a change of the settings, make no last write
upkeep_commits : (u : Upkeep) → is_last_due (Some (kind_kept u)) ≡ true → ⊥
upkeep_commits upkeep.Write h = false≢true h
upkeep_commits (upkeep.Noted n) h = false≢true h
upkeep_commits (upkeep.Publish b) h = false≢true h
upkeep_commits (upkeep.Read b) h = read_commits (stage_of b) h
upkeep_commits upkeep.Sweep h = false≢true h
upkeep_commits (upkeep.Sweeping x) h = passes_commits (sweeping.stage_of x) h
upkeep_commits (upkeep.Checkpoint i) h = false≢true h
upkeep_commits (upkeep.Release i) h = false≢true h
upkeep_commits (upkeep.Attach i) h = false≢true h
upkeep_commits upkeep.Detach h = false≢true h
upkeep_commits (upkeep.Detaching pin) h = false≢true h
upkeep_commits upkeep.Observe h = false≢true h

-- a split and a collection make no last write
split_commits : (at : Splits) → is_last_due (Some (kind_split at)) ≡ true → ⊥
split_commits splits.Split h = false≢true h
split_commits splits.Read h = false≢true h
split_commits splits.Done h = false≢true h

collect_commits : (at : Collects) → is_last_due (Some (kind_collect at)) ≡ true → ⊥
collect_commits collects.Bound h = false≢true h
collect_commits collects.Collect h = false≢true h
collect_commits collects.Read h = false≢true h
collect_commits collects.Done h = false≢true h

tidy_commits : (x : Tidying) → is_last_due (Some (kind_tidied x)) ≡ true → ⊥
tidy_commits (tidying.Split x) h = split_commits (split_stages.stage_of x) h
tidy_commits (tidying.Collect x) h = collect_commits (collect_stages.stage_of x) h

pub last_commits : (w : Work) → is_last_due (kind_due w) ≡ true → at_commit (shown_work w) ≡ true
last_commits work.Rest h = absurd (false≢true h)
last_commits work.Login h = absurd (false≢true h)
last_commits work.End h = absurd (false≢true h)
last_commits work.Refresh h = absurd (false≢true h)
last_commits (work.Read r) h = absurd (false≢true h)
last_commits (work.Changes r) h = absurd (false≢true h)
last_commits (work.Plan edit marks) h = absurd (false≢true h)
last_commits (work.Commit c) h = commits c.revision c.outcome
last_commits (work.Move r) h = absurd (false≢true h)
last_commits (work.Upkeep u) h = absurd (upkeep_commits u h)
last_commits (work.Tidy x) h = absurd (tidy_commits x h)
last_commits (work.Told e) h = absurd (false≢true h)
