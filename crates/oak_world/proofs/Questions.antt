-- A commit that writes reads a previous document where that is due, and nowhere else, and so does a split; no event is added then.
use mathlib.Core.Bool.{false≢true}
use Rattle.std.proofs.Common.{◌≡◌, ◌≢◌, inl, inr, ℕ, suc, ◌+◌, Bool, true, false, Option, Some, None, [], ◌∷◌, ◌++◌, length, is_some, refl, sym, ap, subst, ◌∙◌, arith, length-append}
use Rattle.jr_rev.specs.declared.revision.Revision.{Revision}
use Rattle.oak_commit.specs.Committing.{Committing}
use Rattle.oak_commit.specs.Kept.{undoes}
use Rattle.oak_commit.specs.Stages.{stage_of}
use Rattle.oak_commit.specs.declared.look.Look.{Look}
use Rattle.oak_commit.specs.declared.outcome.CommitEnd.{CommitEnd}
use Rattle.oak_commit.specs.declared.outcome.CommitEnd.TheVariants as end
use Rattle.oak_commit.specs.declared.stage.Stage.{Stage}
use Rattle.oak_commit.specs.declared.stage.Stage.TheVariants as stage
use Rattle.oak_machine.specs.History.{Past}
use Rattle.oak_machine.specs.declared.event.Event.{Event}
use Rattle.oak_machine.specs.declared.event.Event.TheVariants as event
use Rattle.oak_machine.specs.declared.event.StepKind.{StepKind}
use Rattle.oak_machine.specs.declared.event.StepKind.TheVariants as kind
use Rattle.oak_port.specs.declared.task.StepOut.{StepOut}
use Rattle.oak_port.specs.declared.task.StepOut.TheVariants as answers
use Rattle.oak_port.specs.declared.task.Task.{Task}
use Rattle.oak_port.specs.Ports.{Deciding, Detaching, Learning, Publishing, ReadsAsDue, SplitsAsDue, Collecting, Starting, Undoing, Awaiting, Writing, is_due, Passing, Sweeping}
use Rattle.oak_prev.specs.declared.splitter.Splitter.{Splitter}
use Rattle.oak_prev.specs.declared.splitter.Step.{Step as SplitStep}
use Rattle.oak_prev.specs.declared.splitter.Step.TheVariants as split_step
use Rattle.oak_saves.proofs.Feeding.{stage_last, stage_mark, stage_write}
use Rattle.oak_saves.proofs.Stages.{finish_stage}
use Rattle.oak_step.specs.declared.upkeep.Upkeep.{Upkeep}
use Rattle.oak_step.specs.declared.upkeep.Upkeep.TheVariants as upkeep
use Rattle.oak_step.specs.declared.work.Work.{Work}
use Rattle.oak_step.specs.declared.work.Work.TheVariants as work
use Rattle.oak_step.specs.Works.{kind_due, kind_of_stage}
use Rattle.oak_sync.specs.Learning.{stage_of as stage_of_read}
use Rattle.oak_sync.specs.declared.back_read.BackRead.{BackRead}
use Rattle.oak_sync.specs.declared.stage.Stage.{Stage as Syncing}
use Rattle.oak_sync.specs.declared.stage.Stage.TheVariants as syncing
use Rattle.core_world.specs.States.{State}
use Rattle.oak_sweep.specs.Sweeping as sweeping
use Rattle.oak_sweep.specs.declared.stage.Stage.{Stage as Swept}
use Rattle.oak_sweep.specs.declared.stage.Stage.TheVariants as swept
use Rattle.oak_sweep.specs.declared.sweeper.Sweeper.{Sweeper}
use Rattle.core_watch.specs.Standing.{path_read}
use Rattle.jr_path.specs.declared.path.Path.{Path}
use Rattle.oak_gc.specs.Stages as collecting
use Rattle.oak_gc.specs.declared.stage.Stage.{Stage as Collects}
use Rattle.oak_gc.specs.declared.stage.Stage.TheVariants as collected
use Rattle.oak_port.specs.declared.task.Task.TheVariants as task
use Rattle.oak_tidy.specs.declared.tidying.Tidying.{Tidying}
use Rattle.oak_tidy.specs.declared.tidying.Tidying.TheVariants as tidying
use Rattle.oak_tidy.specs.Tidyings.{kind_tidied, tidy_events}
use Rattle.core_tidy.specs.Steps.{tidied_in}
use Rattle.oak_world.specs.Seen.{shown_by, shown_collect, shown_read, shown_tidying, shown_upkeep, shown_work, shown_sweep, task_of}
use Rattle.oak_world.specs.Steps.{MakesCommit, MakesState, MakesTidying, MakesUpdate}

-- where as many events are there as before, none was added
none_added : (own past : Past) → own ++ past ≡ past → own ≡ []
none_added [] past same = refl
none_added (e ∷ own) past same =
    let l : length ((e ∷ own) ++ past) ≡ suc (length own) + length past = length-append (e ∷ own) past in
    let k : length ((e ∷ own) ++ past) ≡ length past = ap length same in
    absurd (omega (arith, l, k))

-- tasks that are shown alike are the same
task_same : (a b : Task) → Starting a ≡ Starting b → a ≡ b
task_same a b h = cc

-- a committer that looks
stage_look : (c : Committing) (k : Look) → c.outcome ≡ None → c.looking ≡ Some k → stage_of c ≡ stage.Look
stage_look c k going looking = subst (λ (d : Committing). stage_of d ≡ stage.Look) (sym at) refl
  where
    at : c ≡ record c { outcome = None; looking = Some k }
    at = ap (λ (o : Option CommitEnd). record c { outcome = o }) going ∙ ap (λ (l : Option Look). record c { outcome = None; looking = l }) looking

module _ (s : ℕ) (w u : State) (own : Past) (grown : u.past ≡ own ++ w.past) where
  nothing : u.past ≡ w.past → own ≡ []
  nothing same = none_added own w.past (sym grown ∙ same)

  module _ (c : Committing) (going : c.outcome ≡ None) where
    at_stage : (y : Stage) (o : StepOut) → stage_of c ≡ y → ReadsAsDue (is_due kind.Read (kind_of_stage y)) o own → ReadsAsDue (is_due kind.Read (kind_of_stage (stage_of c))) o own
    at_stage y o is h = subst (λ (x : Stage). ReadsAsDue (is_due kind.Read (kind_of_stage x)) o own) (sym is) h

    update : (d : Committing) (k : StepKind) → MakesUpdate s w c u d k → ReadsAsDue (is_due kind.Read (kind_of_stage (stage_of c))) (answers.Went k) own
    update d kind.Mark g = at_stage stage.Mark (answers.Went kind.Mark) (stage_mark c going g.2.looked g.0 g.1 g.3) tt
    update d kind.Write g = at_stage stage.Write (answers.Went kind.Write) (stage_write c going g.2.looked g.0 g.1 g.3 g.4) tt
    update d kind.Read g = at_stage stage.Look (answers.Went kind.Read) (stage_look c g.0 going g.2) (elim g.3 [ inl e ↦ nothing (ap (λ (x : State). x.past) e.0) | inr e ↦ nothing (ap (λ (x : State). x.past) e.0) ])
    update d kind.Last g = at_stage stage.Last (answers.Went kind.Last) (stage_last c going g.0.looked g.1 g.2) tt
    update d kind.Undo g = absurd (false≢true (sym (ap undoes going) ∙ g.2))
    update d _ g = absurd g

    memory : (b : Bool) → u.past ≡ w.past → ReadsAsDue b answers.Memory own
    memory true same = nothing same
    memory false same = tt

    commit : (v : Work) (o : StepOut) → MakesCommit s w c u v o → ReadsAsDue (is_due kind.Read (kind_of_stage (stage_of c))) o own
    commit v o (inl m) = subst (λ (x : StepOut). ReadsAsDue (is_due kind.Read (kind_of_stage (stage_of c))) x own) (sym m.1) (update m.2 m.0 m.4)
    commit v o (inr (inl m)) = absurd (false≢true (sym (ap is_some going) ∙ (finish_stage c m.0).settled))
    commit v o (inr (inr m)) = subst (λ (x : StepOut). ReadsAsDue (is_due kind.Read (kind_of_stage (stage_of c))) x own) (sym m.0) (memory (is_due kind.Read (kind_of_stage (stage_of c))) (ap (λ (x : State). x.past) m.2))

  -- a commit that is shown to write is before its commit point
  still_open : (q r : Revision) (o : Option CommitEnd) → shown_by q o ≡ Writing r → o ≡ None
  still_open q r None h = refl
  still_open q r (Some (end.Committed x)) h = let never : Deciding q ≡ Writing r = h in cc
  still_open q r (Some (end.Clash item x)) h = let never : Undoing q (end.Clash item x) ≡ Writing r = h in cc
  still_open q r (Some end.Memory) h = let never : Undoing q end.Memory ≡ Writing r = h in cc

  never_task : {A : Type 0} (t : Task) (r : Revision) → Starting t ≡ Writing r → A
  never_task t r h = absurd (let never : Starting t ≡ Writing r = h in cc)

  read_shown : {A : Type 0} (b : BackRead) (at : Syncing) (r : Revision) → shown_read b at ≡ Writing r → A
  read_shown b syncing.Learn r h = absurd (let never : Learning b.last ≡ Writing r = h in cc)
  read_shown b syncing.Write r h = never_task _ r h
  read_shown b syncing.Publish r h = never_task _ r h
  read_shown b syncing.Read r h = never_task _ r h
  read_shown b syncing.Done r h = never_task _ r h

  sweep_shown : {A : Type 0} (x : Sweeper) (at : Swept) (r : Revision) → shown_sweep x at ≡ Writing r → A
  sweep_shown x swept.Root r h = never_task _ r h
  sweep_shown x swept.Document r h = absurd (let never : Passing x.target ≡ Writing r = h in cc)
  sweep_shown x swept.Publish r h = absurd (let never : Passing x.target ≡ Writing r = h in cc)
  sweep_shown x swept.Learn r h = absurd (let never : Sweeping x.target ≡ Writing r = h in cc)
  sweep_shown x swept.Done r h = absurd (let never : Passing x.target ≡ Writing r = h in cc)

  upkeep_shown : {A : Type 0} (k : Upkeep) (r : Revision) → shown_upkeep k ≡ Writing r → A
  upkeep_shown upkeep.Write r h = never_task _ r h
  upkeep_shown (upkeep.Noted n) r h = absurd (let never : Publishing n.upto ≡ Writing r = h in cc)
  upkeep_shown (upkeep.Publish b) r h = absurd (let never : Publishing b.upto ≡ Writing r = h in cc)
  upkeep_shown (upkeep.Read b) r h = read_shown b (stage_of_read b) r h
  upkeep_shown upkeep.Sweep r h = never_task _ r h
  upkeep_shown (upkeep.Sweeping x) r h = sweep_shown x (sweeping.stage_of x) r h
  upkeep_shown (upkeep.Checkpoint i) r h = never_task _ r h
  upkeep_shown (upkeep.Release i) r h = never_task _ r h
  upkeep_shown (upkeep.Attach i) r h = never_task _ r h
  upkeep_shown upkeep.Detach r h = never_task _ r h
  upkeep_shown (upkeep.Detaching pin) r h = absurd (let never : Detaching pin.base ≡ Writing r = h in cc)
  upkeep_shown upkeep.Observe r h = never_task _ r h

  -- neither a split nor a collection writes
  tidying_shown : {A : Type 0} (y : Tidying) (r : Revision) → shown_tidying y ≡ Writing r → A
  tidying_shown (tidying.Split y) r h = never_task _ r h
  tidying_shown (tidying.Collect y) r h = by (collecting.stage_of y) h
    where
      by : {A : Type 0} (st : Collects) → shown_collect st ≡ Writing r → A
      by collected.Bound k = never_task _ r k
      by collected.Read k = absurd (let never : Collecting ≡ Writing r = k in cc)
      by collected.Collect k = absurd (let never : Collecting ≡ Writing r = k in cc)
      by collected.Done k = absurd (let never : Collecting ≡ Writing r = k in cc)

  pub reads_as_due : (v x : Work) (o : StepOut) → MakesState s w v u x o → (r : Revision) → shown_work v ≡ Writing r → ReadsAsDue (is_due kind.Read (kind_due v)) o own
  reads_as_due (work.Commit c) x o m r h = commit c (still_open c.revision r c.outcome h) x o m
  reads_as_due work.Rest x o m r h = absurd m
  reads_as_due work.Login x o m r h = never_task _ r h
  reads_as_due work.End x o m r h = never_task _ r h
  reads_as_due work.Refresh x o m r h = never_task _ r h
  reads_as_due (work.Read y) x o m r h = never_task _ r h
  reads_as_due (work.Changes y) x o m r h = never_task _ r h
  reads_as_due (work.Plan edit marks) x o m r h = never_task _ r h
  reads_as_due (work.Move y) x o m r h = absurd (let never : Awaiting y ≡ Writing r = h in cc)
  reads_as_due (work.Upkeep k) x o m r h = upkeep_shown k r h
  reads_as_due (work.Tidy y) x o m r h = tidying_shown y r h
  reads_as_due (work.Told e) x o m r h = absurd m

  -- ---- a split

  -- what isn't a split isn't shown as one
  read_is_no_split : (parent : Option Path) (q p : Path) → task_of parent q ≡ task.Split p → ⊥
  read_is_no_split None q p h = cc
  read_is_no_split (Some r) q p h = cc

  commit_is_no_split : (r : Revision) (o : Option CommitEnd) (p : Path) → shown_by r o ≡ Starting (task.Split p) → ⊥
  commit_is_no_split r None p h = cc
  commit_is_no_split r (Some (end.Committed q)) p h = cc
  commit_is_no_split r (Some (end.Clash item q)) p h = cc
  commit_is_no_split r (Some end.Memory) p h = cc

  back_is_no_split : (b : BackRead) (at : Syncing) (p : Path) → shown_read b at ≡ Starting (task.Split p) → ⊥
  back_is_no_split b syncing.Write p h = cc
  back_is_no_split b syncing.Publish p h = cc
  back_is_no_split b syncing.Read p h = cc
  back_is_no_split b syncing.Learn p h = cc
  back_is_no_split b syncing.Done p h = cc

  sweep_is_no_split : (x : Sweeper) (at : Swept) (p : Path) → shown_sweep x at ≡ Starting (task.Split p) → ⊥
  sweep_is_no_split x swept.Root p h = cc
  sweep_is_no_split x swept.Document p h = cc
  sweep_is_no_split x swept.Publish p h = cc
  sweep_is_no_split x swept.Learn p h = cc
  sweep_is_no_split x swept.Done p h = cc

  upkeep_is_no_split : (k : Upkeep) (p : Path) → shown_upkeep k ≡ Starting (task.Split p) → ⊥
  upkeep_is_no_split upkeep.Write p h = cc
  upkeep_is_no_split (upkeep.Noted n) p h = cc
  upkeep_is_no_split (upkeep.Publish b) p h = cc
  upkeep_is_no_split (upkeep.Read b) p h = back_is_no_split b (stage_of_read b) p h
  upkeep_is_no_split upkeep.Sweep p h = cc
  upkeep_is_no_split (upkeep.Sweeping x) p h = sweep_is_no_split x (sweeping.stage_of x) p h
  upkeep_is_no_split (upkeep.Checkpoint i) p h = cc
  upkeep_is_no_split (upkeep.Release i) p h = cc
  upkeep_is_no_split (upkeep.Attach i) p h = cc
  upkeep_is_no_split upkeep.Detach p h = cc
  upkeep_is_no_split (upkeep.Detaching pin) p h = cc
  upkeep_is_no_split upkeep.Observe p h = cc

  collect_is_no_split : (st : Collects) (p : Path) → shown_collect st ≡ Starting (task.Split p) → ⊥
  collect_is_no_split collected.Bound p h = let never : Starting task.Collect ≡ Starting (task.Split p) = h in cc
  collect_is_no_split collected.Read p h = let never : Collecting ≡ Starting (task.Split p) = h in cc
  collect_is_no_split collected.Collect p h = let never : Collecting ≡ Starting (task.Split p) = h in cc
  collect_is_no_split collected.Done p h = let never : Collecting ≡ Starting (task.Split p) = h in cc

  -- where there is an event more, one was added
  some_added : (e : Event) → u.past ≡ e ∷ w.past → own ≢ []
  some_added e more none =
      let longer : length w.past ≡ suc (length w.past) = ap length (ap (λ (es : Past). es ++ w.past) (sym none) ∙ (sym grown ∙ more)) in
      omega (arith, longer)

  adds : (o : StepOut) → own ≢ [] → SplitsAsDue false o own
  adds answers.Memory some = tt
  adds _ some = some

  refused : (b : Bool) → u.past ≡ w.past → SplitsAsDue b answers.Memory own
  refused true same = nothing same
  refused false same = tt

  -- a split reads a commit root, or the previous document that it wrote, and no event is added
  split_adds : (y : Splitter) (st : SplitStep) (z : Tidying) (o : StepOut) → u.past ≡ tidy_events s (tidying.Split (record y { step = st })) z ++ w.past → SplitsAsDue (is_due kind.Read (Some (kind_tidied (tidying.Split (record y { step = st }))))) o own
  split_adds y split_step.Root z o more = nothing more
  split_adds y (split_step.Find k e) z o more = nothing more
  split_adds y _ z o more = adds o (some_added (event.Went s kind.Split) more)

  tidying_splits : (y : Tidying) (x : Work) (o : StepOut) → MakesTidying s w y u x o → (p : Path) → shown_tidying y ≡ Starting (task.Split p) → SplitsAsDue (is_due kind.Read (Some (kind_tidied y))) o own
  tidying_splits (tidying.Collect y) x o m p h = absurd (collect_is_no_split (collecting.stage_of y) p h)
  tidying_splits (tidying.Split y) x answers.Memory m p h = refused (is_due kind.Read (Some (kind_tidied (tidying.Split y)))) (ap (λ (t : State). t.past) m.0)
  tidying_splits (tidying.Split y) x (answers.Went k) m p h = split_adds y y.step (tidied_in w (tidying.Split y)) (answers.Went k) (ap (λ (t : State). t.past) m.0)
  tidying_splits (tidying.Split y) x (answers.Ready e) m p h = split_adds y y.step (tidied_in w (tidying.Split y)) (answers.Ready e) (ap (λ (t : State). t.past) m.0)
  tidying_splits (tidying.Split y) x _ m p h = absurd m.3

  pub splits_as_due : (v x : Work) (o : StepOut) → MakesState s w v u x o → (p : Path) → shown_work v ≡ Starting (task.Split p) → SplitsAsDue (is_due kind.Read (kind_due v)) o own
  splits_as_due (work.Tidy y) x o m p h = tidying_splits y x o m p h
  splits_as_due (work.Told e) x o m p h = absurd m
  splits_as_due work.Rest x o m p h = absurd m
  splits_as_due work.Login x o m p h = absurd (let never : Starting task.Login ≡ Starting (task.Split p) = h in cc)
  splits_as_due work.End x o m p h = absurd (let never : Starting task.End ≡ Starting (task.Split p) = h in cc)
  splits_as_due work.Refresh x o m p h = absurd (let never : Starting task.Refresh ≡ Starting (task.Split p) = h in cc)
  splits_as_due (work.Read y) x o m p h = absurd (let same : task_of y.parent (path_read y) ≡ task.Split p = task_same _ _ h in read_is_no_split y.parent (path_read y) p same)
  splits_as_due (work.Changes y) x o m p h = absurd (let never : Starting (task.Changes y.from) ≡ Starting (task.Split p) = h in cc)
  splits_as_due (work.Plan edit marks) x o m p h = absurd (let never : Starting (task.Commit edit marks) ≡ Starting (task.Split p) = h in cc)
  splits_as_due (work.Commit c) x o m p h = absurd (commit_is_no_split c.revision c.outcome p h)
  splits_as_due (work.Move y) x o m p h = absurd (let never : Awaiting y ≡ Starting (task.Split p) = h in cc)
  splits_as_due (work.Upkeep k) x o m p h = absurd (upkeep_is_no_split k p h)
