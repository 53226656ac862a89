-- A step of a session lowers the number of steps that are left, or it waits.
use mathlib.Core.Bool.{false≢true}
use Rattle.std.proofs.Common.{◌≡◌, ◌≢◌, ◌⊎◌, inl, inr, ℕ, suc, ◌+◌, ◌-◌, ◌<◌, ◌≤◌, true, cond, Option, Some, None, Result, Ok, Err, List, [], ◌∷◌, ◌++◌, length, drop, map, is_some, refl, sym, ap, subst, ◌∙◌, arith, length-append}
use Rattle.std.specs.Prelude.{nat_lt, slice_get, slice_set}
use Rattle.std.specs.Option.{unwrap_or}
use Rattle.std.proofs.lemmas.Bool.{lt-ltb}
use Rattle.std.proofs.lemmas.Option.{slice_get_within}
use Rattle.jr_path.specs.declared.path.DocId.TheVariants as id
use Rattle.jr_path.specs.declared.path.Item.{Item}
use Rattle.jr_path.specs.declared.path.Path.{Path}
use Rattle.jr_rev.specs.declared.revision.Revision.{Revision}
use Rattle.oak_commit.specs.Clashing.{Met, found, mark_op}
use Rattle.oak_commit.specs.Committing.{Committing, begun, first_path, refused, roots_in, wanting, with_undone, written}
use Rattle.oak_commit.specs.Kept.{undoes}
use Rattle.oak_commit.specs.Stages.{stage_of}
use Rattle.oak_commit.specs.Writing.{write_op}
use Rattle.oak_commit.specs.declared.look.Look.{Look}
use Rattle.oak_commit.specs.declared.outcome.CommitEnd.{CommitEnd}
use Rattle.oak_commit.specs.declared.outcome.CommitEnd.TheVariants as end
use Rattle.oak_commit.specs.declared.stage.Stage.TheVariants as stage
use Rattle.oak_doc.specs.Updates.{updated}
use Rattle.oak_doc.specs.declared.asks.Ask.TheVariants as ask
use Rattle.oak_doc.specs.declared.document.Document.{Document}
use Rattle.oak_doc.specs.declared.update.OpFault.{OpFault}
use Rattle.oak_gc.specs.Collecting as collecting
use Rattle.oak_gc.specs.declared.collector.Collector.{Collector}
use Rattle.oak_gc.specs.declared.reading.Step.{Step as CollectStep}
use Rattle.oak_gc.specs.declared.reading.Step.TheVariants as collect_step
use Rattle.oak_machine.specs.History.{History, Past}
use Rattle.oak_machine.specs.Laws.{Says, Starts}
use Rattle.oak_machine.specs.declared.event.StepKind.{StepKind}
use Rattle.oak_machine.specs.declared.event.StepKind.TheVariants as kind
use Rattle.oak_node.specs.Heads.{next_draw}
use Rattle.oak_node.specs.Memory.{NodeState}
use Rattle.oak_port.specs.Ports.{IsWait}
use Rattle.oak_port.specs.declared.task.StepOut.{StepOut}
use Rattle.oak_port.specs.declared.task.StepOut.TheVariants as answers
use Rattle.oak_port.specs.declared.task.TaskEnd.TheVariants as ends
use Rattle.oak_prev.specs.Splitting as splitting
use Rattle.oak_prev.specs.declared.splitter.Splitter.{Splitter}
use Rattle.oak_prev.specs.declared.splitter.Step.{Step as SplitStep}
use Rattle.oak_prev.specs.declared.splitter.Step.TheVariants as split_step
use Rattle.oak_read.specs.Reading.{IsTable}
use Rattle.oak_store.specs.Tables.{Table, next_number}
use Rattle.core_clash.specs.Core.{root_of}
use Rattle.core_tidy.specs.Steps.{tidied_in}
use Rattle.core_world.specs.States.{State, base_in, history_in, listed_at, memory_of, node_of, nodes_in}
use Rattle.core_world.specs.Steps.{after_mark, after_update, after_write, marked_by, with_result}
use Rattle.oak_saves.proofs.Stages.{finish_stage}
use Rattle.oak_step.specs.Parts.{EndsSo, changes_on, read_on, swept_on}
use Rattle.oak_saves.specs.Saves.{committed, fed_previous, mark_made}
use Rattle.oak_node.specs.declared.pending.Pending.{Pending}
use Rattle.oak_sweep.specs.Sweeping as sweeping
use Rattle.oak_sweep.specs.declared.stage.Stage.{Stage as Swept}
use Rattle.oak_sweep.specs.declared.stage.Stage.TheVariants as swept
use Rattle.oak_sweep.specs.declared.sweeper.Sweeper.{Sweeper}
use Rattle.oak_sync.specs.Learning as learning
use Rattle.oak_sync.specs.declared.back_read.BackRead.{BackRead}
use Rattle.oak_sync.specs.declared.back_write.BackWrite.{BackWrite}
use Rattle.oak_sync.specs.declared.stage.Stage.{Stage}
use Rattle.oak_sync.specs.declared.stage.Stage.TheVariants as syncing
use Rattle.oak_step.specs.declared.upkeep.Upkeep.{Upkeep}
use Rattle.oak_step.specs.declared.upkeep.Upkeep.TheVariants as upkeep
use Rattle.oak_step.specs.declared.work.Work.{Work}
use Rattle.oak_step.specs.declared.work.Work.TheVariants as work
use Rattle.oak_tidy.specs.Left.{collect_left, split_left, tidying_left}
use Rattle.oak_tidy.specs.Replies.{all_parts, table_after}
use Rattle.oak_tidy.specs.Tidyings.{CanTidy, tidying_ask}
use Rattle.oak_tidy.specs.declared.tidying.Tidying.{Tidying}
use Rattle.oak_tidy.specs.declared.tidying.Tidying.TheVariants as tidying
use Rattle.oak_tidy.proofs.Lowering.{steps_lower}
use Rattle.oak_world.proofs.Ahead.{begins_ahead, is_within}
use Rattle.oak_world.proofs.Counting.{noted_few, upward_few}
use Rattle.oak_world.proofs.Observing.{changes_lower}
use Rattle.oak_world.proofs.Reading.{read_lowers}
use Rattle.oak_world.proofs.States.{actor_set}
use Rattle.oak_world.specs.Kept.{EndsInRoot, IsWorld, May, MayKeepUp, Scene, scene}
use Rattle.oak_world.specs.Looks.{IsLooking}
use Rattle.oak_world.proofs.Looking.{left_found, left_written, once_alone, once_found, once_written, once_wrote, outcome_found, outcome_written, update_previous, written_found, written_written}
use Rattle.oak_world.specs.Left.{changes_left, commit_left, learn_left, left_in, looked_in, looks_left, marks_left, names_in, reads_left, steps_left, passes_left, updates_left, upkeep_left, writes_left}
use Rattle.oak_world.specs.Steps.{BeginsBackWrite, MakesBackRead, MakesBackWrite, MakesCommit, MakesState, MakesSweep, MakesTidying, MakesUpdate, MakesUpkeep, MayUpdate, PassesTo, StepsIn, work_left}
use Rattle.oak_world.specs.Worlds.{ActorState, IsAtRest, WorldOf, idle, live, look_through, once_looked, running_as, state_of, work_in}
use Rattle.oak_world.proofs.Sweepers.{IsLookingFor, learn_left_one, look_lowers, publish_left, some_passes_left, sweep_told}

-- ---- basics

none_some : {A : Type 0} (o : Option A) (x : A) → o ≡ None → o ≡ Some x → ⊥
none_some o x a b = false≢true (ap is_some (sym a ∙ b))

none_cons : {A : Type 0} (xs : List A) (y : A) (ys : List A) → xs ≡ [] → xs ≡ y ∷ ys → ⊥
none_cons xs y ys a b = let k : [] ≡ y ∷ ys = sym a ∙ b in cc

none_settled : {A : Type 0} (o : Option A) → o ≡ None → is_some o ≡ true → ⊥
none_settled o a h = false≢true (sym (ap is_some a) ∙ h)

one_more : (n : ℕ) → n ≤ suc n
one_more n = omega arith

appended : (ps : List Path) (p : Path) → length (ps ++ p ∷ []) ≤ suc (length ps)
appended ps p = let l : length (ps ++ p ∷ []) ≡ length ps + 1 = length-append ps (p ∷ []) in omega (arith, l)

-- ---- what a session does

-- who has no seat has no task
seatless : (actors : List ActorState) (s : ℕ) → slice_get actors s ≡ None → work_in actors s ≡ work.Rest
seatless actors s none = ap (λ (o : Option ActorState). (unwrap_or o idle).work) none

-- what a session does, where that is set
set_work : (actors xs : List ActorState) (s : ℕ) (a : ActorState) → xs ≡ slice_set actors s a → s < length actors → work_in xs s ≡ a.work
set_work actors xs s a is seat = ap (λ (ys : List ActorState). work_in ys s) is ∙ ap (λ (b : ActorState). b.work) (actor_set actors s a seat)

-- a session without a task takes no step
rests_on : {L : Type 0} (w : WorldOf L) (s : ℕ) (u : WorldOf L) (o : StepOut) → StepsIn w s u o → work_in w.actors s ≡ work.Rest → ⊥
rests_on w s u o m rest = subst (λ (v : Work). MakesState s (state_of w) v (state_of u) m.does o) rest m.makes

-- what a session does after its step
does_now : {L : Type 0} (w : WorldOf L) (s : ℕ) (u : WorldOf L) (o : StepOut) (m : StepsIn w s u o) → work_in u.actors s ≡ m.does
does_now w s u o m = by (slice_get w.actors s) refl
  where
    by : (a : Option ActorState) → slice_get w.actors s ≡ a → work_in u.actors s ≡ m.does
    by None none = absurd (rests_on w s u o m (seatless w.actors s none))
    by (Some a) there = set_work w.actors u.actors s _ m.actors (slice_get_within w.actors s a there)

-- ---- a commit that is settled

-- the session rests, its base is to move, or a document is undone
abbrev GoesDown : Committing → Work → Type 0
GoesDown c x = (x ≡ work.Rest) ⊎ ((x ≡ work.Move c.revision) ⊎ ((x ≡ work.Commit (with_undone c)) × (p : Path) × (rest : List Path) × (c.writer.written ≡ p ∷ rest)))

ends_so : (c : Committing) (x : Work) (o : StepOut) → EndsSo c x o → GoesDown c x
ends_so c x (answers.Went kind.Finish) m = inr (inl m.1)
ends_so c x (answers.Ready (ends.Commit e)) m = inl m.2
ends_so c x _ m = absurd m

settled_step : (s : ℕ) (t u : State) (c : Committing) (e : CommitEnd) (x : Work) (o : StepOut) → c.outcome ≡ Some e → MakesCommit s t c u x o → GoesDown c x
settled_step s t u c e x o is (inl m) = by m.0 m.4
  where
    by : (k : StepKind) → MakesUpdate s t c u m.2 k → GoesDown c x
    by kind.Mark g = absurd (none_some c.outcome e g.2.going is)
    by kind.Write g = absurd (none_some c.outcome e g.2.going is)
    by kind.Read g = absurd (none_some c.outcome e g.1 is)
    by kind.Last g = absurd (none_some c.outcome e g.0.going is)
    by kind.Undo g = inr (inr (m.3 ∙ ap work.Commit g.5, g.0, g.1, g.3))
    by _ g = absurd g
settled_step s t u c e x o is (inr (inl m)) = ends_so c x o m.2
settled_step s t u c e x o is (inr (inr m)) = absurd (none_some c.outcome e m.1 is)

settled_less : (s : ℕ) (t : Table) (m : NodeState) (c : Committing) (e : CommitEnd) (x : Work) → c.outcome ≡ Some e → GoesDown c x → steps_left s t m x < suc (suc (length c.writer.written))
settled_less s t m c e x is (inl k) = let n : steps_left s t m x ≡ 0 = ap (steps_left s t m) k in omega (arith, n)
settled_less s t m c e x is (inr (inl k)) = let n : steps_left s t m x ≡ 1 = ap (steps_left s t m) k in omega (arith, n)
settled_less s t m c e x is (inr (inr k)) =
    let n : steps_left s t m x ≡ suc (suc (length (drop 1 c.writer.written))) = ap (steps_left s t m) k.0 ∙ ap (λ (o : Option CommitEnd). commit_left t (with_undone c) o) is in
    let l : length c.writer.written ≡ suc (length k.2) = ap length k.3 in
    let d : length (drop 1 c.writer.written) ≡ length k.2 = ap (λ (ps : List Path). length (drop 1 ps)) k.3 in
    omega (arith, n, l, d)

-- ---- a commit that is going on

-- a commit has been settled, how it ends
abbrev Turns : Committing → Work → Type 0
Turns c x = (d : Committing) × (e : CommitEnd) × (x ≡ work.Commit d) × (d.outcome ≡ Some e) × (length d.writer.written ≤ suc (length c.writer.written))

turned_less : (s : ℕ) (t : Table) (m : NodeState) (c : Committing) (x : Work) → Turns c x → steps_left s t m x < length c.writer.written + 4
turned_less s t m c x k =
    let n : steps_left s t m x ≡ suc (suc (length k.0.writer.written)) = ap (steps_left s t m) k.2 ∙ ap (λ (o : Option CommitEnd). commit_left t k.0 o) k.3 in
    let few = k.4 in
    omega (arith, n, few)

-- what is said of the parts of a list is said of those of an equal one
of_cons : {A : Type 0} (P : A → List A → Type 0) (x y : A) (xs ys : List A) → x ∷ xs ≡ y ∷ ys → P x xs → P y ys
of_cons {A} P x y xs ys e h = subst (λ (z : A). P z ys) (let k : x ∷ xs ≡ y ∷ ys = e in cc) (subst (λ (zs : List A). P x zs) (let k : x ∷ xs ≡ y ∷ ys = e in cc) h)

module _ (s : ℕ) (t u : State) (c : Committing) (x : Work) (going : c.outcome ≡ None) where
  -- the commit turns to undoing, for want of memory or refused
  turns_wanting : x ≡ work.Commit (wanting c) → Turns c x
  turns_wanting is = (wanting c, end.Memory, is, refl, one_more (length c.writer.written))

  turns_refused : (d : Committing) (item : Item) (o : Revision) → x ≡ work.Commit d → d ≡ refused c item o → Turns c x
  turns_refused d item o is same = (refused c item o, end.Clash item o, is ∙ ap work.Commit same, refl, one_more (length c.writer.written))

  turns_committed : (d : Committing) → x ≡ work.Commit d → d ≡ committed c → Turns c x
  turns_committed d is same = (committed c, end.Committed c.revision, is ∙ ap work.Commit same, refl, one_more (length c.writer.written))

  turns_written : (p : Path) (rest : List Path) (d : Committing) → x ≡ work.Commit d → d ≡ wanting (written c p rest (nodes_in t.table p)) → Turns c x
  turns_written p rest d is same = (wanting (written c p rest (nodes_in t.table p)), end.Memory, is ∙ ap work.Commit same, refl, subst (λ (ps : List Path). length ps ≤ suc (length c.writer.written)) (sym (written_written c p rest (nodes_in t.table p))) (appended c.writer.written p))

  turns_found : (k : Look) → c.looking ≡ Some k → IsLooking c k → (d : Committing) → x ≡ work.Commit d → d ≡ wanting (fed_previous t.table c) → Turns c x
  turns_found k looking looks d is same = (wanting (fed_previous t.table c), end.Memory, is ∙ ap work.Commit same, refl, subst (λ (ps : List Path). length ps ≤ suc (length c.writer.written)) (sym (written_found t.table c k looking looks)) (one_more (length c.writer.written)))

  -- a commit that is going on doesn't undo, and it doesn't end
  undoes_not : undoes c.outcome ≡ true → ⊥
  undoes_not h = false≢true (sym (ap undoes going) ∙ h)

  finishes_not : stage_of c ≡ stage.Finish → ⊥
  finishes_not h = none_settled c.outcome going (finish_stage c h).settled

  -- a previous document is to be looked at
  module _ (k : Look) (looking : c.looking ≡ Some k) (looks : IsLooking c k) where
    unlooked : {A : Type 0} → MayUpdate c → A
    unlooked may = absurd (none_some c.looking k may.looked looking)

    looks_next : (o : StepOut) → MakesCommit s t c u x o → ((u ≡ t) × (x ≡ work.Commit (fed_previous t.table c))) ⊎ Turns c x
    looks_next o (inl m) = by m.0 m.4
      where
        by : (y : StepKind) → MakesUpdate s t c u m.2 y → ((u ≡ t) × (x ≡ work.Commit (fed_previous t.table c))) ⊎ Turns c x
        by kind.Mark g = unlooked g.2
        by kind.Write g = unlooked g.2
        by kind.Read g = elim g.3 [ inl e ↦ inl (e.0, m.3 ∙ ap work.Commit e.1) | inr e ↦ inr (turns_found k looking looks m.2 m.3 e.1) ]
        by kind.Last g = unlooked g.0
        by kind.Undo g = absurd (undoes_not g.2)
        by _ g = absurd g
    looks_next o (inr (inl m)) = absurd (finishes_not m.0)
    looks_next o (inr (inr m)) = inr (turns_wanting m.3)

  module _ (looked : c.looking ≡ None) where
    -- the next mark is due
    marks_next : (o : StepOut) (f : Met) (rest : List Met) → c.writer.due ≡ f ∷ rest → MakesCommit s t c u x o → ((u ≡ after_mark t s (running_as s c) f rest) × (x ≡ work.Commit (mark_made c rest))) ⊎ Turns c x
    marks_next o f rest due (inl m) = by m.0 m.4
      where
        Next : Met → List Met → Type 0
        Next f rest = ((u ≡ after_mark t s (running_as s c) f rest) × (x ≡ work.Commit (mark_made c rest))) ⊎ Turns c x

        by : (k : StepKind) → MakesUpdate s t c u m.2 k → Next f rest
        by kind.Mark g = of_cons Next g.0 f g.1 rest (sym g.3 ∙ due)
            (elim g.5 [ inl k ↦ inl (g.4, m.3 ∙ ap work.Commit k.1) | inr k ↦ inr (turns_refused m.2 g.0.mine g.0.other m.3 k.1) ])
        by kind.Write g = absurd (none_cons c.writer.due f rest g.3 due)
        by kind.Read g = absurd (none_some c.looking g.0 looked g.2)
        by kind.Last g = absurd (none_cons c.writer.due f rest g.1 due)
        by kind.Undo g = absurd (undoes_not g.2)
        by _ g = absurd g
    marks_next o f rest due (inr (inl m)) = absurd (finishes_not m.0)
    marks_next o f rest due (inr (inr m)) = inr (turns_wanting m.3)

    -- the next document is due
    writes_next : (o : StepOut) (p : Path) (rest : List Path) → c.writer.due ≡ [] → c.writer.left ≡ p ∷ rest → MakesCommit s t c u x o → ((u ≡ after_write t s (running_as s c) p rest) × (x ≡ work.Commit (written c p rest (nodes_in t.table p)))) ⊎ Turns c x
    writes_next o p rest due left (inl m) = by m.0 m.4
      where
        Next : Path → List Path → Type 0
        Next p rest = ((u ≡ after_write t s (running_as s c) p rest) × (x ≡ work.Commit (written c p rest (nodes_in t.table p)))) ⊎ Turns c x

        by : (k : StepKind) → MakesUpdate s t c u m.2 k → Next p rest
        by kind.Mark g = absurd (none_cons c.writer.due g.0 g.1 due g.3)
        by kind.Write g = of_cons Next g.0 p g.1 rest (sym g.4 ∙ left)
            (elim g.5 [ inl k ↦ inl (k.0, m.3 ∙ ap work.Commit k.1) | inr k ↦ inr (turns_written g.0 g.1 m.2 m.3 k.1) ])
        by kind.Read g = absurd (none_some c.looking g.0 looked g.2)
        by kind.Last g = absurd (none_cons c.writer.left p rest g.2 left)
        by kind.Undo g = absurd (undoes_not g.2)
        by _ g = absurd g
    writes_next o p rest due left (inr (inl m)) = absurd (finishes_not m.0)
    writes_next o p rest due left (inr (inr m)) = inr (turns_wanting m.3)

    -- the last write is due
    lasts_next : (o : StepOut) → c.writer.due ≡ [] → c.writer.left ≡ [] → MakesCommit s t c u x o → Turns c x
    lasts_next o due left (inl m) = by m.0 m.4
      where
        by : (k : StepKind) → MakesUpdate s t c u m.2 k → Turns c x
        by kind.Mark g = absurd (none_cons c.writer.due g.0 g.1 due g.3)
        by kind.Write g = absurd (none_cons c.writer.left g.0 g.1 left g.4)
        by kind.Read g = absurd (none_some c.looking g.0 looked g.2)
        by kind.Last g = elim g.4 [ inl k ↦ turns_committed m.2 m.3 k.1 | inr k ↦ turns_refused m.2 k.0 k.1 m.3 k.3 ]
        by kind.Undo g = absurd (undoes_not g.2)
        by _ g = absurd g
    lasts_next o due left (inr (inl m)) = absurd (finishes_not m.0)
    lasts_next o due left (inr (inr m)) = turns_wanting m.3

-- ---- the number of a commit that is going on

-- the documents behind a mark
marked_table : (s : ℕ) (w : State) (c : Committing) (f : Met) (rest : List Met) → (after_mark w s (running_as s c) f rest).table ≡ after_update w.table (mark_op (root_of w.past f.other) f.other c.revision f.theirs)
marked_table s w c f rest = by (updated (nodes_in w.table (root_of w.past f.other)) (mark_op (root_of w.past f.other) f.other c.revision f.theirs) (next_number w.table))
  where
    by : (r : Result Document OpFault) → (marked_by w s (running_as s c) f rest r).table ≡ with_result w.table (id.Node (root_of w.past f.other)) r
    by (Ok d) = refl
    by (Err fault) = refl

abbrev GoingLeft : Table → Committing → List Met → List Path → List Path → ℕ
GoingLeft t c fs roots ps =
    marks_left c.revision (writes_left c.revision c.base c.edit.writes c.marks ps) fs roots t
    + length c.writer.written + length ps + 4

nothing_more : (n : ℕ) → 0 + n ≡ n
nothing_more n = omega arith

going_left : (s : ℕ) (t : Table) (m : NodeState) (c : Committing) (fs : List Met) (ps : List Path) → c.outcome ≡ None → c.looking ≡ None → c.writer.due ≡ fs → c.writer.left ≡ ps → steps_left s t m (work.Commit c) ≡ GoingLeft t c fs c.roots ps
going_left s t m c fs ps going looked due left =
    ap (λ (o : Option CommitEnd). commit_left t c o) going
    ∙ (ap (λ (k : Option Look). looks_left k + updates_left t (look_through t c k)) looked
    ∙ (nothing_more (updates_left t c)
    ∙ (ap (λ (xs : List Met). GoingLeft t c xs c.roots c.writer.left) due
    ∙ ap (λ (xs : List Path). GoingLeft t c fs c.roots xs) left)))

fewer_marks : (n a b now was : ℕ) → now ≡ n + a + b + 4 → was ≡ suc n + a + b + 4 → now < was
fewer_marks n a b now was h k = omega (arith, h, k)

fewer_writes : (looks n a b c d now was : ℕ) → now ≡ looks + (n + c + b + 4) → was ≡ suc (looks + n) + a + d + 4 → c ≡ a + 1 → d ≡ suc b → now < was
fewer_writes looks n a b c d now was h k l e = omega (arith, h, k, l, e)

fewer_looks : (n looks more now was : ℕ) → now ≡ looks + n → was ≡ more + n → suc looks ≡ more → now < was
fewer_looks n looks more now was h k l = omega (arith, h, k, l)

turns_looking : (looks n a b c now was : ℕ) → now < a + 4 → was ≡ looks + (n + c + b + 4) → c ≡ a → now < was
turns_looking looks n a b c now was h k l = omega (arith, h, k, l)

turns_less : (n a b now was : ℕ) → now < a + 4 → was ≡ n + a + b + 4 → now < was
turns_less n a b now was h k = omega (arith, h, k)

at_most_one : (a b : ℕ) → a ≡ b → a < suc b
at_most_one a b h = omega (arith, h)

module _ (s : ℕ) (w u : State) (c : Committing) (x : Work) (o : StepOut) (m n : NodeState) (going : c.outcome ≡ None) (makes : MakesCommit s w c u x o) where
  abbrev IsLess : Type 0
  IsLess = steps_left s u.table n x < steps_left s w.table m (work.Commit c)

  -- a previous document is looked at
  module _ (k : Look) (looking : c.looking ≡ Some k) (looks : IsLooking c k) where
    abbrev then : Committing
    then = fed_previous w.table c

    abbrev stands : Committing
    stands = once_looked w.table c

    was : steps_left s w.table m (work.Commit c) ≡ looks_left c.looking + updates_left w.table (once_looked w.table c)
    was = ap (λ (e : Option CommitEnd). commit_left w.table c e) going

    look_less : IsLess
    look_less = by (looks_next s w u c x going k looking looks o makes)
      where
        by : ((u ≡ w) × (x ≡ work.Commit (fed_previous w.table c))) ⊎ Turns c x → IsLess
        by (inl e) =
            let now : steps_left s u.table n x ≡ looks_left then.looking + updates_left w.table stands =
            ap (λ (v : Work). steps_left s u.table n v) e.1
            ∙ (ap (λ (v : State). steps_left s v.table n (work.Commit then)) e.0
            ∙ (ap (λ (f : Option CommitEnd). commit_left w.table then f) (outcome_found w.table c k looking looks ∙ going)
            ∙ ap (λ (d : Committing). looks_left then.looking + updates_left w.table d) (once_found w.table c k looking looks))) in
            fewer_looks (updates_left w.table stands) (looks_left then.looking) (looks_left c.looking) _ _ now was (left_found w.table c k looking looks)
        by (inr e) =
            turns_looking (looks_left c.looking) (marks_left stands.revision (writes_left stands.revision stands.base stands.edit.writes stands.marks stands.writer.left) stands.writer.due stands.roots w.table) (length c.writer.written) (length stands.writer.left) (length stands.writer.written) _ _
            (turned_less s u.table n c x e) was (ap length (once_wrote w.table c))

  module _ (looked : c.looking ≡ None) where
    -- the commit turns to its end
    turned : (fs : List Met) (ps : List Path) → c.writer.due ≡ fs → c.writer.left ≡ ps → Turns c x → IsLess
    turned fs ps due left k =
        turns_less (marks_left c.revision (writes_left c.revision c.base c.edit.writes c.marks ps) fs c.roots w.table) (length c.writer.written) (length ps) _ _
        (turned_less s u.table n c x k) (going_left s w.table m c fs ps going looked due left)

    mark_less : (f : Met) (rest : List Met) → c.writer.due ≡ f ∷ rest → first_path c.roots ≡ root_of w.past f.other → IsLess
    mark_less f rest due root = by (marks_next s w u c x going looked o f rest due makes)
      where
        by : ((u ≡ after_mark w s (running_as s c) f rest) × (x ≡ work.Commit (mark_made c rest))) ⊎ Turns c x → IsLess
        by (inl k) =
            let table : u.table ≡ after_update w.table (mark_op (first_path c.roots) f.other c.revision f.theirs) =
            ap (λ (v : State). v.table) k.0 ∙ (marked_table s w c f rest ∙ ap (λ (p : Path). after_update w.table (mark_op p f.other c.revision f.theirs)) (sym root)) in
            let now : steps_left s u.table n x ≡ GoingLeft (after_update w.table (mark_op (first_path c.roots) f.other c.revision f.theirs)) c rest (drop 1 c.roots) c.writer.left =
            ap (λ (v : Work). steps_left s u.table n v) k.1
            ∙ (going_left s u.table n (mark_made c rest) rest c.writer.left going looked refl refl
            ∙ ap (λ (t : Table). GoingLeft t c rest (drop 1 c.roots) c.writer.left) table) in
            fewer_marks (marks_left c.revision (writes_left c.revision c.base c.edit.writes c.marks c.writer.left) rest (drop 1 c.roots) (after_update w.table (mark_op (first_path c.roots) f.other c.revision f.theirs))) (length c.writer.written) (length c.writer.left) _ _
            now (going_left s w.table m c (f ∷ rest) c.writer.left going looked due refl)
        by (inr k) = turned (f ∷ rest) c.writer.left due refl k

    module _ (p : Path) (rest : List Path) (due : c.writer.due ≡ []) (left : c.writer.left ≡ p ∷ rest) where
      abbrev behind : Committing
      behind = written c p rest (nodes_in w.table p)

      abbrev documents : Table
      documents = after_update w.table (write_op c.revision c.edit.writes c.marks p)

      abbrev stood : Option Document
      stood = looked_in w.table p

      abbrev met : List Met
      met = found c.base c.revision p c.marks (looked_in w.table p)

      write_less : IsLess
      write_less = by (writes_next s w u c x going looked o p rest due left makes)
        where
          by : ((u ≡ after_write w s (running_as s c) p rest) × (x ≡ work.Commit (written c p rest (nodes_in w.table p)))) ⊎ Turns c x → IsLess
          by (inl k) =
              let now : steps_left s u.table n x ≡ length (listed_at w.table p) + (marks_left c.revision (writes_left c.revision c.base c.edit.writes c.marks rest) met (roots_in stood met) documents + length (c.writer.written ++ p ∷ []) + length rest + 4) =
              ap (λ (v : Work). steps_left s u.table n v) k.1
              ∙ (ap (λ (v : State). steps_left s v.table n (work.Commit behind)) k.0
              ∙ (ap (λ (e : Option CommitEnd). commit_left documents behind e) (outcome_written c p rest (nodes_in w.table p) ∙ going)
              ∙ (ap (λ (i : ℕ). i + updates_left documents (once_looked documents behind)) (left_written c p rest w.table)
              ∙ ap (λ (d : Committing). length (listed_at w.table p) + updates_left documents d) (once_written c p rest w.table documents (update_previous w.table (write_op c.revision c.edit.writes c.marks p) refl))))) in
              fewer_writes (length (listed_at w.table p)) (marks_left c.revision (writes_left c.revision c.base c.edit.writes c.marks rest) met (roots_in stood met) documents) (length c.writer.written) (length rest) (length (c.writer.written ++ p ∷ [])) (length (p ∷ rest)) _ _
              now (going_left s w.table m c [] (p ∷ rest) going looked due left) (length-append c.writer.written (p ∷ [])) refl
          by (inr k) = turned [] (p ∷ rest) due left k

    last_less : c.writer.due ≡ [] → c.writer.left ≡ [] → IsLess
    last_less due left = turned [] [] due left (lasts_next s w u c x going looked o due left makes)

-- the marks that are due, or are to come, go to the commit roots that are kept; and what a look
-- asks for are previous documents of one node
abbrev HasRoots : Table → Past → Committing → Type 0
HasRoots t past c = ((once_looked t c).roots ≡ map (λ f. root_of past f.other) (once_looked t c).writer.due) × ((k : Look) → c.looking ≡ Some k → IsLooking c k)

commit_less : (s : ℕ) (w u : State) (c : Committing) (x : Work) (o : StepOut) (m n : NodeState) → HasRoots w.table w.past c → MakesCommit s w c u x o → steps_left s u.table n x < steps_left s w.table m (work.Commit c)
commit_less s w u c x o m n roots makes = by c.outcome refl
  where
    by : (e : Option CommitEnd) → c.outcome ≡ e → steps_left s u.table n x < steps_left s w.table m (work.Commit c)
    by (Some e) is =
        subst (λ (k : ℕ). steps_left s u.table n x < k) (sym (ap (λ (o : Option CommitEnd). commit_left w.table c o) is)) (settled_less s u.table n c e x is (settled_step s w u c e x o is makes))
    by None going = at c.looking refl
      where
        on : c.looking ≡ None → (fs : List Met) (ps : List Path) → c.writer.due ≡ fs → c.writer.left ≡ ps → steps_left s u.table n x < steps_left s w.table m (work.Commit c)
        on looked (f ∷ fs) ps due left =
            let kept : c.roots ≡ map (λ f. root_of w.past f.other) c.writer.due = subst (λ (d : Committing). d.roots ≡ map (λ f. root_of w.past f.other) d.writer.due) (once_alone w.table c looked) roots.0 in
            mark_less s w u c x o m n going makes looked f fs due (ap first_path kept ∙ ap (λ (xs : List Met). first_path (map (λ f. root_of w.past f.other) xs)) due)
        on looked [] (p ∷ ps) due left = write_less s w u c x o m n going makes looked p ps due left
        on looked [] [] due left = last_less s w u c x o m n going makes looked due left

        at : (l : Option Look) → c.looking ≡ l → steps_left s u.table n x < steps_left s w.table m (work.Commit c)
        at None looked = on looked c.writer.due c.writer.left refl refl
        at (Some k) looking = look_less s w u c x o m n going makes k looking (roots.1 k looking)

-- a background write has still to tell the root
abbrev IsGoing : Upkeep → Type 0
IsGoing (upkeep.Publish b) = EndsInRoot b
IsGoing _ = Unit {0}

-- the commit roots that a session keeps are those of whom it is to mark, its background write has
-- still to tell the root, and its split or collection can go on
abbrev Rooted : Table → History → Work → Type 0
Rooted t h (work.Commit c) = HasRoots t h.past c
Rooted t h (work.Upkeep u) = IsGoing u
Rooted t h (work.Tidy x) = CanTidy h.clusters x
Rooted t h _ = Unit {0}

-- what a session may do keeps its roots
rooted : (starts : Starts) (y : Scene) (s : ℕ) (v : Work) → May starts y s v → Rooted y.table y.history v
rooted starts y s (work.Commit c) may = (may.roots, λ k is. (may.looks k is).form)
rooted starts y s work.Rest may = tt
rooted starts y s work.Login may = tt
rooted starts y s work.End may = tt
rooted starts y s work.Refresh may = tt
rooted starts y s (work.Read r) may = tt
rooted starts y s (work.Changes r) may = tt
rooted starts y s (work.Plan edit marks) may = tt
rooted starts y s (work.Upkeep u) may = by u may.1
  where
    by : (u : Upkeep) → MayKeepUp y.history s u → IsGoing u
    by (upkeep.Publish b) m = m.1
    by upkeep.Write m = tt
    by (upkeep.Noted n) m = tt
    by (upkeep.Read b) m = tt
    by upkeep.Sweep m = tt
    by (upkeep.Sweeping x) m = tt
    by (upkeep.Checkpoint i) m = tt
    by (upkeep.Release i) m = tt
    by (upkeep.Attach i) m = tt
    by upkeep.Detach m = tt
    by (upkeep.Detaching pin) m = tt
    by upkeep.Observe m = tt
rooted starts y s (work.Move r) may = tt
rooted starts y s (work.Tidy x) may = may.1
rooted starts y s (work.Told e) may = tt

-- ---- background work

module _ (s : ℕ) (w u : State) (m n : NodeState) (x : Work) where
  abbrev now : ℕ
  now = steps_left s u.table n x

  rest_less : (k : ℕ) → x ≡ work.Rest → now < suc k
  rest_less k is = let z : now ≡ 0 = ap (steps_left s u.table n) is in omega (arith, z)

  out_less : (b : BackWrite) → EndsInRoot b → x ≡ work.Rest → now < length b.paths - b.written
  out_less b ahead is =
      let z : now ≡ 0 = ap (steps_left s u.table n) is in
      let less = is_within b ahead in
      omega (arith, z, less)

  some_less : (at : Stage) → x ≡ work.Rest → now < learn_left at
  some_less syncing.Write is = rest_less 0 is
  some_less syncing.Publish is = rest_less 0 is
  some_less syncing.Read is = rest_less 1 is
  some_less syncing.Learn is = rest_less 0 is
  some_less syncing.Done is = rest_less 0 is

  publish_less : (b : BackWrite) → EndsInRoot b → (o : StepOut) → MakesBackWrite s w b u x o → now < length b.paths - b.written
  publish_less b ahead (answers.Went kind.Back) h =
      let z : now ≡ length b.paths - cond (nat_lt b.written (length b.paths)) (b.written + 1) b.written = ap (steps_left s u.table n) h.4 in
      let less = is_within b ahead in
      let next : cond (nat_lt b.written (length b.paths)) (b.written + 1) b.written ≡ b.written + 1 = ap (λ c. cond c (b.written + 1) b.written) (lt-ltb b.written (length b.paths) less) in
      omega (arith, z, less, next)
  publish_less b ahead (answers.Ready (ends.Published o)) h = out_less b ahead h.3
  publish_less b ahead answers.Memory h = out_less b ahead h.1
  publish_less b ahead _ h = absurd h

  begin_less : (p : Pending) (o : StepOut) → BeginsBackWrite s w p u x o → now < suc (names_in p.paths)
  begin_less p o (inl h) = rest_less (names_in p.paths) h.2
  begin_less p o (inr h) =
      let none : (h.1).written ≡ 0 = ap (λ (c : BackWrite). c.written) (h.2).state in
      let few = upward_few p.paths (h.1).paths (h.2).paths in
      let less = publish_less h.1 (begins_ahead h.0 p h.1 h.2) o h.3 in
      omega (arith, none, few, less)

  learn_less : (b : BackRead) (o : StepOut) → MakesBackRead s w b u x o → now < learn_left (learning.stage_of b)
  learn_less b (answers.Went kind.Back) h =
      subst (λ (at : Stage). now < learn_left at) (sym h.0)
      (let z : now ≡ 1 = ap (steps_left s u.table n) h.2 ∙ one (nodes_in w.table []) in let less : now < 2 = omega (arith, z) in less)
    where
      one : (o : Option Document) → learn_left (learning.stage_of (learning.with_root b o)) ≡ 1
      one None = refl
      one (Some d) = refl
  learn_less b (answers.Ready (ends.Learnt v)) h = some_less (learning.stage_of b) h.3
  learn_less b answers.Memory h = some_less (learning.stage_of b) h.1
  learn_less b _ h = absurd h

  sweep_less : IsTable w.table.documents → (y : Sweeper) (o : StepOut) → MakesSweep s w y u x o → now < passes_left w.table y
  sweep_less table y (answers.Went kind.Sweep) h = by (sweeping.stage_of y) refl h.0
    where
      next : now ≡ passes_left u.table (swept_on w.table y)
      next = ap (steps_left s u.table n) h.1

      -- a document is looked for
      looked : IsLookingFor (sweeping.stage_of y) → u.table ≡ w.table → now < passes_left w.table y
      looked looks same =
          let z : now ≡ passes_left w.table (swept_on w.table y) = next ∙ ap (λ (t : Table). passes_left t (swept_on w.table y)) same in
          let lower = look_lowers w.table table y looks in
          omega (arith, z, lower)

      -- the root is told
      told : sweeping.stage_of y ≡ swept.Publish → now < passes_left w.table y
      told at =
          let z : now ≡ 1 = next ∙ learn_left_one u.table (swept_on w.table y) (sweep_told w.table y at).0 in
          let was = publish_left w.table y at in
          omega (arith, z, was)

      by : (z : Swept) → sweeping.stage_of y ≡ z → PassesTo s w y z u → now < passes_left w.table y
      by swept.Root at to = looked (subst IsLookingFor (sym at) tt) (ap (λ (v : State). v.table) to)
      by swept.Document at to = looked (subst IsLookingFor (sym at) tt) (ap (λ (v : State). v.table) to)
      by swept.Publish at to = told at
      by swept.Learn at to = absurd to
      by swept.Done at to = absurd to
  sweep_less table y (answers.Ready (ends.Swept r)) h = let z : now ≡ 0 = ap (steps_left s u.table n) h.3 in let some = some_passes_left w.table y in omega (arith, z, some)
  sweep_less table y answers.Memory h = let z : now ≡ 0 = ap (steps_left s u.table n) h.1 in let some = some_passes_left w.table y in omega (arith, z, some)
  sweep_less table y _ h = absurd h

  upkeep_less : IsTable w.table.documents → (k : Upkeep) → IsGoing k → (o : StepOut) → MakesUpkeep s w k u x o → now < upkeep_left w.table (memory_of w s) k
  upkeep_less table upkeep.Write going (answers.Went kind.Back) h =
      let z : now ≡ suc (names_in (h.0).paths) = ap (steps_left s u.table n) h.3 in
      let few = noted_few (memory_of w s) h.0 h.1 in
      omega (arith, z, few)
  upkeep_less table upkeep.Write going answers.Memory h = rest_less _ h.1
  upkeep_less table upkeep.Write going _ h = absurd h
  upkeep_less table (upkeep.Noted p) going o h = begin_less p o h
  upkeep_less table (upkeep.Publish b) going o h = publish_less b going o h
  upkeep_less table (upkeep.Read b) going o h = learn_less b o h
  upkeep_less table upkeep.Sweep going o h = sweep_less table (sweeping.begun h.0 (node_of w s)) o h.1
  upkeep_less table (upkeep.Sweeping y) going o h = sweep_less table y o h
  upkeep_less table (upkeep.Checkpoint i) going (answers.Ready (ends.Set None)) h = rest_less 0 h.3
  upkeep_less table (upkeep.Checkpoint i) going answers.Memory h = rest_less 0 h.1
  upkeep_less table (upkeep.Checkpoint i) going _ h = absurd h
  upkeep_less table (upkeep.Release i) going (answers.Ready (ends.Set None)) h = rest_less 0 h.2
  upkeep_less table (upkeep.Release i) going (answers.Ready ends.NoCheckpoint) h = rest_less 0 h.2
  upkeep_less table (upkeep.Release i) going answers.Memory h = rest_less 0 h.1
  upkeep_less table (upkeep.Release i) going _ h = absurd h
  upkeep_less table (upkeep.Attach i) going (answers.Ready (ends.Set (Some pin))) h = rest_less 0 h.2
  upkeep_less table (upkeep.Attach i) going (answers.Ready ends.NoCheckpoint) h = rest_less 0 h.2
  upkeep_less table (upkeep.Attach i) going answers.Memory h = rest_less 0 h.1
  upkeep_less table (upkeep.Attach i) going _ h = absurd h
  upkeep_less table upkeep.Detach going (answers.Went kind.Pin) h = let z : now ≡ 1 = ap (steps_left s u.table n) h.1 in omega (arith, z)
  upkeep_less table upkeep.Detach going answers.Memory h = rest_less 1 h.1
  upkeep_less table upkeep.Detach going _ h = absurd h
  upkeep_less table (upkeep.Detaching pin) going (answers.Ready (ends.Pinned o)) h = rest_less 0 h.2
  upkeep_less table (upkeep.Detaching pin) going answers.Memory h = rest_less 0 h.1
  upkeep_less table (upkeep.Detaching pin) going _ h = absurd h
  upkeep_less table upkeep.Observe going (answers.Ready (ends.Pinned pin)) h = rest_less 0 h.2
  upkeep_less table upkeep.Observe going answers.Memory h = rest_less 0 h.1
  upkeep_less table upkeep.Observe going _ h = absurd h

  -- ---- a split or a collection

  module _ (y : Tidying) (table : IsTable w.table.documents) (can : CanTidy w.clusters y) where
    lower : tidying_left (table_after w.table (tidying_ask y)) (tidied_in w y) < tidying_left w.table y
    lower = steps_lower (all_parts w.table w.memories []) w.clusters y table can

    -- it is over
    ended_less : now ≡ 0 → now < tidying_left w.table y
    ended_less z = let l = lower in omega (arith, z, l)

    -- it goes on
    goes_less : now ≡ tidying_left (table_after w.table (tidying_ask y)) (tidied_in w y) → now < tidying_left w.table y
    goes_less z = subst (λ (k : ℕ). k < tidying_left w.table y) (sym z) lower

    tidy_less : (o : StepOut) → MakesTidying s w y u x o → now < tidying_left w.table y
    tidy_less answers.Memory h = ended_less (ap (steps_left s u.table n) h.1)
    tidy_less (answers.Went k) h = goes_less (ap (steps_left s u.table n) (h.2 ∙ ap work_left h.3.1) ∙ ap (λ (v : State). tidying_left v.table (tidied_in w y)) h.0)
    tidy_less (answers.Ready e) h = ended_less (ap (steps_left s u.table n) (h.2 ∙ ap work_left h.3.2))
    tidy_less _ h = absurd h.3

  -- ---- all

  less : IsTable w.table.documents → (v : Work) (o : StepOut) → Rooted w.table (history_in w) v → MakesState s w v u x o → IsWait o ⊎ (now < steps_left s w.table (memory_of w s) v)
  less table work.Login (answers.Ready (ends.Pinned pin)) roots h = inr (rest_less 0 h.1)
  less table work.Login answers.Memory roots h = inr (rest_less 0 h.1)
  less table work.Login _ roots h = absurd h
  less table work.End (answers.Ready ends.Ended) roots h = inr (rest_less 0 h.1)
  less table work.End answers.Memory roots h = inr (rest_less 0 h.1)
  less table work.End _ roots h = absurd h
  less table work.Refresh (answers.Ready (ends.Pinned pin)) roots h = inr (rest_less 0 h.1)
  less table work.Refresh answers.Memory roots h = inr (rest_less 0 h.1)
  less table work.Refresh _ roots h = absurd h
  less table (work.Read r) (answers.Went kind.Read) roots h =
      let lower = read_lowers w.table table r h.2 in
      let z : now ≡ suc (reads_left w.table (read_on w.table r)) =
      ap (λ (v : Work). steps_left s u.table n v) h.1 ∙ ap (λ (y : State). suc (reads_left y.table (read_on w.table r))) h.0 in
      inr (omega (arith, z, lower))
  less table (work.Read r) (answers.Ready e) roots h = inr (rest_less _ h.1)
  less table (work.Read r) answers.Memory roots h = inr (rest_less _ h.1)
  less table (work.Read r) _ roots h = absurd h
  less table (work.Changes r) (answers.Went kind.Read) roots h =
      let lower = changes_lower w.table table r h.2 in
      let z : now ≡ suc (changes_left w.table (changes_on w.table r)) =
      ap (λ (v : Work). steps_left s u.table n v) h.1 ∙ ap (λ (y : State). suc (changes_left y.table (changes_on w.table r))) h.0 in
      inr (omega (arith, z, lower))
  less table (work.Changes r) (answers.Ready (ends.Changes commits)) roots h = inr (rest_less _ h.1)
  less table (work.Changes r) answers.Memory roots h = inr (rest_less _ h.1)
  less table (work.Changes r) _ roots h = absurd h
  less table (work.Plan edit marks) (answers.Went kind.Draw) roots h =
      let d : Committing = begun (next_draw (memory_of w s)) (base_in w s) edit marks in
      let z : now ≡ commit_left w.table d None = ap (λ (v : Work). steps_left s u.table n v) h.1 ∙ ap (λ (y : State). commit_left y.table d None) h.0 in
      inr (at_most_one now (commit_left w.table d None) z)
  less table (work.Plan edit marks) answers.Memory roots h = inr (rest_less _ h.1)
  less table (work.Plan edit marks) _ roots h = absurd h
  less table (work.Commit c) o roots h = inr (commit_less s w u c x o (memory_of w s) n roots h)
  less table (work.Move r) (answers.Wait o) roots h = inl tt
  less table (work.Move r) (answers.Ready (ends.Commit (end.Committed o))) roots h = inr (rest_less 0 h.1)
  less table (work.Move r) _ roots h = absurd h
  less table (work.Upkeep k) o going h = inr (upkeep_less table k going o h)
  less table (work.Tidy y) o can h = inr (tidy_less y table can o h)
  less table (work.Told e) o roots h = absurd h
  less table work.Rest o roots h = absurd h

-- a step lowers the number, or it waits
pub lowers : {L : Type 0} (starts : Starts) (says : Says) (w u : WorldOf L) (s : ℕ) (o : StepOut) → IsWorld starts says w → StepsIn w s u o → IsWait o ⊎ (left_in u s < left_in w s)
lowers {L} starts says w u s o is m =
    subst (λ (v : Work). IsWait o ⊎ (steps_left s u.table (memory_of (state_of u) s) v < left_in w s)) (sym (does_now w s u o m))
    (less s (state_of w) (state_of u) (memory_of (state_of w) s) (memory_of (state_of u) s) m.does is.table (work_in w.actors s) o (rooted starts (scene w.table is.formers (live w.history)) s (work_in w.actors s) (is.may s)) m.makes)

-- of a split or a collection for which something is due some step is left
split_some : (t : Table) (x : Splitter) (st : SplitStep) → splitting.due (record x { step = st }) ≢ ask.Done → split_left t.documents (record x { step = st }) ≡ 0 → ⊥
split_some t x split_step.Read busy h = omega (arith, h)
split_some t x split_step.Root busy h = omega (arith, h)
split_some t x (split_step.Previous e n) busy h = omega (arith, h)
split_some t x (split_step.Main e n) busy h = omega (arith, h)
split_some t x (split_step.Find k o) busy h = omega (arith, h)
split_some t x (split_step.Remove k found o) busy h = omega (arith, h)
split_some t x (split_step.Done o) busy h = busy refl

collect_some : (t : Table) (x : Collector) (st : CollectStep) → collecting.due (record x { step = st }) ≢ ask.Done → collect_left t.documents (record x { step = st }) ≡ 0 → ⊥
collect_some t x collect_step.Root busy h = omega (arith, h)
collect_some t x (collect_step.Node k) busy h = omega (arith, h)
collect_some t x collect_step.Settings busy h = omega (arith, h)
collect_some t x collect_step.First busy h = omega (arith, h)
collect_some t x collect_step.Next busy h = omega (arith, h)
collect_some t x (collect_step.Listed n) busy h = omega (arith, h)
collect_some t x collect_step.Prune busy h = omega (arith, h)
collect_some t x collect_step.Remove busy h = omega (arith, h)
collect_some t x (collect_step.RemovePrevious n read) busy h = omega (arith, h)
collect_some t x collect_step.Done busy h = busy refl

tidying_some : (t : Table) (x : Tidying) → tidying_ask x ≢ ask.Done → tidying_left t x ≡ 0 → ⊥
tidying_some t (tidying.Split x) busy h = split_some t x x.step busy h
tidying_some t (tidying.Collect x) busy h = collect_some t x x.step busy h

-- nothing is left only where nothing is to be done but to tell how a task ended
pub over : (starts : Starts) (y : Scene) (s : ℕ) (m : NodeState) (v : Work) → May starts y s v → steps_left s y.table m v ≡ 0 → IsAtRest v
over starts y s m work.Rest may h = tt
over starts y s m (work.Told e) may h = tt
over starts y s m (work.Tidy x) may h = absurd (tidying_some y.table x may.1.busy h)
over starts y s m work.Login may h = absurd (omega (arith, h))
over starts y s m work.End may h = absurd (omega (arith, h))
over starts y s m work.Refresh may h = absurd (omega (arith, h))
over starts y s m (work.Read r) may h = absurd (omega (arith, h))
over starts y s m (work.Changes r) may h = absurd (omega (arith, h))
over starts y s m (work.Plan edit marks) may h = absurd (omega (arith, h))
over starts y s m (work.Commit c) may h = absurd (by c.outcome h)
  where
    by : (o : Option CommitEnd) → commit_left y.table c o ≡ 0 → ⊥
    by None h = omega (arith, h)
    by (Some e) h = omega (arith, h)
over starts y s m (work.Move r) may h = absurd (omega (arith, h))
over starts y s m (work.Upkeep u) may h = absurd (by u (rooted starts y s (work.Upkeep u) may) h)
  where
    by : (u : Upkeep) → IsGoing u → upkeep_left y.table m u ≡ 0 → ⊥
    by upkeep.Write g h = omega (arith, h)
    by (upkeep.Noted n) g h = omega (arith, h)
    by (upkeep.Publish b) g h = let less = is_within b g in omega (arith, h, less)
    by (upkeep.Read b) g h = at (learning.stage_of b) h
      where
        at : (p : Stage) → learn_left p ≡ 0 → ⊥
        at syncing.Write h = omega (arith, h)
        at syncing.Publish h = omega (arith, h)
        at syncing.Read h = omega (arith, h)
        at syncing.Learn h = omega (arith, h)
        at syncing.Done h = omega (arith, h)
    by upkeep.Sweep g h = omega (arith, h)
    by (upkeep.Sweeping x) g h = let some = some_passes_left y.table x in omega (arith, h, some)
    by (upkeep.Checkpoint i) g h = omega (arith, h)
    by (upkeep.Release i) g h = omega (arith, h)
    by (upkeep.Attach i) g h = omega (arith, h)
    by upkeep.Detach g h = omega (arith, h)
    by (upkeep.Detaching pin) g h = omega (arith, h)
    by upkeep.Observe g h = omega (arith, h)

-- in worlds with the same documents and memories a session that does one thing has as many steps left
pub same_left : {L : Type 0} (w u : WorldOf L) (s : ℕ) → state_of u ≡ state_of w → work_in u.actors s ≡ work_in w.actors s → left_in u s ≡ left_in w s
same_left w u s state does = ap (λ (x : State). steps_left s x.table (memory_of x s) (work_in u.actors s)) state ∙ ap (λ (v : Work). steps_left s w.table (memory_of (state_of w) s) v) does
