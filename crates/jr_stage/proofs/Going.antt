-- Steps one after another, and a turn behind them.
use Rattle.std.proofs.Common.{◌≡◌, ◌⊎◌, inl, inr, ℕ, ◌+◌, ◌<◌, ◌≤◌, Bool, true, false, cond, not, ◌&&◌, Some, None, Option, Result, Ok, Err, refl, sym, ap, ◌∙◌, subst, arith}
use Rattle.std.specs.Prelude.{IfOk}
use mathlib.Core.Bool.{false≢true}
use Rattle.jr_rev.specs.declared.revision.Revision.{Revision}
use Rattle.oak_machine.specs.declared.event.StepKind.{StepKind}
use Rattle.jcr_run.specs.declared.turn.Turn.{Turn}
use Rattle.jcr_run.specs.declared.turn.Turn.TheVariants as turn
use Rattle.jr_script.specs.declared.script.Entry.{Entry}
use Rattle.jr_stage.specs.declared.stage.Stage.{Stage}
use Rattle.jr_stage.specs.Nearing.{StepsNearer, left_at, place_at, steps_at, works_at}
use Rattle.jr_stage.specs.Stages.{AreSteps, ComesShort, EndsSteps, HasCome, HasOnlyRead, IsNearerOrCome, IsStage, IsEntryOver, StepsUntil, TurnsTo, comes_to, has_come, no_step, one_step, some_reads}
use Rattle.jr_stage.proofs.Reading.{near_left, place_working, step_nearer}

-- ---- numbers

no_less : (n : ℕ) → n ≤ n
no_less n = omega arith

below : (a b : ℕ) → a < b → a ≤ b
below a b h = omega arith

at_most : (a b : ℕ) → a ≡ b → a ≤ b
at_most a b h = omega arith

no_more : (a b c : ℕ) → a ≤ b → b ≤ c → a ≤ c
no_more a b c h k = omega arith

less_than : (a b c : ℕ) → a < b → b ≤ c → a < c
less_than a b c h k = omega arith

under : (a b c : ℕ) → a ≤ b → b < c → a < c
under a b c h k = omega arith

some_more : (n : ℕ) → 0 < n + 1
some_more n = omega arith

one_more : (a b : ℕ) → a < b → a + 1 < b + 1
one_more a b h = omega arith

-- ---- steps

module _ (s : ℕ) (until : Option Entry) (old : Stage) where
  -- what each step keeps, and reading steps keep, they keep
  pub steps_keep : (P : Stage → Type 0) → P old → ((mid new : Stage) (k : StepKind) → P mid → comes_to mid s until ≡ false → HasCome mid new s (turn.Stepped k) → P new)
      → ((mid new : Stage) → P mid → HasOnlyRead mid new s → P new) → (last : Stage) → AreSteps s until old last → P last
  steps_keep P began kept still _ no_step = began
  steps_keep P began kept still _ (one_step mid new k steps short come) = kept mid new k (steps_keep P began kept still mid steps) short come
  steps_keep P began kept still _ (some_reads mid new steps read) = still mid new (steps_keep P began kept still mid steps) read

-- steps behind steps
pub steps_after : (s : ℕ) (until : Option Entry) (old mid new : Stage) → AreSteps s until old mid → AreSteps s until mid new → AreSteps s until old new
steps_after s until old mid new first steps = steps_keep s until mid (λ x. AreSteps s until old x) first (λ a b k before short come. one_step a b k before short come) (λ a b before read. some_reads a b before read) new steps

-- a turn's step, and the reading steps before it, behind steps
pub step_after : (s : ℕ) (until : Option Entry) (old mid new : Stage) (k : StepKind) → AreSteps s until old mid → ComesShort mid new s until (turn.Stepped k) → AreSteps s until old new
step_after s until old mid new k steps t = one_step t.mid new k (some_reads mid t.mid steps t.reads) t.short t.come

-- ---- a turn behind steps

-- what a step brings nearer is no more than it was
step_less : (old new : Stage) (s : ℕ) → StepsNearer old new s → left_at new s ≤ left_at old s
step_less old new s (inl further) = below (left_at new s) (left_at old s) further.left
step_less old new s (inr sooner) = at_most (left_at new s) (left_at old s) sooner.left

short_nearer : (old new : Stage) (s : ℕ) (until : Option Entry) (k : StepKind) → ComesShort old new s until (turn.Stepped k) → StepsNearer old new s
short_nearer old new s until k t = step_nearer old t.mid new s t.reads.near t.come.nears

-- a turn that is no counted step ends them at once
pub ends_at_once : (X : Type 0) (old new : Stage) (s : ℕ) (until : Option Entry) (answer : Turn) → ((k : StepKind) → answer ≡ turn.Stepped k → ⊥) → TurnsTo old new s until answer → StepsUntil X old new s until answer
ends_at_once X old new s until answer none turned = by answer none turned
  where
    ends : (a : Turn) → ComesShort old new s until a → EndsSteps old new s until a
    ends a t = record { mid = t.mid; steps = some_reads old t.mid no_step t.reads; short = t.short; less = near_left old t.mid s t.reads.near; come = t.come }

    by : (a : Turn) → ((k : StepKind) → a ≡ turn.Stepped k → ⊥) → TurnsTo old new s until a → StepsUntil X old new s until a
    by (turn.Stepped k) none t = absurd (none k refl)
    by (turn.Said i) none t = ends (turn.Said i) t
    by (turn.Waiting q) none t = ends (turn.Waiting q) t
    by turn.Ended none t = ends turn.Ended t
    by turn.Read none t = (some_reads old new no_step t.0, t.1)
    by turn.Memory none t = ends turn.Memory t

-- steps, or what ends them, behind steps
module _ (old mid new : Stage) (s : ℕ) (until : Option Entry) (steps : AreSteps s until old mid) (less : left_at mid s ≤ left_at old s) where
  ends_behind : (answer : Turn) → EndsSteps mid new s until answer → EndsSteps old new s until answer
  ends_behind answer ends = record {
    mid = ends.mid;
    steps = steps_after s until old mid ends.mid steps ends.steps;
    short = ends.short;
    less = no_more (left_at ends.mid s) (left_at mid s) (left_at old s) ends.less less;
    come = ends.come;
  }

  until_behind : {X Y : Type 0} → (X → Y) → (answer : Turn) → StepsUntil X mid new s until answer → StepsUntil Y old new s until answer
  until_behind more (turn.Stepped k) h = (steps_after s until old mid new steps h.0, more h.1)
  until_behind more (turn.Said i) h = ends_behind (turn.Said i) h
  until_behind more (turn.Waiting q) h = ends_behind (turn.Waiting q) h
  until_behind more turn.Ended h = ends_behind turn.Ended h
  until_behind more turn.Read h = (steps_after s until old mid new steps h.0, h.1)
  until_behind more turn.Memory h = ends_behind turn.Memory h

  pub until_all : {X Y : Type 0} → (X → Y) → {E : Type 0} (result : Result Turn E) → IfOk result (StepsUntil X mid new s until) → IfOk result (StepsUntil Y old new s until)
  until_all more (Ok answer) h = until_behind more answer h
  until_all more (Err e) h = tt

-- a step, and what is made of the task behind it, brings the session nearer
module _ (old mid new : Stage) (s : ℕ) (until : Option Entry) (k : StepKind) (come : ComesShort old mid s until (turn.Stepped k)) where
  through_nearer : IsEntryOver mid new s until → IsNearerOrCome old new s until
  through_nearer (most, inl there) = inr there
  through_nearer (most, inr less) = inl (by (short_nearer old mid s until k come))
    where
      by : StepsNearer old mid s → left_at new s < left_at old s
      by (inl further) = under (left_at new s) (left_at mid s) (left_at old s) most further.left
      by (inr sooner) = less_than (left_at new s) (left_at mid s) (left_at old s) (less sooner.now) (at_most (left_at mid s) (left_at old s) sooner.left)

  pub goes_on : {E : Type 0} (result : Result Turn E) → IfOk result (StepsUntil (IsEntryOver mid new s until) mid new s until) → IfOk result (StepsUntil (IsNearerOrCome old new s until) old new s until)
  goes_on result h = until_all old mid new s until (step_after s until old old mid k no_step come) (step_less old mid s (short_nearer old mid s until k come)) through_nearer result h

-- ---- a commit or another task goes on

-- steps of a task were made so far: no more is left, and less where one was under way and is no longer
pub record HasWorkedOn (first stage : Stage) (s : ℕ) (until : Option Entry) : Type 0 where
  pub script : stage.script.value ≡ first.script.value
  pub stage_is : IsStage stage
  pub steps : AreSteps s until first stage
  pub most : left_at stage s ≤ left_at first s
  pub less : works_at stage s ≡ false → works_at first s ≡ true → left_at stage s < left_at first s

pub task_begins : (stage : Stage) (s : ℕ) (until : Option Entry) → IsStage stage → HasWorkedOn stage stage s until
task_begins stage s until is = record {
  script = refl;
  stage_is = is;
  steps = no_step;
  most = no_less (left_at stage s);
  less = λ none commits. absurd (false≢true (sym none ∙ commits));
}

-- a task is under way, and no commit has come to where the entry waits for it
is_apart : (a b : Bool) → (a && not b) ≡ true → (a ≡ true) × (b ≡ false)
is_apart true false h = (refl, refl)
is_apart true true h = absurd (false≢true h)
is_apart false b h = absurd (false≢true h)

pub is_short : (stage : Stage) (s : ℕ) (until : Option Entry) → (works_at stage s && not (comes_to stage s until)) ≡ true → comes_to stage s until ≡ false
is_short stage s until way = (is_apart (works_at stage s) (comes_to stage s until) way).1

module _ (first stage : Stage) (s : ℕ) (until : Option Entry) (has : HasWorkedOn first stage s until) where
  pub task_through : (works_at stage s && not (comes_to stage s until)) ≡ false → AreSteps s until first stage × IsEntryOver first stage s until
  task_through none = (has.steps, (has.most, by (works_at stage s) (comes_to stage s until) refl refl none))
    where
      by : (a b : Bool) → works_at stage s ≡ a → comes_to stage s until ≡ b → (a && not b) ≡ false → (comes_to stage s until ≡ true) ⊎ (works_at first s ≡ true → left_at stage s < left_at first s)
      by true true commits there h = inl there
      by true false commits there h = absurd (false≢true (sym h))
      by false b commits there h = inr (has.less commits)

  module _ (way : (works_at stage s && not (comes_to stage s until)) ≡ true) (new : Stage) where
    commits : works_at stage s ≡ true
    commits = (is_apart (works_at stage s) (comes_to stage s until) way).0

    pub task_steps : (k : StepKind) → ComesShort stage new s until (turn.Stepped k) → HasWorkedOn first new s until
    task_steps k come = record {
      script = come.come.script ∙ (come.reads.script ∙ has.script);
      stage_is = come.come.stage;
      steps = step_after s until first stage new k has.steps come;
      most = no_more (left_at new s) (left_at stage s) (left_at first s) (step_less stage new s (short_nearer stage new s until k come)) has.most;
      less = λ none began. less_than (left_at new s) (left_at stage s) (left_at first s) (by none (short_nearer stage new s until k come)) has.most;
    }
      where
        by : works_at new s ≡ false → StepsNearer stage new s → left_at new s < left_at stage s
        by none (inl further) = further.left
        by none (inr sooner) = absurd (false≢true (sym none ∙ sooner.now))

    -- while it is under way fewer steps are left of it
    pub task_sooner : (k : StepKind) → ComesShort stage new s until (turn.Stepped k) → cond (works_at new s) (steps_at new s + 1) 0 < cond (works_at stage s) (steps_at stage s + 1) 0
    task_sooner k come = subst (λ (b : Bool). cond (works_at new s) (steps_at new s + 1) 0 < cond b (steps_at stage s + 1) 0) (sym commits) (by (works_at new s) refl (short_nearer stage new s until k come))
      where
        as_far : {A : Type 0} (a b : ℕ) → a ≡ 2 → b ≡ 2 → a < b → A
        as_far a b h k less = absurd (omega arith)

        by : (b : Bool) → works_at new s ≡ b → StepsNearer stage new s → cond b (steps_at new s + 1) 0 < steps_at stage s + 1
        by true is (inr sooner) = one_more (steps_at new s) (steps_at stage s) sooner.steps
        by true is (inl further) = as_far (place_at new s) (place_at stage s) (place_working new s is) (place_working stage s commits) further.place
        by false is near = some_more (steps_at stage s)

    -- reading steps that bring the commit to where the entry waits end it
    pub task_come : HasOnlyRead stage new s × (comes_to new s until ≡ true) → AreSteps s until first new × IsEntryOver first new s until
    task_come (read, there) = (
      some_reads stage new has.steps read,
      (no_more (left_at new s) (left_at stage s) (left_at first s) (near_left stage new s read.near) has.most, inl there),
    )

    -- a turn that is no step ends it
    pub task_ends : (X : Type 0) (answer : Turn) → ((k : StepKind) → answer ≡ turn.Stepped k → ⊥) → TurnsTo stage new s until answer → StepsUntil X first new s until answer
    task_ends X answer none turned = until_behind first stage new s until has.steps has.most {X = X} {Y = X} (λ x. x) answer (ends_at_once X stage new s until answer none turned)

-- ---- what turns came to, by the arm that it falls to

pub until_as : (X : Type 0) (old new : Stage) (s : ℕ) (until : Option Entry) (a b : Turn) → a ≡ b → StepsUntil X old new s until a → StepsUntil X old new s until b
until_as X old new s until a b is h = subst (λ (x : Turn). StepsUntil X old new s until x) is h

-- what is left, by a turn that said a reply
pub said_less : (old new : Stage) (s i : ℕ) (until : Option Entry) → EndsSteps old new s until (turn.Said i) → left_at new s < left_at old s
said_less old new s i until ends = less_than (left_at new s) (left_at ends.mid s) (left_at old s) ends.come.nears ends.less

-- where no entry is given none is come to
pub steps_less : (old new : Stage) (s : ℕ) → IsNearerOrCome old new s None → left_at new s < left_at old s
steps_less old new s (inl less) = less
steps_less old new s (inr there) = absurd (false≢true there)

-- where one is given that has not come, what is left is less, or it has come by now
pub go_less : (old new : Stage) (s : ℕ) (e : Entry) → has_come old s e ≡ false → IsNearerOrCome old new s (Some e) → cond (has_come new s e) 0 (left_at new s + 1) < cond (has_come old s e) 0 (left_at old s + 1)
go_less old new s e short near = subst (λ (b : Bool). cond (has_come new s e) 0 (left_at new s + 1) < cond b 0 (left_at old s + 1)) (sym short) (by (has_come new s e) refl near)
  where
    by : (b : Bool) → has_come new s e ≡ b → IsNearerOrCome old new s (Some e) → cond b 0 (left_at new s + 1) < left_at old s + 1
    by true is h = some_more (left_at old s)
    by false is (inl less) = one_more (left_at new s) (left_at old s) less
    by false is (inr there) = absurd (false≢true (sym is ∙ there))

-- what a turn came to, by the arm that it falls to
pub to_as : (old new : Stage) (s : ℕ) (until : Option Entry) (a b : Turn) → a ≡ b → TurnsTo old new s until a → TurnsTo old new s until b
to_as old new s until a b is h = subst (λ (x : Turn). TurnsTo old new s until x) is h

-- turns come to a step, a reading step that brings the commit to where the entry waits, a reply, a wait or the end
pub only_five : (X : Type 0) {A : Type 0} (old new : Stage) (s : ℕ) (until : Option Entry) (answer : Turn) → ((k : StepKind) → answer ≡ turn.Stepped k → ⊥) → (answer ≡ turn.Read → ⊥) → ((i : ℕ) → answer ≡ turn.Said i → ⊥) → ((q : Revision) → answer ≡ turn.Waiting q → ⊥) → (answer ≡ turn.Ended → ⊥) → StepsUntil X old new s until answer → A
only_five X old new s until (turn.Stepped k) none short unsaid awake more h = absurd (none k refl)
only_five X old new s until turn.Read none short unsaid awake more h = absurd (short refl)
only_five X old new s until (turn.Said i) none short unsaid awake more h = absurd (unsaid i refl)
only_five X old new s until (turn.Waiting q) none short unsaid awake more h = absurd (awake q refl)
only_five X old new s until turn.Ended none short unsaid awake more h = absurd (more refl)
only_five X old new s until turn.Memory none short unsaid awake more h = absurd h.come.came

-- where no entry is given no commit comes to where one waits
pub only_four : (X : Type 0) {A : Type 0} (old new : Stage) (s : ℕ) (answer : Turn) → ((k : StepKind) → answer ≡ turn.Stepped k → ⊥) → ((i : ℕ) → answer ≡ turn.Said i → ⊥) → ((q : Revision) → answer ≡ turn.Waiting q → ⊥) → (answer ≡ turn.Ended → ⊥) → StepsUntil X old new s None answer → A
only_four X old new s (turn.Stepped k) none unsaid awake more h = absurd (none k refl)
only_four X old new s turn.Read none unsaid awake more h = absurd (false≢true h.1)
only_four X old new s (turn.Said i) none unsaid awake more h = absurd (unsaid i refl)
only_four X old new s (turn.Waiting q) none unsaid awake more h = absurd (awake q refl)
only_four X old new s turn.Ended none unsaid awake more h = absurd (more refl)
only_four X old new s turn.Memory none unsaid awake more h = absurd h.come.came
