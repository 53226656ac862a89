-- A step of reading what changed leaves its session where it stood, with what was found.
use Rattle.std.proofs.Common.{◌≡◌, ◌<◌, ◌+◌, ◌*◌, ◌++◌, ℕ, Bool, true, false, cond, ◌&&◌, Some, None, Option, List, nat_eq, is_some, refl, sym, ap, ◌∙◌, subst, arith}
use Rattle.std.specs.Prelude.{option_map}
use mathlib.Core.Bool.{false≢true}
use Rattle.jr_rev.specs.declared.vector.RevVec.{RevVec}
use Rattle.jr_tree.specs.declared.shared.CommitChanges.{CommitChanges}
use Rattle.oak_machine.specs.Changed.{changes_between}
use Rattle.oak_machine.specs.declared.event.StepKind.{StepKind}
use Rattle.oak_machine.specs.History.{History}
use Rattle.oak_machine.specs.Laws.{after}
use Rattle.oak_port.specs.Ports.{Makes, Shown, Starting, Steps}
use Rattle.oak_port.specs.declared.task.StepOut.{StepOut}
use Rattle.oak_port.specs.declared.task.StepOut.TheVariants as out
use Rattle.oak_port.specs.declared.task.Task.TheVariants as task
use Rattle.oak_port.specs.declared.task.TaskEnd.TheVariants as end
use Rattle.jcr_law.specs.declared.law.JcrLaw.{JcrLaw}
use Rattle.jcr_law.specs.declared.state.Cursor.{Cursor}
use Rattle.jcr_law.specs.Lasting.{says_of, starts_of}
use Rattle.jcr_law.specs.Starting.{call_has_base}
use Rattle.jcr_law.specs.State.{Call}
use Rattle.jcr_held.specs.Unread.{unread}
use Rattle.jcr_steps.specs.declared.answers.Changed.{Changed}
use Rattle.jcr_steps.specs.declared.answers.Changed.TheVariants as changed
use Rattle.jcr_steps.specs.Answered.{IsChangesAnswer, changed_told}
use Rattle.jcr_run.specs.declared.run.Fetch.{Fetch}
use Rattle.jcr_run.specs.declared.run.Fetch.TheVariants as fetch
use Rattle.jcr_run.specs.declared.run.SessionRun.{SessionRun}
use Rattle.jcr_run.specs.Nearing.{HasNeared, unread_of}
use Rattle.jcr_run.specs.Standing.{AreSince, HasLooked, IsBeside, IsBetweenCommands, IsCalled, IsIn, IsReading, IsRefused, Stands}
use Rattle.jcr_run.specs.Standing.{due_for, is_events, lacks_changes, may_read}
use Rattle.jcr_run.proofs.Lawful.{at_between}
use Rattle.jcr_run.proofs.Loads.{unfetched}
use Rattle.jcr_run.proofs.Looking.{read_looked, read_refused}
use Rattle.jcr_run.proofs.Nearing.{less_unread, same_call, unread_is}
use Rattle.jcr_run.proofs.Nexts.{reads_between, reads_next, unwanted}
use Rattle.jcr_run.proofs.Reading.{makes_it, step_beside, step_called, step_shown}
use Rattle.jcr_run.proofs.Since.{since_beside}
use Rattle.jcr_run.proofs.Starting.{some_is}

-- ---- what an answer tells

abbrev number : Changed → ℕ
number changed.Going = 0
number (changed.Commits commits) = 1
number changed.Refused = 2

apart : {A : Type 0} (x y : Changed) → nat_eq (number x) (number y) ≡ false → x ≡ y → A
apart x y other same = absurd (false≢true (sym other ∙ (ap (λ (d : Changed). nat_eq (number d) (number y)) same ∙ itself y)))
  where
    itself : (z : Changed) → nat_eq (number z) (number z) ≡ true
    itself changed.Going = refl
    itself (changed.Commits commits) = refl
    itself changed.Refused = refl

goes : (a : StepOut) → IsChangesAnswer a → changed_told a ≡ changed.Going → (k : StepKind) × (a ≡ out.Went k)
goes (out.Went k) is h = (k, refl)
goes (out.Ready (end.Changes commits)) is h = apart (changed.Commits commits) changed.Going refl h
goes out.Memory is h = apart changed.Refused changed.Going refl h
goes a is h = absurd is

commits_of : (o d : List CommitChanges) → changed.Commits o ≡ changed.Commits d → o ≡ d
commits_of o d h = ap (λ (x : Changed). elim x [ changed.Commits commits ↦ commits | changed.Going ↦ o | changed.Refused ↦ o ]) h

finds : (a : StepOut) (commits : List CommitChanges) → IsChangesAnswer a → changed_told a ≡ changed.Commits commits → a ≡ out.Ready (end.Changes commits)
finds (out.Went k) commits is h = apart changed.Going (changed.Commits commits) refl h
finds (out.Ready (end.Changes d)) commits is h = ap (λ (o : List CommitChanges). out.Ready (end.Changes o)) (commits_of d commits h)
finds out.Memory commits is h = apart changed.Refused (changed.Commits commits) refl h
finds a commits is h = absurd is

stops : (a : StepOut) → IsChangesAnswer a → changed_told a ≡ changed.Refused → a ≡ out.Memory
stops (out.Went k) is h = apart changed.Going changed.Refused refl h
stops (out.Ready (end.Changes commits)) is h = apart (changed.Commits commits) changed.Refused refl h
stops out.Memory is h = refl
stops a is h = absurd is

-- the cursor that stands at a vector
pub standing : (o : Option Cursor) (v : RevVec) → option_map {T = Cursor} (λ x. x.at) o ≡ Some v → (x : Cursor) × (o ≡ Some x) × (x.at ≡ v)
standing None v h = absurd (false≢true (ap is_some h))
standing (Some x) v h = (x, refl, some_is h)

-- ---- a step

module _ (law : JcrLaw) (old new : Shown) (run : SessionRun) (v : RevVec)
    (stands : Stands law old (record run { fetch = Some (fetch.Changes v) })) (reads : may_read run ≡ true) (none : run.fetch ≡ None)
    (answer : StepOut) (steps : Steps (starts_of law) (says_of law) old new answer) where
  abbrev at : SessionRun
  at = record run { fetch = Some (fetch.Changes v) }

  here : IsIn law old run.attached × IsBetweenCommands law old at
  here = at_between law old at stands (reads_between at reads)

  pub changes_busy : old.work ≡ Starting (task.Changes v)
  changes_busy = here.1.reads

  abbrev By : StepOut → Type 0
  By a = Steps (starts_of law) (says_of law) old new a

  makes : (a : StepOut) → (x : By a) → Makes (after x.others old.history) old.session (Starting (task.Changes v)) a x.own new.work
  makes a x = makes_it law old new (task.Changes v) a stands.nodes changes_busy x

  pub changes_is : IsChangesAnswer answer
  changes_is = by answer (makes answer steps)
    where
      by : (a : StepOut) → Makes (after steps.others old.history) old.session (Starting (task.Changes v)) a steps.own new.work → IsChangesAnswer a
      by (out.Went k) made = tt
      by (out.Ready (end.Changes commits)) made = tt
      by out.Memory made = tt
      by a made = absurd made

  -- ---- what is read is still being read

  pub changes_going : changed_told answer ≡ changed.Going → HasLooked law old new at at
  changes_going h =
      let k = goes answer changes_is h in
      let x : By (out.Went k.0) = subst By k.1 steps in
      let made = makes (out.Went k.0) x in
      let beside = step_beside law old new (task.Changes v) (out.Went k.0) stands.nodes changes_busy x made.1 in
      read_looked law old new at stands reads beside at (record { session = refl; commands = refl; index = refl; phase = refl; attached = refl })
      (λ c holds is. holds) made.2 here.1.for (λ c is since. since_beside law old new beside stands.nodes c is run.changes since) (λ c is wanted. wanted)

  -- ---- it is read

  module _ (commits : List CommitChanges) (h : changed_told answer ≡ changed.Commits commits) where
    abbrev read : SessionRun
    read = record run { changes = Some commits }

    ready : By (out.Ready (end.Changes commits))
    ready = subst By (finds answer commits changes_is h) steps

    made : Makes (after ready.others old.history) old.session (Starting (task.Changes v)) (out.Ready (end.Changes commits)) ready.own new.work
    made = makes (out.Ready (end.Changes commits)) ready

    besides : IsBeside law old new
    besides = step_beside law old new (task.Changes v) (out.Ready (end.Changes commits)) stands.nodes changes_busy ready made.3

    -- all since the cursor
    are_since : (c : Call) → IsCalled law old c → AreSince new.history c (Some commits)
    are_since c is =
        let same : here.1.call ≡ c = same_call law old here.1.call c here.1.is is in
        let x = standing run.held.cursor v here.1.for.1 in
        let called = step_called law old new (task.Changes v) (out.Ready (end.Changes commits)) stands.nodes changes_busy ready made.3 c is in
        let base : made.0 ≡ c.who.base = some_is (sym made.1 ∙ call_has_base law old.history.begin (ready.others ++ old.history.past) old.session c called) in (
          x.0,
          subst (λ (d : Call). d.state.cursor ≡ Some x.0) same (sym here.1.holds.cursor ∙ x.1),
          subst (λ (g : History). commits ≡ changes_between g.begin g.past x.0.at c.who.base)
              (sym (step_shown law old new (task.Changes v) (out.Ready (end.Changes commits)) stands.nodes changes_busy ready made.3))
              (made.2
              ∙ (ap (λ (w : RevVec). changes_between old.history.begin (ready.others ++ old.history.past) w made.0) (sym x.2)
              ∙ ap (λ (w : RevVec). changes_between old.history.begin (ready.others ++ old.history.past) x.0.at w) base)),
        )

    pub changes_found : HasLooked law old new at read
    changes_found =
        read_looked law old new at stands reads besides read (record { session = refl; commands = refl; index = refl; phase = refl; attached = refl })
        (λ c holds is. holds) (subst (λ (o : Option Fetch). IsReading new.work o) (sym none) made.4) (unfetched read none)
        (λ c is since. are_since c is) (λ c is wanted. unwanted c read none)

    -- less is to be known
    pub changes_near : (sooner : Type 0) → HasNeared sooner law old at read
    changes_near sooner c called =
        let m = reads_next run reads in
        less_unread sooner (is_some run.fetch) (unread_of c at) (unread_of c read) (ap (λ (o : Option Fetch). is_some o) none)
        (by (unread_of c at) (unread_of c read) (unread c run.held m.0)
        (unread_is c at m.0 m.1 ∙ ap (λ b. 2 * (unread c run.held m.0 + cond b 1 0) + 0) here.1.for.0)
        (unread_is c read m.0 m.1 ∙ (ap (λ b. 2 * (unread c run.held m.0 + cond b 1 0) + cond (is_some run.fetch) 0 1) lacks_none
        ∙ ap (λ (o : Option Fetch). 2 * (unread c run.held m.0 + 0) + cond (is_some o) 0 1) none)))
      where
        neither : (a b : Bool) → (a && (b && false)) ≡ false
        neither true true = refl
        neither true false = refl
        neither false b = refl

        lacks_none : lacks_changes read ≡ false
        lacks_none = neither (is_events (due_for run)) (is_some run.held.cursor)

        by : (x y u : ℕ) → x ≡ 2 * (u + 1) + 0 → y ≡ 2 * (u + 0) + 1 → y < x
        by x y u p q = omega arith

  -- ---- memory was refused

  module _ (h : changed_told answer ≡ changed.Refused) where
    memory : By out.Memory
    memory = subst By (stops answer changes_is h) steps

    unmade : Makes (after memory.others old.history) old.session (Starting (task.Changes v)) out.Memory memory.own new.work
    unmade = makes out.Memory memory

    still : IsBeside law old new
    still = step_beside law old new (task.Changes v) out.Memory stands.nodes changes_busy memory unmade.0

    idle : IsReading new.work run.fetch
    idle = subst (λ (o : Option Fetch). IsReading new.work o) (sym none) unmade.1

    pub changes_stop : HasLooked law old new at run
    changes_stop = read_looked law old new at stands reads still run (record { session = refl; commands = refl; index = refl; phase = refl; attached = refl })
        (λ c holds is. holds) idle (unfetched run none) (λ c is since. since_beside law old new still stands.nodes c is run.changes since)
        (λ c is wanted. unwanted c run none)

    pub changes_refused : IsRefused new run
    changes_refused = read_refused law old new at stands reads still run (record { session = refl; commands = refl; index = refl; phase = refl; attached = refl })
        (λ c holds is. holds) idle (unfetched run none) (λ c is since. since_beside law old new still stands.nodes c is run.changes since) none
