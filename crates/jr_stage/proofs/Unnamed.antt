-- No step of a session that commits appends an event that tells of no session.
use Rattle.std.proofs.Common.{◌≡◌, ℕ, zero, suc, Bool, true, false, ◌||◌, Some, None, Option, List, [], ◌∷◌, ◌++◌, refl, sym, ap, ◌∙◌, subst, arith}
use Rattle.std.specs.Prelude.{◌==◌, slice_get}
use Rattle.std.specs.List.{list_any}
use Rattle.std.proofs.lemmas.Bool.Decides.{nat_tests}
use mathlib.Core.Bool.{false≢true}
use Rattle.oak_machine.specs.declared.event.Event.{Event}
use Rattle.oak_machine.specs.declared.event.Event.TheVariants as event
use Rattle.oak_machine.specs.declared.event.StepKind.{StepKind}
use Rattle.oak_machine.specs.declared.event.StepKind.TheVariants as kind
use Rattle.oak_machine.specs.History.{History}
use Rattle.oak_machine.specs.Sessions.{is_drawing, next_index}
use Rattle.oak_machine.specs.Steps.{is_kind, step_number, kinds_for, where_test}
use Rattle.oak_port.specs.Ports.{Shown}
use Rattle.jcr_law.specs.Makes.{commit_stages}
use Rattle.jcr_law.specs.State.{command_at}
use Rattle.jcr_law.specs.declared.law.JcrLaw.{JcrLaw}
use Rattle.jcr_trans.specs.declared.command.Command.{Command}
use Rattle.jcr_run.specs.declared.run.Phase.{Phase}
use Rattle.jcr_run.specs.declared.run.Phase.TheVariants as phase
use Rattle.jcr_run.specs.declared.run.SessionRun.{SessionRun}
use Rattle.jcr_run.specs.Standing.{IsInTurn, IsOfCommand, Stands, StandsAt, is_committing}
use Rattle.jcr_session.proofs.Drawing.{commit_commits}
use Rattle.jcr_run.proofs.Stages.{commit_steps}
use Rattle.jr_stage.specs.Places.{tells_of_none}
use Rattle.jr_stage.proofs.Due.{at_commit}
use Rattle.jr_stage.proofs.Flying.{none_is_some, some_is_some}
use Rattle.jr_stage.proofs.Saving.{flying_commits}
use Rattle.jr_stage.proofs.Uncommitted.{uncommitted}

-- ---- kinds

-- background work, a sweep, a bound of a collection, and a step on the settings
abbrev is_upkeep : StepKind → Bool
is_upkeep kind.Back = true
is_upkeep kind.Learn = true
is_upkeep kind.Sweep = true
is_upkeep kind.Bound = true
is_upkeep kind.Settings = true
is_upkeep k = false

where_some : (k j : StepKind) (b : Bool) → list_any (is_kind k) (where_test b (j ∷ [])) ≡ true → is_kind k j ≡ true
where_some k j true h = first (is_kind k j) h
  where
    first : (b : Bool) → (b || false) ≡ true → b ≡ true
    first true h = refl
    first false h = h
where_some k j false h = absurd (false≢true h)

-- the number of the kind is that of an upkeep
abbrev HasNumber : StepKind → ℕ → Type 0
HasNumber k n = (step_number k == n) ≡ true

-- an event that tells of no session comes of such a step
unnamed_upkeep : (h : History) (s : ℕ) (k : StepKind) (e : Event) → list_any (is_kind k) (kinds_for h s (e ∷ [])) ≡ true → tells_of_none e ≡ true → (j : StepKind) × (is_upkeep j ≡ true) × (is_kind k j ≡ true)
unnamed_upkeep h s k (event.Out c r) a none = (kind.Back, refl, where_some k kind.Back _ a)
unnamed_upkeep h s k (event.In c v) a none = (kind.Learn, refl, where_some k kind.Learn _ a)
unnamed_upkeep h s k (event.Sweep c r) a none = (kind.Sweep, refl, where_some k kind.Sweep _ a)
unnamed_upkeep h s k (event.Bound m t) a none = (kind.Bound, refl, where_some k kind.Bound true a)
unnamed_upkeep h s k (event.Checkpoint id v) a none = (kind.Settings, refl, where_some k kind.Settings true a)
unnamed_upkeep h s k (event.Release id) a none = (kind.Settings, refl, where_some k kind.Settings true a)
unnamed_upkeep h s k e a none = absurd (false≢true none)

-- no step of a commit, and no reply, is one

abbrev has_upkeep : List StepKind → Bool
has_upkeep kinds = list_any is_upkeep kinds

upkeep_of : (j i : StepKind) → is_upkeep j ≡ true → is_upkeep i ≡ false → is_kind j i ≡ false
upkeep_of kind.Back i h none = of_back i none
  where
    of_back : (i : StepKind) → is_upkeep i ≡ false → is_kind kind.Back i ≡ false
    of_back kind.Back none = absurd (false≢true (sym none))
    of_back i none = refl
upkeep_of kind.Learn i h none = of_learn i none
  where
    of_learn : (i : StepKind) → is_upkeep i ≡ false → is_kind kind.Learn i ≡ false
    of_learn kind.Learn none = absurd (false≢true (sym none))
    of_learn i none = refl
upkeep_of kind.Sweep i h none = of_sweep i none
  where
    of_sweep : (i : StepKind) → is_upkeep i ≡ false → is_kind kind.Sweep i ≡ false
    of_sweep kind.Sweep none = absurd (false≢true (sym none))
    of_sweep i none = refl
upkeep_of kind.Bound i h none = of_bound i none
  where
    of_bound : (i : StepKind) → is_upkeep i ≡ false → is_kind kind.Bound i ≡ false
    of_bound kind.Bound none = absurd (false≢true (sym none))
    of_bound i none = refl
upkeep_of kind.Settings i h none = of_settings i none
  where
    of_settings : (i : StepKind) → is_upkeep i ≡ false → is_kind kind.Settings i ≡ false
    of_settings kind.Settings none = absurd (false≢true (sym none))
    of_settings i none = refl
upkeep_of j i h none = absurd (false≢true h)

same_kind : (k j i : StepKind) → is_kind k j ≡ true → is_kind k i ≡ true → is_kind j i ≡ true
same_kind k j i one other = grind (arith, nat_tests)

none_among : (k j : StepKind) → is_upkeep j ≡ true → is_kind k j ≡ true → (kinds : List StepKind) → has_upkeep kinds ≡ false → list_any (is_kind k) kinds ≡ true → ⊥
none_among k j up is [] none h = false≢true h
none_among k j up is (i ∷ kinds) none h = by (is_kind k i) (is_upkeep i) refl refl none h (none_among k j up is kinds)
  where
    by : (a b : Bool) → is_kind k i ≡ a → is_upkeep i ≡ b → (b || has_upkeep kinds) ≡ false → (a || list_any (is_kind k) kinds) ≡ true
        → (has_upkeep kinds ≡ false → list_any (is_kind k) kinds ≡ true → ⊥) → ⊥
    by a true one two n m rest = false≢true (sym n)
    by true false one two n m rest = false≢true (sym (upkeep_of j i up two) ∙ same_kind k j i is one)
    by false false one two n m rest = rest n m

-- no stage of a commit has one
stage_kinds : (place : ℕ) (kinds : List StepKind) → slice_get (commit_stages ++ (kind.Say ∷ []) ∷ []) place ≡ Some kinds → has_upkeep kinds ≡ false
stage_kinds zero kinds is = ap has_upkeep (sym (some_is_some _ kinds is))
stage_kinds (suc zero) kinds is = ap has_upkeep (sym (some_is_some _ kinds is))
stage_kinds (suc (suc zero)) kinds is = ap has_upkeep (sym (some_is_some _ kinds is))
stage_kinds (suc (suc (suc zero))) kinds is = ap has_upkeep (sym (some_is_some _ kinds is))
stage_kinds (suc (suc (suc (suc zero)))) kinds is = ap has_upkeep (sym (some_is_some _ kinds is))
stage_kinds (suc (suc (suc (suc (suc zero))))) kinds is = ap has_upkeep (sym (some_is_some _ kinds is))
stage_kinds (suc (suc (suc (suc (suc (suc zero)))))) kinds is = ap has_upkeep (sym (some_is_some _ kinds is))
stage_kinds (suc (suc (suc (suc (suc (suc (suc n))))))) kinds is = none_is_some kinds is

-- ---- a session

module _ (law : JcrLaw) (p : Shown) (run : SessionRun) (stands : Stands law p run) (h : History) (k : StepKind) (from until : ℕ) (in_turn : IsInTurn law p.history p.session from until k)
    (e : Event) (appends : list_any (is_kind k) (kinds_for h p.session (e ∷ [])) ≡ true) (none : tells_of_none e ≡ true) where
  -- its next command
  next_at : (m : Command) → slice_get run.commands run.index ≡ Some m → command_at law p.session (next_index p.history.past p.session) ≡ Some m
  next_at m is =
      ap (λ (t : ℕ). command_at law t (next_index p.history.past t)) stands.session
      ∙ (ap (λ (i : ℕ). command_at law run.session i) (sym stands.index) ∙ (stands.commands run.index ∙ is))

  never_at : (f : Phase) → StandsAt law p run f → is_committing f ≡ true → ⊥
  never_at (phase.Committing pledge) at commits =
      let for = at.1.for in
      let stage : IsOfCommand (Some for.command) from until k = subst (λ (o : Option Command). IsOfCommand o from until k) (next_at for.command for.next) (in_turn.inside at.0.login) in
      let there = subst (λ (stages : List (List StepKind)). slice_get stages stage.place ≡ Some stage.kinds) (commit_steps for.command (commit_commits run for.command for.next for.commits)) stage.there in
      let up = unnamed_upkeep h p.session k e appends none in
      none_among k up.0 up.1 up.2 stage.kinds (stage_kinds stage.place stage.kinds there) stage.among
  never_at f at commits = false≢true commits

  pub unnamed_uncommitted : is_committing run.phase ≡ false
  unnamed_uncommitted = by (is_committing run.phase) refl
    where
      by : (b : Bool) → is_committing run.phase ≡ b → b ≡ false
      by true commits = absurd (never_at run.phase stands.at commits)
      by false none = refl

  -- nothing of it is in flight
  pub unnamed_idle : is_drawing p.history.past p.session ≡ false
  unnamed_idle = by (is_drawing p.history.past p.session) refl
    where
      by : (b : Bool) → is_drawing p.history.past p.session ≡ b → b ≡ false
      by true flies = absurd (false≢true (sym unnamed_uncommitted ∙ flying_commits law p run stands flies))
      by false idle = refl

  -- nor is a commit under way
  pub unnamed_apart : at_commit p.work ≡ false
  unnamed_apart = (uncommitted law p run stands unnamed_uncommitted).apart
