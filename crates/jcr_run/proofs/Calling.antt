-- A session's calls of its port: the law stays, and what a call answers is of the same law.
use Rattle.std.proofs.Common.{◌≡◌, ℕ, false, Bool, Some, Option, List, Result, Ok, Err, IfOk, OnErr, sym, ap, ◌∙◌, subst, refl}
use Rattle.std.specs.Prelude.{slice_get, string_bytes}
use Rattle.std.specs.declared.alloc.AllocError.{AllocError}
use Rattle.std.specs.declared.alloc.Global.{Global}
use Rattle.std.specs.declared.string.String.{String}
use mathlib.Core.Bool.{false≢true}
use Rattle.jr_path.specs.declared.name.Name.{Name}
use Rattle.jr_path.specs.Lists.{Text}
use Rattle.jr_value.specs.declared.value.Value.{Value}
use Rattle.oak_port.specs.Ports.{Idle, IsAtRest, OthersAlone, Shown, Starting, Steps, Work}
use Rattle.oak_port.specs.declared.task.StepOut.{StepOut}
use Rattle.oak_port.specs.declared.task.Task.{Task}
use Rattle.jcr_trans.specs.declared.command.Command.{Command}
use Rattle.jcr_trans.specs.declared.command.Command.TheVariants as command
use Rattle.jcr_law.specs.declared.law.JcrLaw.{JcrLaw}
use Rattle.jcr_law.specs.Lasting.{says_of, starts_of}
use Rattle.jcr_law.specs.Queries.{QueryAnswers}
use Rattle.jcr_law.specs.State.{Call}
use Rattle.jcr_call.specs.declared.coming.Coming.{Coming}
use Rattle.jr_types.specs.Rules.{TypesOk}
use Rattle.jcr_held.specs.Comes.{ComesTo}
use Rattle.jcr_held.specs.Holds.{Holds}
use Rattle.jcr_held.specs.declared.held.Held.{Held}
use Rattle.jcr_run.specs.declared.run.SessionRun.{SessionRun}
use Rattle.jcr_run.specs.declared.turn.Turn.{Turn}
use Rattle.jcr_run.specs.Asked.{ComesNext, IsQueriedAs, MayAnswer, MayForgo, MaySettle}
use Rattle.jcr_run.specs.Standing.{HasCounted, IsBeside, Stands}
use Rattle.jcr_run.proofs.Nexts.{same_next}
use Rattle.jcr_run.proofs.Saying.{answer_later, forgo_waits, idle_later, rests_waits, said_later, settle_waits}
use Rattle.jcr_run.proofs.Telling.{rest_idle}
use Rattle.jcr_run.proofs.Turning.{has_turned_later, kept, never_ends}
use Rattle.jcr_run.proofs.Waiting.{by_waits, in_beside}

abbrev pub is_idle : Work → Bool
is_idle Idle = Rattle.std.proofs.Common.true
is_idle _ = false

-- a task that was begun is being done
pub busy_by : {A : Type 0} (w : Work) (t : Task) → w ≡ Starting t → IsAtRest w → A
busy_by w t is rests = absurd (subst (λ (x : Work). IsAtRest x) is rests)

module _ (law later : JcrLaw) (laws : later ≡ law) where
  pub steps_law : (mid new : Shown) (answer : StepOut) → Steps (starts_of later) (says_of later) mid new answer → Steps (starts_of law) (says_of law) mid new answer
  steps_law mid new answer steps = subst (λ (l : JcrLaw). Steps (starts_of l) (says_of l) mid new answer) laws steps

  pub waits_law : (old new : Shown) (work : Work) (room : Option ℕ) → OthersAlone (starts_of later) (says_of later) old new work room → OthersAlone (starts_of law) (says_of law) old new work room
  waits_law old new work room waits = subst (λ (l : JcrLaw). OthersAlone (starts_of l) (says_of l) old new work room) laws waits

  pub turned_law : (old new : Shown) (run now : SessionRun) (t : Turn) → HasCounted later old new run now t → HasCounted law old new run now t
  turned_law old new run now t turned = subst (λ (l : JcrLaw). HasCounted l old new run now t) laws turned

  pub may_law : (p : Shown) (run : SessionRun) (text : Text) → MayAnswer law p run text → MayAnswer later p run text
  may_law p run text may = subst (λ (l : JcrLaw). MayAnswer l p run text) (sym laws) may

  pub forgo_law : (p : Shown) (run : SessionRun) (drew : Bool) → MayForgo law p run drew → MayForgo later p run drew
  forgo_law p run drew may = subst (λ (l : JcrLaw). MayForgo l p run drew) (sym laws) may

  pub stands_law : (p : Shown) (run : SessionRun) → Stands law p run → Stands later p run
  stands_law p run stands = subst (λ (l : JcrLaw). Stands l p run) (sym laws) stands

  -- behind a call by which nothing is being done
  module _ (old mid : Shown) (beside : IsBeside law old mid) (idle : mid.work ≡ Idle) (run : SessionRun) (drew : Bool) (may : MayForgo law old run drew) where
    pub forgo_behind : MayForgo later mid run drew
    forgo_behind = forgo_law mid run drew (forgo_waits law old mid run drew beside (rest_idle mid.session mid.work idle) may)

    pub turned_idle : (new : Shown) (now : SessionRun) (t : Turn) → HasCounted later mid new run now t → HasCounted law old new run now t
    turned_idle new now t turned = idle_later law old mid new run now t may.asked.inside may.asked.rests idle beside (turned_law mid new run now t turned)

  -- behind a place that was kept, or wasn't, where want of memory may be answered
  module _ (old mid : Shown) (run : SessionRun) (drew : Bool) (may : MayForgo law old run drew) (room : Option ℕ) (waits : OthersAlone (starts_of law) (says_of law) old mid old.work room) where
    beside_place : IsBeside law old mid
    beside_place = by_waits law old mid old.work room waits

    pub forgo_behind_place : MayForgo later mid run drew
    forgo_behind_place = forgo_law mid run drew (forgo_waits law old mid run drew beside_place (rests_waits law may.command may.call old mid run may.asked beside_place waits.work_is) may)

    pub forgone_behind_place : (new : Shown) (now : SessionRun) (t : Turn) → HasCounted later mid new run now t → HasCounted law old new run now t
    forgone_behind_place new now t turned =
        has_turned_later law old mid new run now t may.asked.inside.nodes (kept waits.work_is (waits.same_due refl)) beside_place
        (never_ends law mid new run now (in_beside law old mid beside_place may.asked.inside.nodes may.asked.inside)) (turned_law mid new run now t turned)

    pub settle_behind_place : (text : Text) → MaySettle law old run text → MaySettle later mid run text
    settle_behind_place text settles = subst (λ (l : JcrLaw). MaySettle l mid run text) (sym laws) (settle_waits law old mid run text beside_place waits.work_is settles)

  -- behind a place that was kept, or wasn't
  module _ (old mid : Shown) (run : SessionRun) (text : Text) (may : MayAnswer law old run text) (room : Option ℕ) (waits : OthersAlone (starts_of law) (says_of law) old mid old.work room) where
    pub may_behind : MayAnswer later mid run text
    may_behind = may_law mid run text (answer_later law old run text may mid room waits)

    pub turned_behind_place : (new : Shown) (now : SessionRun) (t : Turn) → HasCounted later mid new run now t → HasCounted law old new run now t
    turned_behind_place new now t turned = said_later law old run text may mid new room now t waits (turned_law mid new run now t turned)

-- ---- what a call of what is held comes to, for the next command

pub comes_by : (run : SessionRun) (x : Command) (made : Result Coming AllocError) → slice_get run.commands run.index ≡ Some x → ((c : Call) → Holds c run.held → TypesOk c.types c.base → IfOk made (ComesTo c x)) → IfOk made (ComesNext run)
comes_by run x (Ok coming) next h = λ m c is holds typed. subst (λ (y : Command). ComesTo c y coming) (same_next run.commands run.index x m next is) (h c holds typed)
comes_by run x (Err e) next h = tt

same_text : (a b : Text) (u v : List (Name × Value)) → command.Query a u ≡ command.Query b v → (a ≡ b) × (u ≡ v)
same_text a b u v h = (
  ap (λ (x : Command). elim x [ command.Query t w ↦ t | _ ↦ a ]) h,
  ap (λ (x : Command). elim x [ command.Query t w ↦ w | _ ↦ u ]) h,
)

pub queried_as : (held : Held) (m : Command) (text : Text) (vars : List (Name × Value)) (made : Result (String Global) AllocError) → m ≡ command.Query text vars
    → ((c : Call) → Holds c held → IfOk made (λ reply. QueryAnswers c text vars (string_bytes reply))) → IfOk made (IsQueriedAs held m)
queried_as held m text vars (Ok reply) at h = λ q w c holds is.
    let s = same_text text q vars w (sym at ∙ is) in
    subst (λ (t : Text). QueryAnswers c t w (string_bytes reply)) s.0 (subst (λ (v : List (Name × Value)). QueryAnswers c text v (string_bytes reply)) s.1 (h c holds))
queried_as held m text vars (Err e) at h = tt

-- ---- a text that was made, or for which memory was refused

pub made_if : {T E : Type 0} (made : Result T E) (P Q : T → Type 0) → ((t : T) → P t → Q t) → IfOk made P → IfOk made Q
made_if (Ok t) P Q f h = f t h
made_if (Err e) P Q f h = tt

pub made_err : {T E : Type 0} (made : Result T E) (A : Type 0) → A → OnErr made A
made_err (Ok t) A h = tt
made_err (Err e) A h = h
