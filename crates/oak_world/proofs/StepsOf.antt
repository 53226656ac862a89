-- What a step of a session owes: the events that it adds, what is kept, and what is told of it.
use Rattle.std.proofs.Common.{◌≡◌, ◌≤◌, ℕ, Bool, true, false, cond, ◌&&◌, ◌||◌, Option, Some, None, List, [], ◌∷◌, ◌++◌, refl, sym, ap, ◌∙◌}
use Rattle.std.specs.Prelude.{◌==◌, slice_get}
use Rattle.std.specs.Option.{option_map_or}
use Rattle.std.specs.List.{list_any}
use Rattle.oak_machine.specs.declared.event.Event.{Event}
use Rattle.oak_machine.specs.declared.event.StepKind.{StepKind}
use Rattle.oak_machine.specs.History.{Past}
use Rattle.oak_machine.specs.Laws.{AreOthers, Says, Starts, after, is_event_of}
use Rattle.oak_machine.specs.Sessions.{is_attached, is_stopped, is_stopped_under}
use Rattle.oak_machine.specs.Steps.{is_kind, step_number, where_test}
use Rattle.core_keep.specs.Holding.{IsHoldingStep}
use Rattle.core_world.specs.Held.{holding_in}
use Rattle.core_world.specs.Kept.{IsKept}
use Rattle.core_world.specs.Numbers.{last_number, IsNumberStep}
use Rattle.core_world.specs.States.{State, history_in}
use Rattle.core_world.proofs.Flights.{number_itself, other_number, same_number}
use Rattle.core_world.proofs.Held.{still_holding}
use Rattle.core_world.proofs.Numbers.{still_step}
use Rattle.oak_store.specs.Tables.{Table}
use Rattle.oak_port.specs.declared.task.StepOut.{StepOut}
use Rattle.oak_port.specs.declared.task.StepOut.TheVariants as answers
use Rattle.oak_port.specs.Ports.{AreOfStep, Makes as Tells, is_by_due}
use Rattle.oak_step.specs.declared.work.Work.{Work}
use Rattle.oak_world.specs.Kept.{May, scene}
use Rattle.oak_world.proofs.Changing.{Changes, IsPlainly, plain_changes}
use Rattle.oak_world.specs.Seen.{shown_work}
use Rattle.oak_step.specs.Works.{kind_due}
use Rattle.oak_world.specs.Steps.{attached_after, attaching, is_made}

-- a step of session s, from one state to the next, which changes the documents so: the events that it adds, which are of no other session; the state is kept, the session may do what it does then, it is attached then as the journal tells, the documents are numbered on, what is held rises, and it is told so
pub record IsStepWhere (Changing : State → State → Type 0) (starts : Starts) (says : Says) (s : ℕ) (w : State) (v : Work) (u : State) (x : Work) (o : StepOut) : Type 0 where
  pub own : Past
  pub grown : history_in u ≡ after own (history_in w)
  pub kept : IsKept starts says u
  pub may : May starts (scene u.table u.formers (after own (history_in w))) s x
  pub apart : (q : ℕ) → (q == s) ≡ false → AreOthers q own w.past
  pub attached : attached_after v o (is_attached w.past s) ≡ is_attached (own ++ w.past) s
  pub unstopped : (k : ℕ) → is_stopped w.past k ≡ false → is_stopped (own ++ w.past) k ≡ false
  pub changes : Changing w u
  pub numbers : w.table.number ≤ last_number → IsNumberStep w.table u.table
  pub holds : IsHoldingStep (holding_in w) (holding_in u)
  pub tells : Tells (history_in w) s (shown_work v) o own (shown_work x)
  pub of_step : AreOfStep (history_in w) s (shown_work v) o own
  pub as_due : is_by_due (kind_due v) own ≡ true

-- a step of session s
abbrev pub IsStepOf : Starts → Says → ℕ → State → Work → State → Work → StepOut → Type 0
IsStepOf starts says s w v u x o = IsStepWhere Changes starts says s w v u x o

-- a step of session s that changes the documents plainly
abbrev pub IsPlainStepOf : Starts → Says → ℕ → State → Work → State → Work → StepOut → Type 0
IsPlainStepOf starts says s w v u x o = IsStepWhere IsPlainly starts says s w v u x o

-- which is a step
pub plain_step : (starts : Starts) (says : Says) (s : ℕ) (w : State) (v : Work) (u : State) (x : Work) (o : StepOut) → IsPlainStepOf starts says s w v u x o → IsStepOf starts says s w v u x o
plain_step starts says s w v u x o step = record {
  own = step.own;
  grown = step.grown;
  kept = step.kept;
  may = step.may;
  apart = step.apart;
  attached = step.attached;
  unstopped = step.unstopped;
  changes = plain_changes w u step.changes;
  numbers = step.numbers;
  holds = step.holds;
  tells = step.tells;
  of_step = step.of_step;
  as_due = step.as_due;
}

-- ---- documents and what is held, where they stay

-- documents that stay are numbered as they are
pub numbers_stay : (t : Table) → t.number ≤ last_number → IsNumberStep t t
numbers_stay t low = still_step t

-- what is held stays
pub holds_still : (w : State) → IsHoldingStep (holding_in w) (holding_in w)
holds_still w = still_holding (holding_in w)

-- ---- numbers and kinds

pub flipped : (q s : ℕ) → (q == s) ≡ false → (s == q) ≡ false
flipped q s h = by (s == q) refl
  where
    by : (b : Bool) → (s == q) ≡ b → b ≡ false
    by true k = absurd (other_number q s h (sym (same_number s q k)))
    by false k = refl

-- a kind is among the kinds of a test that holds
pub kind_told : (k : StepKind) (b : Bool) → b ≡ true → list_any (is_kind k) (where_test b (k ∷ [])) ≡ true
kind_told k b h = ap (λ t. list_any (is_kind k) (where_test t (k ∷ []))) h ∙ ap (λ t. t || false) (number_itself (step_number k))

pub with_true : (b : Bool) → b ≡ true → (b && true) ≡ true
with_true b h = ap (λ t. t && true) h

-- an event of the session itself that attaches it, or takes its base to the head
pub chosen : (s : ℕ) (b was : Bool) → b ≡ cond (s == s) b was
chosen s b was = ap (λ t. cond t b was) (sym (number_itself s))

-- where memory was refused a session is attached as before
pub refused_stays : (v : Work) (was : Bool) → attached_after v answers.Memory was ≡ was
refused_stays v was = by (attaching v)
  where
    by : (o : Option Bool) → option_map_or (λ now. cond (is_made answers.Memory) now was) o was ≡ was
    by None = refl
    by (Some now) = refl

-- where no cluster node is stopped, no session's is
pub none_stopped : (sessions : List ℕ) (past : Past) → ((k : ℕ) → is_stopped past k ≡ false) → (s : ℕ) → is_stopped_under sessions past s ≡ false
none_stopped sessions past going s = by (slice_get sessions s)
  where
    by : (o : Option ℕ) → option_map_or (is_stopped past) o false ≡ false
    by None = refl
    by (Some k) = going k

-- ---- what one event leaves

module _ (past : Past) (s : ℕ) where
  -- an event that is no other session's
  pub apart_one : (e : Event) → ((q : ℕ) → (q == s) ≡ false → is_event_of (e ∷ past) q e ≡ false) → (q : ℕ) → (q == s) ≡ false → AreOthers q (e ∷ []) past
  apart_one e none q h = ap (λ t. t || false) (none q h)
