-- What is looked for has its event.
use Rattle.std.proofs.Common.{arith, length, ◌≡◌, ◌-◌, ◌<◌, ◌≤◌, ℕ, Option, Bool, true, false, cond, List, [], ◌∷◌, Some, None, refl, ap, sym, subst, ◌∙◌}
use Rattle.std.specs.Option.{option_map_or, unwrap_or}
use Rattle.std.proofs.Math.ListN.{get_or}
use Rattle.std.proofs.lemmas.Option.{slice_get-get_or}
use Rattle.jr_rev.specs.Vectors.{no_entries}
use Rattle.oak_doc.specs.declared.asks.MemoryAsk.TheVariants as asked
use Rattle.oak_machine.specs.Runs.{IsNode}
use Rattle.oak_node.specs.Memory.{NodeState, begun}
use Rattle.core_world.specs.States.{memory_at}
use Rattle.oak_doc.specs.declared.asks.Ask.{Ask}
use Rattle.oak_doc.specs.declared.asks.Ask.TheVariants as ask
use Rattle.oak_gc.specs.declared.collector.Collector.{Collector}
use Rattle.oak_gc.specs.declared.reading.Step.{Step as CollectStep}
use Rattle.oak_gc.specs.declared.reading.Step.TheVariants as collect_step
use Rattle.oak_machine.specs.declared.event.Event.{Event}
use Rattle.oak_machine.specs.declared.event.Event.TheVariants as event
use Rattle.oak_machine.specs.declared.event.StepKind.{StepKind}
use Rattle.oak_machine.specs.declared.event.StepKind.TheVariants as kind
use Rattle.oak_prev.specs.declared.splitter.Splitter.{Splitter}
use Rattle.oak_prev.specs.declared.splitter.Step.{Step as SplitStep}
use Rattle.oak_prev.specs.declared.splitter.Step.TheVariants as split_step
use Rattle.oak_tidy.specs.declared.tidying.Tidying.{Tidying}
use Rattle.oak_tidy.specs.declared.tidying.Tidying.TheVariants as tidying
use Rattle.oak_tidy.specs.Tidyings.{AsksWithin, bound_told, kind_tidied, own_event, takes_bound, tidy_events, tidying_ask, went}

-- a counted step has an event
pub went_counted : (s : ℕ) (z : StepKind) → (z ≡ kind.Read → ⊥) → went s z ≡ event.Went s z ∷ []
went_counted s kind.Read h = absurd (h refl)
went_counted s z h = refl

abbrev bound_event : Tidying → Event
bound_event y = event.Bound (bound_told y).base (bound_told y).sweep

pub read_events : (s : ℕ) (x y : Tidying) → kind_tidied x ≡ kind.Read → tidy_events s x y ≡ []
read_events s (tidying.Split x) y = λ h. ap (went s) h
read_events s (tidying.Collect x) y = by x.step
  where
    by : (st : CollectStep) → kind_tidied (tidying.Collect (record x { step = st })) ≡ kind.Read → tidy_events s (tidying.Collect (record x { step = st })) y ≡ []
    by collect_step.Root h = cc
    by (collect_step.Node n) h = cc
    by collect_step.Settings h = cc
    by collect_step.First h = cc
    by collect_step.Next h = cc
    by (collect_step.Listed n) h = refl
    by collect_step.Prune h = cc
    by collect_step.Remove h = cc
    by (collect_step.RemovePrevious n read) h = cc
    by collect_step.Done h = cc

chosen : (b : Bool) (e f : Event) → option_map_or (λ (e : Event). e ∷ []) (cond b (Some e) None) (f ∷ []) ≡ cond b e f ∷ []
chosen true e f = refl
chosen false e f = refl

pub look_events : (s : ℕ) (y x : Tidying) (a : Ask) → tidying_ask x ≡ a → (kind_tidied x ≡ kind.Read → ⊥) → tidy_events s x y ≡ cond (takes_bound x a) (bound_event y) (event.Went s (kind_tidied x)) ∷ []
look_events s y x a h counted =
    ap (λ (b : Ask). option_map_or (λ (e : Event). e ∷ []) (own_event x y b) (went s (kind_tidied x))) h
    ∙ (ap (λ (es : List Event). option_map_or (λ (e : Event). e ∷ []) (own_event x y a) es) (went_counted s (kind_tidied x) counted)
    ∙ chosen (takes_bound x a) (bound_event y) (event.Went s (kind_tidied x)))

-- the kind may be named
pub looks_so : (s : ℕ) (y x : Tidying) (a : Ask) (z : StepKind) → tidying_ask x ≡ a → kind_tidied x ≡ z → (kind_tidied x ≡ kind.Read → ⊥) → tidy_events s x y ≡ cond (takes_bound x a) (bound_event y) (event.Went s z) ∷ []
looks_so s y x a z h same counted = look_events s y x a h counted ∙ ap (λ (z : StepKind). cond (takes_bound x a) (bound_event y) (event.Went s z) ∷ []) same

-- ---- what is counted whatever comes

-- documents are changed, or a cluster node is asked
abbrev pub IsCounted : Ask → Type 0
IsCounted (ask.Update op) = Unit {0}
IsCounted (ask.RemoveIf i n) = Unit {0}
IsCounted (ask.Memory m) = Unit {0}
IsCounted _ = ⊥

module _ (s : ℕ) (y : Tidying) where
  split_counted : (x : Splitter) (st : SplitStep) → IsCounted (tidying_ask (tidying.Split (record x { step = st }))) → tidy_events s (tidying.Split (record x { step = st })) y ≡ event.Went s (kind_tidied (tidying.Split (record x { step = st }))) ∷ []
  split_counted x split_step.Read h = absurd h
  split_counted x split_step.Root h = absurd h
  split_counted x (split_step.Previous e n) h = refl
  split_counted x (split_step.Main e n) h = refl
  split_counted x (split_step.Find n o) h = absurd h
  split_counted x (split_step.Remove n found o) h = refl
  split_counted x (split_step.Done o) h = absurd h

  collect_counted : (x : Collector) (st : CollectStep) → IsCounted (tidying_ask (tidying.Collect (record x { step = st }))) → tidy_events s (tidying.Collect (record x { step = st })) y ≡ event.Went s (kind_tidied (tidying.Collect (record x { step = st }))) ∷ []
  collect_counted x collect_step.Root h = absurd h
  collect_counted x (collect_step.Node n) h = refl
  collect_counted x collect_step.Settings h = absurd h
  collect_counted x collect_step.First h = absurd h
  collect_counted x collect_step.Next h = absurd h
  collect_counted x (collect_step.Listed n) h = absurd h
  collect_counted x collect_step.Prune h = refl
  collect_counted x collect_step.Remove h = refl
  collect_counted x (collect_step.RemovePrevious n read) h = refl
  collect_counted x collect_step.Done h = absurd h

  -- its event, where its kind is z
  pub counted : (x : Tidying) (a : Ask) (z : StepKind) → tidying_ask x ≡ a → IsCounted a → z ≡ kind_tidied x → event.Went s z ∷ [] ≡ tidy_events s x y
  counted (tidying.Split x) a z h is same = ap (λ (k : StepKind). event.Went s k ∷ []) same ∙ sym (split_counted x x.step (subst IsCounted (sym h) is))
  counted (tidying.Collect x) a z h is same = ap (λ (k : StepKind). event.Went s k ∷ []) same ∙ sym (collect_counted x x.step (subst IsCounted (sym h) is))

-- ---- the memory that is asked

-- a collection asks one of the cluster nodes
pub node_asked : (n : ℕ) (x : Tidying) (k : ℕ) → AsksWithin n x → tidying_ask x ≡ ask.Memory (asked.Pins k) → IsNode n k
node_asked n (tidying.Split x) k asks h = absurd (by x.step h)
  where
    by : (st : SplitStep) → tidying_ask (tidying.Split (record x { step = st })) ≡ ask.Memory (asked.Pins k) → ⊥
    by split_step.Read h = cc
    by split_step.Root h = cc
    by (split_step.Previous e m) h = cc
    by (split_step.Main e m) h = cc
    by (split_step.Find m o) h = cc
    by (split_step.Remove m found o) h = cc
    by (split_step.Done o) h = cc
node_asked n (tidying.Collect x) k asks h = asks.0.asked k (by x.step h)
  where
    by : (st : CollectStep) → tidying_ask (tidying.Collect (record x { step = st })) ≡ ask.Memory (asked.Pins k) → st ≡ collect_step.Node k
    by collect_step.Root h = cc
    by (collect_step.Node j) h = cc
    by collect_step.Settings h = cc
    by collect_step.First h = cc
    by collect_step.Next h = cc
    by (collect_step.Listed m) h = cc
    by collect_step.Prune h = cc
    by collect_step.Remove h = cc
    by (collect_step.RemovePrevious m read) h = cc
    by collect_step.Done h = cc

-- and its memory is read at its place
pub memory_there : (ms : List NodeState) (k : ℕ) (m : NodeState) → IsNode (length ms) k → m ≡ get_or ms (k - 1) m → memory_at ms k ≡ m
memory_there ms k m node is =
    let low : 1 ≤ k = node.0 in
    let high : k ≤ length ms = node.1 in
    let within : k - 1 < length ms = omega (arith, low, high) in
    ap (λ (o : Option NodeState). unwrap_or o (begun k no_entries)) (slice_get-get_or ms (k - 1) m within) ∙ sym is
