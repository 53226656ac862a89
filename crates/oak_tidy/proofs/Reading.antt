-- What is read of a world, and told in its journal.
use Rattle.std.proofs.Common.{◌≡◌, ◌≢◌, ℕ, Bool, true, cond, [], ◌∷◌, Option, Some, None, refl, sym, ap, subst, ◌∙◌, arith}
use Rattle.std.specs.Prelude.{◌==◌, ◌&&◌}
use Rattle.std.specs.List.{fold, list_any}
use Rattle.std.specs.Map.{values_of}
use Rattle.std.specs.Option.{option_map_or}
use Rattle.std.proofs.lemmas.Bool.Decides.{nat_tests}
use Rattle.jr_path.specs.declared.path.DocId.TheVariants as id
use Rattle.oak_doc.specs.declared.asks.Ask.TheVariants as ask
use Rattle.oak_doc.specs.declared.asks.MemoryAsk.TheVariants as memory
use Rattle.oak_doc.specs.declared.asks.Reply.TheVariants as reply
use Rattle.oak_doc.specs.declared.document.Document.{Document}
use Rattle.oak_gc.specs.Bounding.{node_reply}
use Rattle.oak_gc.specs.Bounds.{lesser_pair, root_pair}
use Rattle.oak_gc.specs.Collecting as collecting
use Rattle.oak_gc.specs.declared.collector.Collector.{Collector}
use Rattle.oak_gc.specs.declared.reading.Step.{Step as CollectStep}
use Rattle.oak_gc.specs.declared.reading.Step.TheVariants as collect_step
use Rattle.oak_machine.specs.declared.event.StepKind.{StepKind}
use Rattle.oak_machine.specs.declared.event.StepKind.TheVariants as kind
use Rattle.oak_machine.specs.History.{History}
use Rattle.oak_machine.specs.Steps.{is_appended_by, is_kind, where_test}
use Rattle.oak_node.specs.Pins.{pin_now}
use Rattle.oak_prev.specs.declared.splitter.Splitter.{Splitter}
use Rattle.oak_prev.specs.declared.splitter.Step.{Step as SplitStep}
use Rattle.oak_prev.specs.declared.splitter.Step.TheVariants as split_step
use Rattle.oak_read.specs.Meaning.{documents_in}
use Rattle.core_world.specs.Held.{no_pin}
use Rattle.core_world.specs.States.{memory_at, nodes_in}
use Rattle.oak_tidy.specs.declared.tidying.Tidying.{Tidying}
use Rattle.oak_tidy.specs.declared.tidying.Tidying.TheVariants as tidying
use Rattle.oak_tidy.specs.Moves.{AppendsItsEvents, BoundsBegin, CollectsGarbage, CollectionsBegin, GonePass, NodesBound, SettingsBound, SplitsBegin}
use Rattle.oak_tidy.specs.Replies.{told_by_memories}
use Rattle.oak_tidy.specs.Tidyings.{kind_tidied, tidy_events}
use Rattle.oak_gc.specs.Asking.{AsksForGarbage}
use Rattle.oak_gc.proofs.Asking.{ask_for_garbage}
use Rattle.oak_tidy.proofs.Staying.{begun_asks}

-- ---- what is read

pub bounds_begin : BoundsBegin
bounds_begin w root x at there =
    ap (λ (st : CollectStep). (collecting.fed (record x { step = st }) (reply.Found (nodes_in w.table []))).bound) at
    ∙ ap (λ (o : Option Document). option_map_or root_pair o collecting.no_pair) there

pub nodes_bound : NodesBound
nodes_bound w k x at node here =
    ap (λ (st : CollectStep). (collecting.fed (record x { step = st }) (told_by_memories w.memories (memory.Pins k))).bound) at
    ∙ (ap (λ (b : Bool). (collecting.fed (record x { step = collect_step.Node k }) (node_reply (cond b None (Some (record { head = pin_now (memory_at w.memories k); pins = values_of (memory_at w.memories k).pins }))))).bound) here
    ∙ ap (λ (b : Bool). fold lesser_pair x.bound (cond b (pin_now (memory_at w.memories k)) no_pin ∷ values_of (memory_at w.memories k).pins)) (sym node))

pub gone_pass : GonePass
gone_pass w k x at gone =
    ap (λ (st : CollectStep). (collecting.fed (record x { step = st }) (told_by_memories w.memories (memory.Pins k))).bound) at
    ∙ ap (λ (b : Bool). (collecting.fed (record x { step = collect_step.Node k }) (node_reply (cond b None (Some (record { head = pin_now (memory_at w.memories k); pins = values_of (memory_at w.memories k).pins }))))).bound) gone

pub settings_bound : SettingsBound
settings_bound w x at = ap (λ (st : CollectStep). (collecting.fed (record x { step = st }) (reply.Found (documents_in w.table.documents id.Settings))).bound) at

-- ---- events

own_number : (s : ℕ) → (s == s) ≡ true
own_number s = grind (arith, nat_tests)

module _ (h : History) (s : ℕ) (y : Tidying) where
  -- the kinds are those of a counted step of that kind
  went_so : (z : StepKind) → list_any (is_kind z) (where_test true (z ∷ [])) ≡ true → list_any (is_kind z) (where_test (s == s && true) (z ∷ [])) ≡ true
  went_so z it = ap (λ (b : Bool). list_any (is_kind z) (where_test (b && true) (z ∷ []))) (own_number s) ∙ it

  split_appends : (x : Splitter) (st : SplitStep) → is_appended_by h s (kind_tidied (tidying.Split (record x { step = st }))) (tidy_events s (tidying.Split (record x { step = st })) y) ≡ true
  split_appends x split_step.Root = refl
  split_appends x (split_step.Find n o) = refl
  split_appends x split_step.Read = went_so kind.Split refl
  split_appends x (split_step.Previous e n) = went_so kind.Split refl
  split_appends x (split_step.Main e n) = went_so kind.Split refl
  split_appends x (split_step.Remove n found o) = went_so kind.Split refl
  split_appends x (split_step.Done o) = went_so kind.Split refl

  collect_appends : (x : Collector) (st : CollectStep) → is_appended_by h s (kind_tidied (tidying.Collect (record x { step = st }))) (tidy_events s (tidying.Collect (record x { step = st })) y) ≡ true
  collect_appends x collect_step.Root = went_so kind.Bound refl
  collect_appends x (collect_step.Node n) = went_so kind.Bound refl
  collect_appends x collect_step.Settings = refl
  collect_appends x (collect_step.Listed n) = refl
  collect_appends x collect_step.First = went_so kind.Collect refl
  collect_appends x collect_step.Next = went_so kind.Collect refl
  collect_appends x collect_step.Prune = went_so kind.Collect refl
  collect_appends x collect_step.Remove = went_so kind.Collect refl
  collect_appends x (collect_step.RemovePrevious n read) = went_so kind.Collect refl
  collect_appends x collect_step.Done = went_so kind.Collect refl

pub appends_its_events : AppendsItsEvents
appends_its_events h s (tidying.Split x) y = split_appends h s y x x.step
appends_its_events h s (tidying.Collect x) y = collect_appends h s y x x.step

-- ---- the first step

found_due : (i : _) → ask.Find i ≢ ask.Done
found_due i h = cc

pub splits_begin : SplitsBegin
splits_begin n a pin p = record { busy = found_due (id.Node p); asks = tt }

pub collections_begin : CollectionsBegin
collections_begin n a = record { busy = found_due (id.Node []); asks = (begun_asks n (collecting.begun a n) refl refl, record { alloc = a; replies = []; reached = refl }) }

-- ---- what is asked of documents

pub collects_garbage : CollectsGarbage
collects_garbage n x can = let of = can.asks.1 in subst AsksForGarbage (sym of.reached) (ask_for_garbage of.alloc n of.replies)
