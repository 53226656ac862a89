-- One step of what tidies documents: a split or a collection asks, and is fed the answer.
use Rattle.std.specs.Option.{option_map_or}
use Rattle.std.specs.Prelude.{◌≡◌, ◌≢◌, ℕ, Bool, true, false, cond, List, [], ◌∷◌, ◌++◌, Option, None, Some}
use Rattle.std.specs.declared.alloc.Global.{Global}
use Rattle.jr_path.specs.declared.path.DocId.TheVariants as id
use Rattle.jr_rev.specs.declared.vector.Pin.{Pin}
use Rattle.oak_doc.specs.declared.asks.Ask.{Ask}
use Rattle.oak_doc.specs.declared.asks.Ask.TheVariants as ask
use Rattle.oak_doc.specs.declared.asks.Reply.{Reply}
use Rattle.oak_gc.specs.Bounding.{collector_after}
use Rattle.oak_gc.specs.Collecting as collecting
use Rattle.oak_gc.specs.Stages as collect_stages
use Rattle.oak_gc.specs.declared.collector.Collector.{Collector}
use Rattle.oak_gc.specs.declared.reading.Reading.{Reading}
use Rattle.oak_gc.specs.declared.reading.Step.{Step as CollectStep}
use Rattle.oak_gc.specs.declared.reading.Step.TheVariants as collect_step
use Rattle.oak_gc.specs.declared.stage.Stage.{Stage as Collected}
use Rattle.oak_gc.specs.declared.stage.Stage.TheVariants as collect_stage
use Rattle.oak_machine.specs.declared.event.Event.{Event}
use Rattle.oak_machine.specs.declared.event.Event.TheVariants as event
use Rattle.oak_machine.specs.declared.event.StepKind.{StepKind}
use Rattle.oak_machine.specs.declared.event.StepKind.TheVariants as kind
use Rattle.oak_machine.specs.Runs.{IsNode}
use Rattle.oak_port.specs.declared.task.StepOut.{StepOut}
use Rattle.oak_port.specs.declared.task.StepOut.TheVariants as answers
use Rattle.oak_port.specs.declared.task.TaskEnd.{TaskEnd}
use Rattle.oak_port.specs.declared.task.TaskEnd.TheVariants as ends
use Rattle.oak_prev.specs.Splitting as splitting
use Rattle.oak_prev.specs.Stages as split_stages
use Rattle.oak_prev.specs.declared.splitter.Step.TheVariants as split_step
use Rattle.oak_prev.specs.declared.stage.Stage.{Stage as Splits}
use Rattle.oak_prev.specs.declared.stage.Stage.TheVariants as split_stage
use Rattle.oak_tidy.specs.declared.tidying.Onward.{Onward}
use Rattle.oak_tidy.specs.declared.tidying.Onward.TheVariants as onward
use Rattle.oak_tidy.specs.declared.tidying.Tidied.{Tidied}
use Rattle.oak_tidy.specs.declared.tidying.Tidied.TheVariants as tidied
use Rattle.oak_tidy.specs.declared.tidying.Tidying.{Tidying}
use Rattle.oak_tidy.specs.declared.tidying.Tidying.TheVariants as tidying
use Rattle.oak_tidy.specs.Replies.{AllParts, all_parts, table_after, told_to}

-- ---- what it asks, and keeps

-- what is due
abbrev pub tidying_ask : Tidying → Ask
tidying_ask (tidying.Split x) = splitting.due x
tidying_ask (tidying.Collect x) = collecting.due x

-- what it keeps after a reply
abbrev pub tidying_fed : Tidying → Reply → Tidying
tidying_fed (tidying.Split x) r = tidying.Split (splitting.fed x r)
tidying_fed (tidying.Collect x) r = tidying.Collect (collecting.fed x r)

-- how a task of session s has ended, once nothing is due, and the event that tells so
abbrev pub TidiesTo : ℕ → Tidying → TaskEnd → Event → Type 0
TidiesTo s (tidying.Split x) (ends.Split e) told =
    (x.step ≡ split_step.Done e) × (told ≡ event.Split s x.path e)
TidiesTo s (tidying.Collect x) (ends.Collected c) told =
    (collecting.due x ≡ ask.Done) × (c ≡ x.collected) × (told ≡ event.Collected s c)
TidiesTo s _ _ told = ⊥

-- what a reply makes of it: it goes on, or nothing is due, and it has ended
abbrev pub ComesTo : ℕ → Tidying → Onward → Type 0
ComesTo s x (onward.Goes y) = (y ≡ x) × (tidying_ask x ≢ ask.Done)
ComesTo s x (onward.Ends e told) = TidiesTo s x e told

-- ---- kinds

-- the kind of the next step of a splitter that stands in a stage
abbrev pub kind_split : Splits → StepKind
kind_split split_stage.Read = kind.Read
kind_split _ = kind.Split

-- the kind of the next step of a collector that stands in a stage
abbrev pub kind_collect : Collected → StepKind
kind_collect collect_stage.Bound = kind.Bound
kind_collect collect_stage.Read = kind.Read
kind_collect _ = kind.Collect

-- the kind of the next step
abbrev pub kind_tidied : Tidying → StepKind
kind_tidied (tidying.Split x) = kind_split (split_stages.stage_of x)
kind_tidied (tidying.Collect x) = kind_collect (collect_stages.stage_of x)

-- ---- events

-- with the settings a collection has read all that its bound is taken of
abbrev pub takes_bound : Tidying → Ask → Bool
takes_bound (tidying.Collect x) (ask.Find id.Settings) = true
takes_bound _ _ = false

-- the bound of a collection, as far as it was told
abbrev pub bound_told : Tidying → Pin
bound_told (tidying.Collect x) = x.bound
bound_told _ = collecting.no_pair

-- the event that a step of x has of its own, once what it asked is answered, and it is y: the
-- bound of a collection is taken
abbrev pub own_event : Tidying → Tidying → Ask → Option Event
own_event x y a =
    cond (takes_bound x a) (Some (event.Bound (bound_told y).base (bound_told y).sweep)) None

-- the events of a step of session s that has none of its own: a reading step appends none
abbrev pub went : ℕ → StepKind → List Event
went s kind.Read = []
went s x = event.Went s x ∷ []

-- the events of a step of session s, of x, that leaves y
abbrev pub tidy_events : ℕ → Tidying → Tidying → List Event
tidy_events s x y =
    option_map_or (λ e. e ∷ []) (own_event x y (tidying_ask x)) (went s (kind_tidied x))

-- ---- a step

-- what it is, once documents and memories have answered what it asked
abbrev pub tidied_on : AllParts → Tidying → Tidying
tidied_on p x = tidying_fed x (told_to p (tidying_ask x))

-- the parts then, after the step of session s: no memory changes
abbrev pub parts_on : ℕ → AllParts → Tidying → AllParts
parts_on s p x =
    all_parts (table_after p.table (tidying_ask x)) p.memories
    (p.list ++ tidy_events s x (tidied_on p x))

-- what comes of a step of session s, of this kind, that leaves x: the task goes on, or where
-- nothing more is due it ends, and its event is to be told
abbrev pub GoesOrEnds : ℕ → StepKind → Tidying → Tidied → StepOut → Type 0
GoesOrEnds s y x v (answers.Went z) = (z ≡ y) × (v ≡ tidied.Going x) × (tidying_ask x ≢ ask.Done)
GoesOrEnds s y x v (answers.Ready e) = (told : Event) × TidiesTo s x e told × (v ≡ tidied.Told told)
GoesOrEnds s y x v _ = ⊥

-- how a step of session s goes: what is asked is done and answered; where memory is refused nothing
-- changes, and the task ends
abbrev pub Tidies : ℕ → AllParts → Tidying → AllParts → Tidied → StepOut → Type 0
Tidies s p x q v answers.Memory = (q ≡ p) × (v ≡ tidied.Gone)
Tidies s p x q v o = (q ≡ parts_on s p x) × GoesOrEnds s (kind_tidied x) (tidied_on p x) v o

-- what goes on, where it does, is such
abbrev pub IfGoing : Tidied → (Tidying → Type 0) → Type 0
IfGoing (tidied.Going x) Is = Is x
IfGoing _ Is = Unit {0}

-- ---- what a step takes

-- a document is looked for
abbrev pub AsksToLook : Ask → Type 0
AsksToLook (ask.Find i) = Unit {0}
AsksToLook (ask.NextAfter i) = Unit {0}
AsksToLook _ = ⊥

-- what a collector has read stands in the document of the node at which it is, until it goes on
abbrev pub CollectsAt : CollectStep → Reading → Type 0
CollectsAt (collect_step.Listed n) r = r.document.id ≡ id.Node r.at
CollectsAt collect_step.Prune r = r.document.id ≡ id.Node r.at
CollectsAt collect_step.Remove r = r.document.id ≡ id.Node r.at
CollectsAt _ r = Unit {0}

-- a collector goes over so many cluster nodes, and asks these alone for what they hold
pub record AsksNodesOf (clusters : ℕ) (x : Collector) : Type 0 where
  pub all : x.clusters ≡ clusters
  pub asked : (k : ℕ) → x.step ≡ collect_step.Node k → IsNode clusters k
  pub at : CollectsAt x.step x.reading

-- some replies have brought a collector to where it stands
pub record IsCollecting (clusters : ℕ) (x : Collector) : Type 0 where
  pub alloc : Global
  pub replies : List Reply
  pub reached : x ≡ collector_after (collecting.begun alloc clusters) replies

-- a collection is of so many cluster nodes
abbrev pub AsksWithin : ℕ → Tidying → Type 0
AsksWithin clusters (tidying.Split x) = Unit {0}
AsksWithin clusters (tidying.Collect x) = AsksNodesOf clusters x × IsCollecting clusters x

-- something is due, where there are so many cluster nodes
pub record CanTidy (clusters : ℕ) (x : Tidying) : Type 0 where
  pub busy : tidying_ask x ≢ ask.Done
  pub asks : AsksWithin clusters x
