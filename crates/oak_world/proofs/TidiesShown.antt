-- The events of a step of a split or a collection, and what is shown of it before and after.
use Rattle.std.proofs.Common.{◌≡◌, inl, inr, ◌+◌, ℕ, Bool, true, false, cond, Option, Some, None, List, [], ◌∷◌, ◌++◌, length, map, refl, sym, ap, subst, ◌∙◌}
use Rattle.std.specs.Prelude.{nat_lt, reverse}
use Rattle.std.specs.Map.{values_of}
use Rattle.std.specs.Option.{option_map_or}
use Rattle.jr_path.specs.declared.path.DocId.{DocId}
use Rattle.jr_path.specs.declared.path.DocId.TheVariants as id
use Rattle.jr_path.specs.declared.path.Path.{Path}
use Rattle.oak_doc.specs.declared.asks.Ask.{Ask}
use Rattle.oak_doc.specs.declared.asks.Ask.TheVariants as ask
use Rattle.oak_doc.specs.declared.asks.Collected.{Collected}
use Rattle.oak_doc.specs.declared.asks.RemoveOut.TheVariants as removal
use Rattle.oak_doc.specs.declared.asks.Reply.{Reply}
use Rattle.oak_doc.specs.declared.asks.Reply.TheVariants as reply
use Rattle.oak_doc.specs.declared.asks.SplitEnd.{SplitEnd}
use Rattle.oak_doc.specs.declared.asks.SplitEnd.TheVariants as end
use Rattle.oak_doc.specs.declared.document.Document.{Document}
use Rattle.oak_doc.specs.declared.document.PrevEntry.{PrevEntry}
use Rattle.oak_doc.specs.declared.update.Kept.TheVariants as kept
use Rattle.oak_gc.specs.Bounding.{node_reply}
use Rattle.oak_gc.specs.Bounds.{Told, root_pair}
use Rattle.oak_gc.specs.Collecting as collecting
use Rattle.oak_gc.specs.Collecting.{Previous, found_document, garbage_previous, going_on, has_garbage_in, last_of, lowered, no_pair, node_reading, removing, with_document, with_entries, with_previous_read, with_skip}
use Rattle.oak_gc.specs.Garbage.{garbage_in, is_garbage_document}
use Rattle.oak_gc.specs.Stages as collect_stages
use Rattle.oak_gc.specs.declared.collector.Collector.{Collector}
use Rattle.oak_gc.specs.declared.reading.Step.{Step as CollectStep}
use Rattle.oak_gc.specs.declared.reading.Step.TheVariants as collect_step
use Rattle.oak_gc.specs.declared.stage.Stage.{Stage as Collects}
use Rattle.oak_gc.specs.declared.stage.Stage.TheVariants as collected
use Rattle.oak_machine.specs.declared.event.Event.{Event}
use Rattle.oak_machine.specs.declared.event.Event.TheVariants as event
use Rattle.oak_machine.specs.declared.event.StepKind.{StepKind}
use Rattle.oak_machine.specs.declared.event.StepKind.TheVariants as kind
use Rattle.oak_machine.specs.History.{History, Past}
use Rattle.oak_machine.specs.Sessions.{is_attached, is_stopped}
use Rattle.oak_machine.specs.Steps.{is_appended_by}
use Rattle.oak_node.specs.Pins.{pin_now}
use Rattle.core_world.specs.States.{memory_at}
use Rattle.oak_port.specs.declared.task.StepOut.TheVariants as answers
use Rattle.oak_port.specs.declared.task.Task.TheVariants as task
use Rattle.oak_port.specs.declared.task.TaskEnd.{TaskEnd}
use Rattle.oak_port.specs.declared.task.TaskEnd.TheVariants as ends
use Rattle.oak_port.specs.Ports.{AreOfStep, Collecting, Idle, Makes as Tells, SplitsOn, Starting, Telling, Work as Shows, is_by_due, split_kind}
use Rattle.oak_prev.specs.Splits.{listed_as, moved_count}
use Rattle.oak_prev.specs.Splitting as splitting
use Rattle.oak_prev.specs.Splitting.{fed_read, known, on_next_root, split_ended, statuses_known}
use Rattle.oak_prev.specs.Wanted.{roots_wanted}
use Rattle.oak_prev.specs.declared.splitter.Splitter.{Splitter}
use Rattle.oak_prev.specs.declared.splitter.Step.{Step as SplitStep}
use Rattle.oak_prev.specs.declared.splitter.Step.TheVariants as split_step
use Rattle.oak_read.specs.Meaning.{documents_in}
use Rattle.oak_read.specs.Reading.{with_known}
use Rattle.oak_read.specs.Wanted.{Ids}
use Rattle.oak_tidy.specs.declared.tidying.Tidying.{Tidying}
use Rattle.oak_tidy.specs.declared.tidying.Tidying.TheVariants as tidying
use Rattle.oak_tidy.specs.Replies.{AllParts, told_to}
use Rattle.oak_tidy.specs.Tidyings.{TidiesTo, bound_told, kind_tidied, takes_bound, tidied_on, tidy_events, tidying_ask, went}
use Rattle.oak_tidy.proofs.Reading.{appends_its_events}
use Rattle.oak_world.specs.Seen.{shown_collect, shown_tidying}

-- ---- the events of a step

module _ (s : ℕ) (x y : Tidying) where
  -- its bound, where one is taken, or else the event of a step of a kind
  abbrev added : Bool → StepKind → Past
  added b k = option_map_or (λ (e : Event). e ∷ []) (cond b (Some (event.Bound (bound_told y).base (bound_told y).sweep)) None) (went s k)

  -- no session is attached or detached by them
  pub events_attached : (past : Past) (q : ℕ) → is_attached (tidy_events s x y ++ past) q ≡ is_attached past q
  events_attached past q = by (takes_bound x (tidying_ask x)) (kind_tidied x)
    where
      by : (b : Bool) (k : StepKind) → is_attached (added b k ++ past) q ≡ is_attached past q
      by true k = refl
      by false kind.Read = refl
      by false _ = refl

  -- no cluster node is stopped by them
  pub events_stopped : (past : Past) (k : ℕ) → is_stopped (tidy_events s x y ++ past) k ≡ is_stopped past k
  events_stopped past j = by (takes_bound x (tidying_ask x)) (kind_tidied x)
    where
      by : (b : Bool) (k : StepKind) → is_stopped (added b k ++ past) j ≡ is_stopped past j
      by true k = refl
      by false kind.Read = refl
      by false _ = refl

  -- no write is among them, no mark and no last write
  pub events_due : is_by_due (Some (kind_tidied x)) (tidy_events s x y) ≡ true
  events_due = by (takes_bound x (tidying_ask x)) (kind_tidied x)
    where
      by : (b : Bool) (k : StepKind) → is_by_due (Some k) (added b k) ≡ true
      by true k = refl
      by false kind.Read = refl
      by false _ = refl

  -- they are those of a step of its kind
  pub events_of_step : (h : History) → is_appended_by h s (kind_tidied x) (reverse (tidy_events s x y)) ≡ true
  events_of_step h = ap (is_appended_by h s (kind_tidied x)) (by (takes_bound x (tidying_ask x)) (kind_tidied x)) ∙ appends_its_events h s x y
    where
      by : (b : Bool) (k : StepKind) → reverse (added b k) ≡ added b k
      by true k = refl
      by false kind.Read = refl
      by false _ = refl

-- ---- a split stays at its path

statuses_at : (x : Splitter) → (statuses_known x).path ≡ x.path
statuses_at x = by (listed_as (known x) x.pin x.reading.document)
  where
    by : (o : Option PrevEntry) → (option_map_or (λ e. record x { step = split_step.Previous e (moved_count (known x) x.pin x.reading.document) }) o (split_ended x (end.Split 0))).path ≡ x.path
    by None = refl
    by (Some e) = refl

next_root_at : (x : Splitter) → (on_next_root x).path ≡ x.path
next_root_at x = by x.left
  where
    by : (l : Ids) → (on_next_root (record x { left = l })).path ≡ x.path
    by [] = statuses_at (record x { left = [] })
    by (i ∷ is) = refl

read_at : (x : Splitter) (o : Option Document) → (option_map_or (fed_read x) o (split_ended x (end.Split 0))).path ≡ x.path
read_at x None = refl
read_at x (Some d) = next_root_at (record x { reading = record { document = d; roots = [] }; left = roots_wanted x.pin d })

found_at : (x : Splitter) (k : ℕ) (e : SplitEnd) (o : Option Document) → (option_map_or (λ d. record x { step = split_step.Remove k d.mod_count e }) o (split_ended x e)).path ≡ x.path
found_at x k e None = refl
found_at x k e (Some d) = refl

-- whatever it is fed
splits_at : (x : Splitter) (st : SplitStep) (r : Reply) → (splitting.fed (record x { step = st }) r).path ≡ x.path
splits_at x split_step.Read (reply.Found o) = read_at (record x { step = split_step.Read }) o
splits_at x split_step.Read r = refl
splits_at x split_step.Root (reply.Found o) = next_root_at (record x { reading = record x.reading { roots = with_known x.reading.roots x.asked o }; step = split_step.Root })
splits_at x split_step.Root r = refl
splits_at x (split_step.Previous e n) (reply.Updated before) = refl
splits_at x (split_step.Previous e n) (reply.Unmet cause thing) = refl
splits_at x (split_step.Previous e n) r = refl
splits_at x (split_step.Main e n) (reply.Updated before) = refl
splits_at x (split_step.Main e n) (reply.Unmet cause (kept.Number found)) = refl
splits_at x (split_step.Main e n) (reply.Unmet cause thing) = refl
splits_at x (split_step.Main e n) reply.Absent = refl
splits_at x (split_step.Main e n) r = refl
splits_at x (split_step.Find k e) (reply.Found o) = found_at (record x { step = split_step.Find k e }) k e o
splits_at x (split_step.Find k e) r = refl
splits_at x (split_step.Remove k n e) (reply.Removed out) = refl
splits_at x (split_step.Remove k n e) r = refl
splits_at x (split_step.Done e) r = refl

-- ---- a collection that has its bound keeps it

-- a collector at this step has its bound
abbrev HasItsBound : CollectStep → Type 0
HasItsBound collect_step.Root = ⊥
HasItsBound (collect_step.Node k) = ⊥
HasItsBound collect_step.Settings = ⊥
HasItsBound _ = Unit {0}

-- it is shown so
bound_shown : (c : Collector) → HasItsBound c.step → shown_collect (collect_stages.stage_of c) ≡ Collecting
bound_shown c has = by c.step has
  where
    by : (st : CollectStep) → HasItsBound st → shown_collect (collect_stages.stage_of (record c { step = st })) ≡ Collecting
    by collect_step.Root h = absurd h
    by (collect_step.Node k) h = absurd h
    by collect_step.Settings h = absurd h
    by (collect_step.Listed n) h = refl
    by collect_step.Done h = refl
    by _ h = refl

decides_bound : (a b : Bool) → HasItsBound (cond a collect_step.Remove (cond b collect_step.Prune collect_step.Next))
decides_bound true b = tt
decides_bound false true = tt
decides_bound false false = tt

goes_bound : (c : Collector) → HasItsBound (going_on c).step
goes_bound c = by c.reading.listed
  where
    by : (ns : List ℕ) → HasItsBound (going_on (record c { reading = record c.reading { listed = ns } })).step
    by [] = decides_bound (is_garbage_document c.bound.base c.bound.sweep c.reading.document) (has_garbage_in c.bound (record c.reading { listed = [] }))
    by (n ∷ ns) = tt

finds_bound : (c : Collector) (o : Option Document) → HasItsBound (option_map_or (found_document c) o (record c { step = collect_step.Done })).step
finds_bound c None = tt
finds_bound c (Some d) = by d.id
  where
    by : (i : DocId) → HasItsBound (option_map_or (λ r. going_on (record c { reading = r })) (node_reading c.bound i d) (record c { step = collect_step.Done })).step
    by (id.Node p) = goes_bound (record c { reading = record { at = p; document = d; garbage = garbage_in c.bound.base c.bound.sweep d; listed = map (λ e. e.number) d.prev; previous = [] } })
    by (id.Prev k p) = tt
    by id.Settings = tt

removes_bound : (c : Collector) → HasItsBound (removing c).step
removes_bound c = by (last_of c.reading.previous)
  where
    by : (o : Option ((ℕ × Document) × Previous)) → HasItsBound (option_map_or (λ l. record c { reading = record c.reading { previous = l.1 }; step = collect_step.RemovePrevious l.0.0 l.0.1.mod_count }) o (record c { step = collect_step.Next })).step
    by None = tt
    by (Some l) = tt

-- whatever it is fed
keeps_bound : (c : Collector) (st : CollectStep) (r : Reply) → HasItsBound st → HasItsBound (collecting.fed (record c { step = st }) r).step
keeps_bound c collect_step.Root r has = absurd has
keeps_bound c (collect_step.Node k) r has = absurd has
keeps_bound c collect_step.Settings r has = absurd has
keeps_bound c collect_step.First (reply.Found o) has = finds_bound (record c { step = collect_step.First }) o
keeps_bound c collect_step.First r has = tt
keeps_bound c collect_step.Next (reply.Found o) has = finds_bound (record c { step = collect_step.Next }) o
keeps_bound c collect_step.Next r has = tt
keeps_bound c (collect_step.Listed n) (reply.Found o) has = goes_bound (record c { reading = with_previous_read c.reading n o; step = collect_step.Listed n })
keeps_bound c (collect_step.Listed n) r has = tt
keeps_bound c collect_step.Prune (reply.Updated before) has = removes_bound (with_entries (record c { reading = record c.reading { previous = garbage_previous c.bound c.reading }; step = collect_step.Prune }) (length c.reading.garbage))
keeps_bound c collect_step.Prune (reply.Unmet cause (kept.Number found)) has = tt
keeps_bound c collect_step.Prune (reply.Unmet cause thing) has = tt
keeps_bound c collect_step.Prune reply.Absent has = tt
keeps_bound c collect_step.Prune r has = tt
keeps_bound c collect_step.Remove (reply.Removed removal.Removed) has = removes_bound (with_document (record c { step = collect_step.Remove }))
keeps_bound c collect_step.Remove (reply.Removed (removal.Changed found)) has = tt
keeps_bound c collect_step.Remove (reply.Removed removal.Absent) has = tt
keeps_bound c collect_step.Remove r has = tt
keeps_bound c (collect_step.RemovePrevious n read) (reply.Removed removal.Removed) has = removes_bound (with_document (record c { step = collect_step.RemovePrevious n read }))
keeps_bound c (collect_step.RemovePrevious n read) (reply.Removed (removal.Changed found)) has = removes_bound (with_skip (record c { step = collect_step.RemovePrevious n read }) (id.Prev n c.reading.at) read found)
keeps_bound c (collect_step.RemovePrevious n read) (reply.Removed removal.Absent) has = removes_bound (record c { step = collect_step.RemovePrevious n read })
keeps_bound c (collect_step.RemovePrevious n read) r has = tt
keeps_bound c collect_step.Done r has = tt

-- ---- where something is due, it hasn't ended

-- something is asked
abbrev IsAsked : Ask → Type 0
IsAsked ask.Done = ⊥
IsAsked _ = Unit {0}

unended : {a : Ask} → IsAsked a → a ≡ ask.Done → ⊥
unended asks done = subst IsAsked done asks

-- a collector that has read what a document lists goes on
goes_asks : (c : Collector) → IsAsked (collecting.due (going_on c))
goes_asks c = by c.reading.listed
  where
    decided : (z : Collector) (a b : Bool) → IsAsked (collecting.due (record z { step = cond a collect_step.Remove (cond b collect_step.Prune collect_step.Next) }))
    decided z true b = tt
    decided z false true = tt
    decided z false false = tt

    by : (ns : List ℕ) → IsAsked (collecting.due (going_on (record c { reading = record c.reading { listed = ns } })))
    by [] = decided (record c { reading = record c.reading { listed = [] } }) (is_garbage_document c.bound.base c.bound.sweep c.reading.document) (has_garbage_in c.bound (record c.reading { listed = [] }))
    by (n ∷ ns) = tt

-- so does one that takes its bound, which is shown as before until the settings are read
record Binds (c : Collector) : Type 0 where
  pub shown : shown_collect (collect_stages.stage_of c) ≡ Starting task.Collect
  pub asks : IsAsked (collecting.due c)

binds : (c : Collector) (k : ℕ) (b : Bool) → Binds (record c { step = cond b (collect_step.Node (k + 1)) collect_step.Settings })
binds c k true = record { shown = refl; asks = tt }
binds c k false = record { shown = refl; asks = tt }

-- ---- what a step tells

-- where memory is refused
pub tidying_refused : (h : History) (s : ℕ) (x : Tidying) → Tells h s (shown_tidying x) answers.Memory [] Idle
tidying_refused h s (tidying.Split x) = (refl, refl)
tidying_refused h s (tidying.Collect x) = by (collect_stages.stage_of x)
  where
    by : (st : Collects) → Tells h s (shown_collect st) answers.Memory [] Idle
    by collected.Bound = (refl, refl)
    by _ = (refl, refl)

module _ (h : History) (s : ℕ) (p : AllParts) where
  -- what a splitter, or a collector, is once that is answered for which it asks
  abbrev split_on : Splitter → Splitter
  split_on x = splitting.fed x (told_to p (splitting.due x))

  abbrev collect_on : Collector → Collector
  collect_on x = collecting.fed x (told_to p (collecting.due x))

  -- a step that goes on
  abbrev Goes : Tidying → Type 0
  Goes x = Tells h s (shown_tidying x) (answers.Went (kind_tidied x)) (tidy_events s x (tidied_on p x)) (shown_tidying (tidied_on p x))

  -- a step that ends so, which is to be told, with the events of a step of its kind
  pub record Ends (x : Tidying) (e : TaskEnd) (told : Event) : Type 0 where
    pub tells : Tells h s (shown_tidying x) (answers.Ready e) (tidy_events s x (tidied_on p x)) (Telling told)
    pub of_step : AreOfStep h s (shown_tidying x) (answers.Ready e) (tidy_events s x (tidied_on p x))

  -- ---- a split

  split_adds : (x : Splitter) (st : SplitStep) (y : Tidying) → SplitsOn s (kind_tidied (tidying.Split (record x { step = st }))) (tidy_events s (tidying.Split (record x { step = st })) y)
  split_adds x split_step.Root y = inl (refl, refl)
  split_adds x (split_step.Find k e) y = inl (refl, refl)
  split_adds x _ y = inr (refl, refl)

  split_goes : (x : Splitter) → Goes (tidying.Split x)
  split_goes x = (split_adds x x.step (tidying.Split (split_on x)), ap (λ (q : Path). Starting (task.Split q)) (splits_at x x.step (told_to p (splitting.due x))))

  split_last : (x : Splitter) (st : SplitStep) (y : Tidying) → split_kind (tidy_events s (tidying.Split (record x { step = st })) y) ≡ kind_tidied (tidying.Split (record x { step = st }))
  split_last x split_step.Root y = refl
  split_last x (split_step.Find k e) y = refl
  split_last x _ y = refl

  split_ends : (x : Splitter) (e : SplitEnd) (told : Event) → told ≡ event.Split s (split_on x).path e → Ends (tidying.Split x) (ends.Split e) told
  split_ends x e told is = record {
    tells = (kind_tidied (tidying.Split x), split_adds x x.step (tidying.Split (split_on x)), ap Telling (is ∙ ap (λ (q : Path). event.Split s q e) (splits_at x x.step (told_to p (splitting.due x)))));
    of_step = ap (λ (k : StepKind). is_appended_by h s k (reverse (tidy_events s (tidying.Split x) (tidying.Split (split_on x))))) (split_last x x.step (tidying.Split (split_on x))) ∙ events_of_step s (tidying.Split x) (tidying.Split (split_on x)) h;
  }

  -- ---- a collection

  -- a collector that reads a part of its bound, but for the settings
  root_binds : (x : Collector) → Binds (collect_on (record x { step = collect_step.Root }))
  root_binds x = binds (record x { bound = option_map_or root_pair (documents_in p.table.documents (id.Node [])) no_pair }) 0 (nat_lt 0 x.clusters)

  node_binds : (x : Collector) (k : ℕ) → Binds (collect_on (record x { step = collect_step.Node k }))
  node_binds x k = by (memory_at p.memories k).recovered (record { head = pin_now (memory_at p.memories k); pins = values_of (memory_at p.memories k).pins })
    where
      by : (b : Bool) (t : Told) → Binds (collecting.fed (record x { step = collect_step.Node k }) (node_reply (cond b None (Some t))))
      by true t = binds x k (nat_lt k x.clusters)
      by false t = binds (lowered x (record { base = t.head.base; sweep = t.head.sweep } ∷ t.pins)) k (nat_lt k x.clusters)

  -- it has its bound after a step, where it had it before
  still_bound : (x : Collector) (st : CollectStep) → HasItsBound st → shown_collect (collect_stages.stage_of (collect_on (record x { step = st }))) ≡ Collecting
  still_bound x st has = bound_shown (collect_on (record x { step = st })) (keeps_bound x st (told_to p (collecting.due (record x { step = st }))) has)

  collect_goes : (x : Collector) (st : CollectStep) → Goes (tidying.Collect (record x { step = st }))
  collect_goes x collect_step.Root = (refl, inl (refl, (root_binds x).shown))
  collect_goes x (collect_step.Node k) = (refl, inl (refl, (node_binds x k).shown))
  collect_goes x collect_step.Settings = let y = collect_on (record x { step = collect_step.Settings }) in (refl, inr (y.bound.base, y.bound.sweep, refl, refl))
  collect_goes x (collect_step.Listed n) = (inl (refl, refl), still_bound x (collect_step.Listed n) tt)
  collect_goes x collect_step.First = (inr (refl, refl), still_bound x collect_step.First tt)
  collect_goes x collect_step.Next = (inr (refl, refl), still_bound x collect_step.Next tt)
  collect_goes x collect_step.Prune = (inr (refl, refl), still_bound x collect_step.Prune tt)
  collect_goes x collect_step.Remove = (inr (refl, refl), still_bound x collect_step.Remove tt)
  collect_goes x (collect_step.RemovePrevious n read) = (inr (refl, refl), still_bound x (collect_step.RemovePrevious n read) tt)
  collect_goes x collect_step.Done = (inr (refl, refl), refl)

  -- what goes over documents may end
  last_step : (x : Collector) (c : Collected) (told : Event) → told ≡ event.Collected s c → shown_collect (collect_stages.stage_of x) ≡ Collecting → kind_tidied (tidying.Collect x) ≡ kind.Collect → tidy_events s (tidying.Collect x) (tidying.Collect (collect_on x)) ≡ event.Went s kind.Collect ∷ [] → Ends (tidying.Collect x) (ends.Collected c) told
  last_step x c told is shown collects adds = record {
    tells = subst (λ (v : Shows). Tells h s v (answers.Ready (ends.Collected c)) (tidy_events s (tidying.Collect x) (tidying.Collect (collect_on x))) (Telling told)) (sym shown) (adds, ap Telling is);
    of_step = subst (λ (v : Shows). AreOfStep h s v (answers.Ready (ends.Collected c)) (tidy_events s (tidying.Collect x) (tidying.Collect (collect_on x)))) (sym shown)
        (ap (λ (k : StepKind). is_appended_by h s k (reverse (tidy_events s (tidying.Collect x) (tidying.Collect (collect_on x))))) (sym collects) ∙ events_of_step s (tidying.Collect x) (tidying.Collect (collect_on x)) h);
  }

  collect_ends : (x : Collector) (st : CollectStep) (e : TaskEnd) (told : Event) → TidiesTo s (tidying.Collect (collect_on (record x { step = st }))) e told → Ends (tidying.Collect (record x { step = st })) e told
  collect_ends x collect_step.Root (ends.Collected c) told to = absurd (unended (root_binds x).asks to.0)
  collect_ends x (collect_step.Node k) (ends.Collected c) told to = absurd (unended (node_binds x k).asks to.0)
  collect_ends x collect_step.Settings (ends.Collected c) told to = absurd (unended {a = ask.NextAfter None} tt to.0)
  collect_ends x (collect_step.Listed n) (ends.Collected c) told to =
      absurd (unended (goes_asks (record x { reading = with_previous_read x.reading n (documents_in p.table.documents (id.Prev n x.reading.at)); step = collect_step.Listed n })) to.0)
  collect_ends x collect_step.First (ends.Collected c) told to = last_step (record x { step = collect_step.First }) c told to.2 refl refl refl
  collect_ends x collect_step.Next (ends.Collected c) told to = last_step (record x { step = collect_step.Next }) c told to.2 refl refl refl
  collect_ends x collect_step.Prune (ends.Collected c) told to = last_step (record x { step = collect_step.Prune }) c told to.2 refl refl refl
  collect_ends x collect_step.Remove (ends.Collected c) told to = last_step (record x { step = collect_step.Remove }) c told to.2 refl refl refl
  collect_ends x (collect_step.RemovePrevious n read) (ends.Collected c) told to = last_step (record x { step = collect_step.RemovePrevious n read }) c told to.2 refl refl refl
  collect_ends x collect_step.Done (ends.Collected c) told to = last_step (record x { step = collect_step.Done }) c told to.2 refl refl refl
  collect_ends x st _ told to = absurd to

  -- ---- either

  pub tidying_goes : (x : Tidying) → Goes x
  tidying_goes (tidying.Split x) = split_goes x
  tidying_goes (tidying.Collect x) = collect_goes x x.step

  pub tidying_ends : (x : Tidying) (e : TaskEnd) (told : Event) → TidiesTo s (tidied_on p x) e told → Ends x e told
  tidying_ends (tidying.Split x) (ends.Split e) told to = split_ends x e told to.1
  tidying_ends (tidying.Split x) _ told to = absurd to
  tidying_ends (tidying.Collect x) e told to = collect_ends x x.step e told to
