-- Each step of a split or a collection in a world, whatever is due.
use Rattle.std.proofs.Common.{◌≡◌, ℕ, true, false, [], Option, Some, None, refl, sym, ap, subst}
use Rattle.jr_path.specs.declared.path.DocId.{DocId}
use Rattle.jr_path.specs.declared.path.DocId.TheVariants as id
use Rattle.oak_doc.specs.declared.asks.Ask.TheVariants as ask
use Rattle.oak_doc.specs.declared.asks.Collected.{Collected}
use Rattle.oak_doc.specs.declared.asks.MemoryAsk.TheVariants as memory
use Rattle.oak_doc.specs.declared.document.PrevEntry.{PrevEntry}
use Rattle.oak_doc.specs.declared.document.Document.{Document}
use Rattle.oak_doc.specs.declared.update.UpdateOp.{UpdateOp}
use Rattle.oak_doc.specs.Updates.{updated}
use Rattle.oak_gc.specs.Collecting as collecting
use Rattle.oak_gc.specs.Collecting.{prune_op}
use Rattle.oak_gc.specs.declared.collector.Collector.{Collector}
use Rattle.oak_gc.specs.declared.reading.Step.{Step as CollectStep}
use Rattle.oak_gc.specs.declared.reading.Step.TheVariants as collect_step
use Rattle.oak_machine.specs.declared.event.Event.{Event}
use Rattle.oak_machine.specs.declared.event.Event.TheVariants as event
use Rattle.oak_machine.specs.Laws.{Says, Starts, StartsProper}
use Rattle.oak_machine.specs.Runs.{MayFollow, is_task_end}
use Rattle.oak_machine.specs.Sessions.{has_left, has_login, is_login_of}
use Rattle.oak_prev.specs.Splits.{main_write, previous_write}
use Rattle.oak_prev.specs.Splitting as splitting
use Rattle.oak_prev.specs.Splitting.{known}
use Rattle.oak_prev.specs.declared.splitter.Splitter.{Splitter}
use Rattle.oak_prev.specs.declared.splitter.Step.{Step as SplitStep}
use Rattle.oak_prev.specs.declared.splitter.Step.TheVariants as split_step
use Rattle.oak_read.specs.declared.reader.Reader.{Reader}
use Rattle.oak_read.specs.Meaning.{documents_in}
use Rattle.oak_read.specs.Reading.{IsTable, node_reader}
use Rattle.oak_store.specs.Tables.{found, next_number, removal_of}
use Rattle.oak_acts.specs.Acts.{replied}
use Rattle.oak_port.specs.declared.task.TaskEnd.{TaskEnd}
use Rattle.oak_port.specs.declared.task.TaskEnd.TheVariants as ends
use Rattle.oak_tidy.specs.declared.tidying.Tidying.{Tidying}
use Rattle.oak_tidy.specs.declared.tidying.Tidying.TheVariants as tidying
use Rattle.oak_tidy.specs.Moves.{after_asking}
use Rattle.oak_tidy.specs.Replies.{all_parts, told_to}
use Rattle.oak_tidy.specs.Tidyings.{CanTidy, TidiesTo, tidy_events}
use Rattle.oak_tidy.proofs.Reading.{collects_garbage}
use Rattle.core_heads.specs.Sound.{IsGood, Seen}
use Rattle.core_heads.proofs.Runs.{sound_run}
use Rattle.core_keep.specs.Formers.{Formers}
use Rattle.core_world.specs.Bounding.{CanAllBound}
use Rattle.core_world.specs.Kept.{IsKept}
use Rattle.core_world.specs.States.{State, history_in, nodes_in, with_session}
use Rattle.core_world.specs.Steps.{with_reader}
use Rattle.core_world.proofs.Held.{still_holding}
use Rattle.core_world.proofs.Flights.{number_itself}
use Rattle.core_world.proofs.Lives.{reader_held}
use Rattle.core_world.proofs.Readers.{live_is}
use Rattle.core_world.proofs.Whole.{gone_whole}
use Rattle.core_world.specs.Held.{holding_in}
use Rattle.core_tidy.specs.Beside.{IsWorldStep, LetsTidy}
use Rattle.core_tidy.specs.Collecting.{HasBound, MayCollectAt}
use Rattle.core_tidy.specs.Splitting.{HasMoved, HasRead, MaySplitAt}
use Rattle.core_tidy.specs.Steps.{IsTidyStep, after_tidied, told_of}
use Rattle.core_tidy.specs.Tidying.{AreTidying, MayTidy}
use Rattle.core_tidy.proofs.Beside.{bounds_on, collect_on, has_copied_on, has_read_on, moves_on, takes_back_on}
use Rattle.core_tidy.proofs.Collects.{CollectsTo, first_to, listed_to, next_to, node_to, prune_to, remove_previous_to, remove_to, root_to as bound_root_to, settings_to}
use Rattle.core_tidy.proofs.Making.{IsMade, nothing, still_made}
use Rattle.core_tidy.proofs.Since.{more}
use Rattle.core_tidy.proofs.Splits.{SplitsTo, find_to, main_to, previous_to, read_to, remove_to as take_back_to, root_to}
use Rattle.core_tidy.proofs.Whole.{tidy_stepped}

module _ (starts : Starts) (says : Says) (proper : StartsProper starts) (w : State) (kept : IsKept starts says w) (does : ℕ → Option Tidying) (tidies : AreTidying w does) (table : IsTable w.table.documents) (s : ℕ) where
  -- the session reads no more as one that hasn't begun
  abbrev gone : State
  gone = with_reader w s None

  gone_kept : IsKept starts says gone
  gone_kept = gone_whole starts says proper w kept s

  gone_made : IsMade starts says w gone nothing
  gone_made = still_made starts says w tidies.numbered tidies.own gone gone_kept [] refl refl refl refl refl refl (still_holding (holding_in w))

  abbrev gone_step : IsWorldStep w gone
  gone_step = record {
    own = [];
    grown = refl;
    clusters = refl;
    sessions = refl;
    begin = refl;
    table = gone_made.lets.step.table;
    holds = gone_made.lets.step.holds;
    numbered = gone_made.lets.step.numbered;
    own_numbers = gone_made.lets.step.own_numbers;
  }

  abbrev gone_lets : LetsTidy w gone nothing
  gone_lets = record { step = gone_step; copies = gone_made.lets.copies; previous = gone_made.lets.previous; splits = gone_made.lets.splits }

  abbrev Stepped : Tidying → Type 0
  Stepped x = IsTidyStep starts says w does s x

  -- ---- a split

  -- what a splitter is once that is answered for which it asks
  abbrev split_in : Splitter → Splitter
  split_in x = splitting.fed x (told_to (all_parts w.table w.memories []) (splitting.due x))

  -- the world then
  abbrev asked : Splitter → Formers → State
  asked x f = record (after_asking gone s (splitting.due x) (tidy_events s (tidying.Split x) (tidying.Split x))) { formers = f }

  abbrev SplitGoes : Splitter → Formers → Type 0
  SplitGoes x f = SplitsTo starts says gone s x (split_in x) (asked x f)

  module _ (x : Splitter) (is : does s ≡ Some (tidying.Split x)) where
    its : MayTidy w s (tidying.Split x)
    its = tidies.each s (tidying.Split x) is

    split_with : (f : Formers) → SplitGoes x f → Stepped (tidying.Split x)
    split_with f goes =
        tidy_stepped starts says proper w kept does tidies table s (tidying.Split x) is f now.grow now.makes (λ p k h. now.lists p k h) now.may (λ p k h. now.holds p k h) (λ e told h. ended e told h)
      where
        u : State
        u = told_of (after_tidied w s (tidying.Split x)) f

        same : asked x f ≡ u
        same = ap (λ (r : Option Reader). record (asked x f) { reading = with_session w.reading s r }) (sym goes.reader)

        now : SplitsTo starts says gone s x (split_in x) u
        now = subst (λ (t : State). SplitsTo starts says gone s x (split_in x) t) same goes

        login : has_login u.past s ≡ true
        login = more (is_login_of s) (tidy_events s (tidying.Split x) (tidying.Split x)) w.past its.login

        ended : (e : TaskEnd) (told : Event) → TidiesTo s (tidying.Split (split_in x)) e told → is_task_end s told ≡ true × MayFollow starts says (history_in u) told
        ended (ends.Split o) told h =
            subst (λ (v : Event). is_task_end s v ≡ true × MayFollow starts says (history_in u) v) (sym h.1)
            (number_itself s, (login, subst (λ (st : SplitStep). MaySplitAt u s (split_in x) st) h.0 now.may))
        ended (ends.Node n) told h = absurd h
        ended (ends.Children l) told h = absurd h
        ended (ends.Pinned p) told h = absurd h
        ended (ends.Commit e) told h = absurd h
        ended (ends.Published r) told h = absurd h
        ended (ends.Learnt v) told h = absurd h
        ended (ends.Swept r) told h = absurd h
        ended (ends.Collected c) told h = absurd h
        ended (ends.Set p) told h = absurd h
        ended ends.NoCheckpoint told h = absurd h
        ended (ends.Changes l) told h = absurd h
        ended ends.StopMade told h = absurd h
        ended (ends.Recovered r) told h = absurd h
        ended (ends.AlreadyStopped n) told h = absurd h
        ended ends.Ended told h = absurd h

  -- what it has read stands where it reads no more
  gone_read : (x : Splitter) → HasRead w x → HasRead gone x
  gone_read = has_read_on starts says proper w gone kept gone_kept gone_step nothing gone_lets

  gone_moved : (x : Splitter) (e : PrevEntry) → HasMoved w x e → HasMoved gone x e
  gone_moved x e has = record {
    moves = moves_on starts says proper w gone kept gone_kept gone_step nothing gone_lets x e has.moves;
    first = has.first;
    copied = has_copied_on starts says proper w gone kept gone_kept gone_step nothing gone_lets x.path e.number _ (λ h. absurd h) has.copied;
  }

  -- the document is read as by a reader of the node
  module _ (x : Splitter) (login : has_login w.past s ≡ true) (stays : has_left w.past s ≡ false) (at : w.reading s ≡ Some (node_reader x.alloc x.pin x.path)) where
    good : IsGood w.begin w.past (Seen x.pin.base)
    good = ((sound_run w.clusters w.sessions kept.sessions.nodes w.begin starts says w.past kept.sessions.run).bases s x.pin.base (live_is w.past s x.pin.base (kept.sessions.readers.at_base s (node_reader x.alloc x.pin x.path) at)).base).good

    reads : SplitGoes (record x { step = split_step.Read }) w.formers
    reads =
        read_to starts says proper gone gone_kept s login stays tidies.numbered tidies.own tidies.order table x good
        (reader_held starts says proper w kept.sessions s (node_reader x.alloc x.pin x.path) at) (nodes_in w.table x.path) refl

  pub split_steps : (x : Splitter) → does s ≡ Some (tidying.Split x) → CanTidy w.clusters (tidying.Split x) → Stepped (tidying.Split x)
  split_steps x is can = by x.step is can
    where
      login : has_login w.past s ≡ true
      login = (tidies.each s (tidying.Split x) is).login

      stays : has_left w.past s ≡ false
      stays = (tidies.each s (tidying.Split x) is).stays

      by : (st : SplitStep) → does s ≡ Some (tidying.Split (record x { step = st })) → CanTidy w.clusters (tidying.Split (record x { step = st })) → Stepped (tidying.Split (record x { step = st }))
      by split_step.Read at can = split_with (record x { step = split_step.Read }) at w.formers (reads x login stays (tidies.each s (tidying.Split (record x { step = split_step.Read })) at).so_far)
      by split_step.Root at can =
          let z = record x { step = split_step.Root } in
          split_with z at w.formers (root_to starts says proper gone gone_kept s login stays tidies.numbered tidies.own tidies.order table z (gone_read z (tidies.each s (tidying.Split z) at).so_far))
      by (split_step.Previous e n) at can =
          let z = record x { step = split_step.Previous e n } in
          split_with z at w.formers (previous_to starts says proper gone gone_kept s login stays tidies.numbered tidies.own tidies.order table z e n
          (moves_on starts says proper w gone kept gone_kept gone_step nothing gone_lets z e (tidies.each s (tidying.Split z) at).so_far) (found w.table (previous_write (known x) x.pin x.reading.document).id) refl)
      by (split_step.Main e n) at can = split_with z at goes.0 goes.1
        where
          z : Splitter
          z = record x { step = split_step.Main e n }

          op : UpdateOp
          op = main_write (known x) x.pin x.reading.document e

          has : HasMoved w z e
          has = (tidies.each s (tidying.Split z) at).so_far

          goes : (f : Formers) × SplitGoes (record x { step = split_step.Main e n }) f
          goes =
              subst (λ (o : Option Document). (f : Formers) × SplitsTo starts says gone s z (splitting.fed z (replied o (updated o op (next_number w.table)))) (asked z f))
              (sym (ap (λ (i : DocId). found w.table i) has.moves.reads.splitting.named))
              (main_to starts says proper gone gone_kept s login stays tidies.numbered tidies.own tidies.order table z e n (gone_moved z e has) (nodes_in w.table x.path) refl)
      by (split_step.Find k o) at can =
          let z = record x { step = split_step.Find k o } in
          split_with z at w.formers (find_to starts says proper gone gone_kept s login stays tidies.numbered tidies.own tidies.order table z k o
          (takes_back_on starts says proper w gone kept gone_kept gone_step nothing gone_lets x.path k o (λ h. absurd h) (tidies.each s (tidying.Split z) at).so_far) (documents_in w.table.documents (id.Prev k x.path)))
      by (split_step.Remove k number o) at can =
          let z = record x { step = split_step.Remove k number o } in
          split_with z at w.formers (take_back_to starts says proper gone gone_kept s login stays tidies.numbered tidies.own tidies.order table z k number o
          (takes_back_on starts says proper w gone kept gone_kept gone_step nothing gone_lets x.path k o (λ h. absurd h) (tidies.each s (tidying.Split z) at).so_far) (removal_of w.table (id.Prev k x.path) number) refl)
      by (split_step.Done o) at can = absurd (can.busy refl)

  -- ---- a collection

  -- what a collector is once that is answered for which it asks
  abbrev collected_in : Collector → Collector
  collected_in x = collecting.fed x (told_to (all_parts w.table w.memories []) (collecting.due x))

  -- the world then
  abbrev heard : Collector → State
  heard x = after_asking gone s (collecting.due x) (tidy_events s (tidying.Collect x) (tidying.Collect (collected_in x)))

  abbrev CollectGoes : Collector → Type 0
  CollectGoes x = CollectsTo starts says gone s (collected_in x) (heard x)

  gone_bounds : CanAllBound gone
  gone_bounds = bounds_on starts says proper w gone kept gone_kept gone_step tidies.bounds

  -- where nothing is due its bound is taken
  done_bound : (u : State) (y : Collector) (st : CollectStep) → collecting.due (record y { step = st }) ≡ ask.Done → MayCollectAt u s y st → HasBound u s y
  done_bound u y collect_step.Done h may = may
  done_bound u y collect_step.Root h may = absurd (apart h)
    where
      apart : ask.Find (id.Node []) ≡ ask.Done → ⊥
      apart h = cc
  done_bound u y (collect_step.Node k) h may = absurd (apart h)
    where
      apart : ask.Memory (memory.Pins k) ≡ ask.Done → ⊥
      apart h = cc
  done_bound u y collect_step.Settings h may = absurd (apart h)
    where
      apart : ask.Find id.Settings ≡ ask.Done → ⊥
      apart h = cc
  done_bound u y collect_step.First h may = may
  done_bound u y collect_step.Next h may = may
  done_bound u y (collect_step.Listed n) h may = may.0
  done_bound u y collect_step.Prune h may = may.0
  done_bound u y collect_step.Remove h may = may.0
  done_bound u y (collect_step.RemovePrevious n k) h may = may.0

  module _ (x : Collector) (is : does s ≡ Some (tidying.Collect x)) where
    collect_with : CollectGoes x → Stepped (tidying.Collect x)
    collect_with goes =
        tidy_stepped starts says proper w kept does tidies table s (tidying.Collect x) is w.formers (λ p k f h. h) goes.makes (λ p k h. absurd (goes.lists p k h)) goes.may (λ p k h. absurd h) (λ e told h. ended e told h)
      where
        u : State
        u = told_of (after_tidied w s (tidying.Collect x)) w.formers

        login : has_login u.past s ≡ true
        login = more (is_login_of s) (tidy_events s (tidying.Collect x) (tidying.Collect (collected_in x))) w.past (tidies.each s (tidying.Collect x) is).login

        ended : (e : TaskEnd) (told : Event) → TidiesTo s (tidying.Collect (collected_in x)) e told → is_task_end s told ≡ true × MayFollow starts says (history_in u) told
        ended (ends.Collected c) told h =
            let has = done_bound u (collected_in x) (collected_in x).step h.0 goes.may in
            subst (λ (v : Event). is_task_end s v ≡ true × MayFollow starts says (history_in u) v) (sym h.2)
            (subst (λ (a : Collected). is_task_end s (event.Collected s a) ≡ true × MayFollow starts says (history_in u) (event.Collected s a)) (sym h.1)
            (number_itself s, record { login = login; bound = has.taken; skips = has.skips }))
        ended (ends.Split o) told h = absurd h
        ended (ends.Node n) told h = absurd h
        ended (ends.Children l) told h = absurd h
        ended (ends.Pinned p) told h = absurd h
        ended (ends.Commit e) told h = absurd h
        ended (ends.Published r) told h = absurd h
        ended (ends.Learnt v) told h = absurd h
        ended (ends.Swept r) told h = absurd h
        ended (ends.Set p) told h = absurd h
        ended ends.NoCheckpoint told h = absurd h
        ended (ends.Changes l) told h = absurd h
        ended ends.StopMade told h = absurd h
        ended (ends.Recovered r) told h = absurd h
        ended (ends.AlreadyStopped n) told h = absurd h
        ended ends.Ended told h = absurd h

  -- what a collector may do where the session reads no more
  gone_may : (x : Collector) (st : CollectStep) → does s ≡ Some (tidying.Collect (record x { step = st })) → MayCollectAt gone s (record x { step = st }) st
  gone_may x st at = collect_on starts says proper w gone kept gone_kept gone_step nothing gone_lets s refl (record x { step = st }) st (tidies.each s (tidying.Collect (record x { step = st })) at).so_far

  pub collection_steps : (x : Collector) → does s ≡ Some (tidying.Collect x) → CanTidy w.clusters (tidying.Collect x) → Stepped (tidying.Collect x)
  collection_steps x is can = by x.step is can
    where
      login : has_login w.past s ≡ true
      login = (tidies.each s (tidying.Collect x) is).login

      stays : has_left w.past s ≡ false
      stays = (tidies.each s (tidying.Collect x) is).stays

      by : (st : CollectStep) → does s ≡ Some (tidying.Collect (record x { step = st })) → CanTidy w.clusters (tidying.Collect (record x { step = st })) → Stepped (tidying.Collect (record x { step = st }))
      by collect_step.Root at can =
          let z = record x { step = collect_step.Root } in
          collect_with z at (bound_root_to starts says proper gone gone_kept s login stays tidies.numbered tidies.own tidies.order table gone_bounds z can.asks.0.all (gone_may x collect_step.Root at))
      by (collect_step.Node k) at can =
          let z = record x { step = collect_step.Node k } in
          let may = gone_may x (collect_step.Node k) at in
          collect_with z at (node_to starts says proper gone gone_kept s login stays tidies.numbered tidies.own tidies.order table gone_bounds z k can.asks.0.all (can.asks.0.asked k refl) may.0 may.1)
      by collect_step.Settings at can =
          let z = record x { step = collect_step.Settings } in
          let may = gone_may x collect_step.Settings at in
          collect_with z at (settings_to starts says proper gone gone_kept s login stays tidies.numbered tidies.own tidies.order table gone_bounds z may.0 may.1)
      by collect_step.First at can =
          let z = record x { step = collect_step.First } in
          collect_with z at (first_to starts says proper gone gone_kept s login stays tidies.numbered tidies.own tidies.order table gone_bounds z (gone_may x collect_step.First at))
      by collect_step.Next at can =
          let z = record x { step = collect_step.Next } in
          collect_with z at (next_to starts says proper gone gone_kept s login stays tidies.numbered tidies.own tidies.order table gone_bounds z (gone_may x collect_step.Next at))
      by (collect_step.Listed n) at can =
          let z = record x { step = collect_step.Listed n } in
          let may = gone_may x (collect_step.Listed n) at in
          collect_with z at (listed_to starts says proper gone gone_kept s login stays tidies.numbered tidies.own tidies.order table gone_bounds z n may.0 may.1)
      by collect_step.Prune at can = collect_with z at goes
        where
          z : Collector
          z = record x { step = collect_step.Prune }

          op : UpdateOp
          op = prune_op x.bound x.reading

          may : MayCollectAt gone s z collect_step.Prune
          may = gone_may x collect_step.Prune at

          named : x.reading.document.id ≡ id.Node x.reading.at
          named = can.asks.0.at

          goes : CollectGoes (record x { step = collect_step.Prune })
          goes =
              subst (λ (o : Option Document). let y = collecting.fed (record x { step = collect_step.Prune }) (replied o (updated o op (next_number w.table))) in
              CollectsTo starts says gone s y (after_asking gone s (ask.Update op) (tidy_events s (tidying.Collect (record x { step = collect_step.Prune })) (tidying.Collect y))))
              (sym (ap (λ (i : DocId). found w.table i) named))
              (prune_to starts says proper gone gone_kept s login stays tidies.numbered tidies.own tidies.order table gone_bounds z may.0 may.1 named (collects_garbage w.clusters (record x { step = collect_step.Prune }) can) (nodes_in w.table x.reading.at) refl)
      by collect_step.Remove at can =
          let z = record x { step = collect_step.Remove } in
          let may = gone_may x collect_step.Remove at in
          collect_with z at (remove_to starts says proper gone gone_kept s login stays tidies.numbered tidies.own tidies.order table gone_bounds z may.0 may.1 can.asks.0.at (collects_garbage w.clusters z can)
          (removal_of w.table x.reading.document.id x.reading.document.mod_count) refl)
      by (collect_step.RemovePrevious n number) at can =
          let z = record x { step = collect_step.RemovePrevious n number } in
          let may = gone_may x (collect_step.RemovePrevious n number) at in
          collect_with z at (remove_previous_to starts says proper gone gone_kept s login stays tidies.numbered tidies.own tidies.order table gone_bounds z n number may.0 may.1 may.2
          (removal_of w.table (id.Prev n x.reading.at) number) refl)
      by collect_step.Done at can = absurd (can.busy refl)

  -- whatever is due
  pub tidying_steps : (x : Tidying) → does s ≡ Some x → CanTidy w.clusters x → Stepped x
  tidying_steps (tidying.Split x) is can = split_steps x is can
  tidying_steps (tidying.Collect x) is can = collection_steps x is can
