-- A reader is made, is fed, or is taken away; and what it gives.
use Rattle.std.proofs.Common.{◌≡◌, ℕ, Some, None, Option, sym, ap, subst, ◌∙◌, false, List, true}
use Rattle.std.specs.declared.alloc.Global.{Global}
use Rattle.jr_path.specs.declared.path.Path.{Path}
use Rattle.jr_rev.specs.declared.vector.Pin.{Pin}
use Rattle.oak_machine.specs.Commits.{tree_at}
use Rattle.oak_machine.specs.Laws.{Says, Starts, StartsProper, StartsWrite}
use Rattle.oak_machine.specs.Sessions.{is_stopped_under}
use Rattle.oak_changes.specs.declared.changes.Step.TheVariants as observed
use Rattle.oak_changes.specs.Reading.{changes_reader, due as due_changes, fed as fed_changes}
use Rattle.oak_machine.specs.Changed.{changes_between}
use Rattle.oak_read.specs.declared.reader.Reader.{Reader}
use Rattle.oak_read.specs.declared.reader.ReadOut.{ReadOut}
use Rattle.oak_read.specs.declared.reader.Step.TheVariants as step
use Rattle.oak_read.specs.Meaning.{documents_in}
use Rattle.oak_read.specs.Reading.{IsTable, answer, children_reader, due, fed, node_reader}
use Rattle.core_nodes.specs.Nodes.{IsPair, cursor_owner}
use Rattle.core_watch.specs.Standing.{AreChildrenOf, IsNodeOf, path_read}
use Rattle.core_watch.specs.Reading.{ReadsTree}
use Rattle.core_watch.proofs.Fed.{reading_feeds}
use Rattle.core_watch.proofs.Moments.{fed_keeps}
use Rattle.core_watch.proofs.Instants.{begins_children, begins_node, gives_children, gives_node}
use Rattle.core_world.specs.States.{State, with_session, origin}
use Rattle.core_world.specs.Steps.{with_reader, with_observer}
use Rattle.core_world.specs.Kept.{AreReading, AreSessionsKept, has_written, IsAboveBounds, live_base, AreObserving, IsBetweenPins}
use Rattle.core_world.proofs.Committers.{at_others, at_session}
use Rattle.core_world.proofs.Lives.{reader_held, observer_held}
use Rattle.jr_rev.specs.declared.vector.RevVec.{RevVec}
use Rattle.jr_rev.specs.Vectors.{sees}
use Rattle.jr_tree.specs.declared.shared.CommitChanges.{CommitChanges}
use Rattle.oak_changes.specs.declared.changes.ChangesReader.{ChangesReader}
use Rattle.core_changes.specs.Observing.{IsObserving}
use Rattle.core_changes.proofs.Instants.{observing_begins, observing_feeds, observing_gives, reply_keeps}
use Rattle.core_changes.proofs.Written.{are_writing}
use Rattle.std.specs.Prelude.{slice_get}

module _ (starts : Starts) (says : Says) (proper : StartsProper starts) (w : State) (kept : AreSessionsKept starts says w) where
  -- ---- a reader is made

  with_reads : (reading : ℕ → Option Reader) → AreReading (origin w) w.past w.table w.formers reading → ((q : ℕ) (r : Reader) → reading q ≡ Some r → is_stopped_under w.sessions w.past q ≡ false) → AreSessionsKept starts says (record w { reading = reading })
  with_reads reading are on = record { nodes = kept.nodes; run = kept.run; committing = kept.committing; working = record { idle = kept.working.idle; stays = kept.working.stays; goes = kept.working.goes; reads = on; halted = kept.working.halted }; memories = kept.memories; readers = are; observers = kept.observers }

  made : (s : ℕ) (r : Reader) → is_stopped_under w.sessions w.past s ≡ false → live_base w.past s ≡ Some r.pin.base → IsPair r.pin.base r.pin.sweep → IsAboveBounds (origin w) w.past r.pin → ReadsTree (origin w) (documents_in w.table.documents) w.past w.formers r → AreSessionsKept starts says (with_reader w s (Some r))
  made s r on base pair above reads = with_reads (with_session w.reading s (Some r)) (record {
    told = kept.readers.told;
    reads = at_session (λ q y. ReadsTree (origin w) (documents_in w.table.documents) w.past w.formers y) w.reading s r reads (λ q y f h. kept.readers.reads q y h);
    above = at_session (λ q (y : Reader). IsAboveBounds (origin w) w.past y.pin) w.reading s r above (λ q y f h. kept.readers.above q y h);
    at_base = at_session (λ q (y : Reader). live_base w.past q ≡ Some y.pin.base) w.reading s r base (λ q y f h. kept.readers.at_base q y h);
    pairs = at_session (λ q (y : Reader). IsPair y.pin.base y.pin.sweep) w.reading s r pair (λ q y f h. kept.readers.pairs q y h);
  }) (at_session (λ q (y : Reader). is_stopped_under w.sessions w.past q ≡ false) w.reading s r on (λ q y f h. kept.working.reads q y h))

  pub load_keeps : (s : ℕ) (a : Global) (pin : Pin) (p : Path) → is_stopped_under w.sessions w.past s ≡ false → live_base w.past s ≡ Some pin.base → IsPair pin.base pin.sweep → IsAboveBounds (origin w) w.past pin → AreSessionsKept starts says (with_reader w s (Some (node_reader a pin p)))
  load_keeps s a pin p on base pair above = made s (node_reader a pin p) on base pair above (begins_node (origin w) (documents_in w.table.documents) w.past w.formers a pin p)

  pub list_keeps : (s : ℕ) (a : Global) (pin : Pin) (p : Path) → is_stopped_under w.sessions w.past s ≡ false → live_base w.past s ≡ Some pin.base → IsPair pin.base pin.sweep → IsAboveBounds (origin w) w.past pin → AreSessionsKept starts says (with_reader w s (Some (children_reader a pin p)))
  list_keeps s a pin p on base pair above = made s (children_reader a pin p) on base pair above (begins_children (origin w) (documents_in w.table.documents) w.past w.formers a pin p)

  -- ---- it is taken away

  pub gone_keeps : (s : ℕ) → AreSessionsKept starts says (with_reader w s None)
  gone_keeps s = with_reads (with_session w.reading s None) (record {
    told = kept.readers.told;
    reads = at_others (λ q y. ReadsTree (origin w) (documents_in w.table.documents) w.past w.formers y) w.reading s (λ q y f h. kept.readers.reads q y h);
    above = at_others (λ q (y : Reader). IsAboveBounds (origin w) w.past y.pin) w.reading s (λ q y f h. kept.readers.above q y h);
    at_base = at_others (λ q (y : Reader). live_base w.past q ≡ Some y.pin.base) w.reading s (λ q y f h. kept.readers.at_base q y h);
    pairs = at_others (λ q (y : Reader). IsPair y.pin.base y.pin.sweep) w.reading s (λ q y f h. kept.readers.pairs q y h);
  }) (at_others (λ q (y : Reader). is_stopped_under w.sessions w.past q ≡ false) w.reading s (λ q y f h. kept.working.reads q y h))

  -- ---- it is fed, and gives what the tree has

  module _ (s : ℕ) (r : Reader) (here : w.reading s ≡ Some r) where
    pub read_keeps : IsTable w.table.documents → AreSessionsKept starts says (with_reader w s (Some (fed r (answer w.table.documents (due r)))))
    read_keeps table =
        let x = answer w.table.documents (due r) in
        with_reads (with_session w.reading s (Some (fed r x))) (record {
          told = kept.readers.told;
          reads = at_session (λ q y. ReadsTree (origin w) (documents_in w.table.documents) w.past w.formers y) w.reading s (fed r x)
              (reading_feeds (origin w) w.table.documents w.past w.formers (λ r. has_written (kept.committing.writers r)) r table kept.committing.kept (reader_held starts says proper w kept s r here) kept.readers.told (kept.readers.reads s r here))
              (λ q y f h. kept.readers.reads q y h);
          above = at_session (λ q (y : Reader). IsAboveBounds (origin w) w.past y.pin) w.reading s (fed r x) (subst (λ (p : Pin). IsAboveBounds (origin w) w.past p) (sym (fed_keeps r x).same_pin) (kept.readers.above s r here)) (λ q y f h. kept.readers.above q y h);
          at_base = at_session (λ q (y : Reader). live_base w.past q ≡ Some y.pin.base) w.reading s (fed r x) (kept.readers.at_base s r here ∙ ap (λ (p : Pin). Some p.base) (sym (fed_keeps r x).same_pin)) (λ q y f h. kept.readers.at_base q y h);
          pairs = at_session (λ q (y : Reader). IsPair y.pin.base y.pin.sweep) w.reading s (fed r x) (subst (λ (p : Pin). IsPair p.base p.sweep) (sym (fed_keeps r x).same_pin) (kept.readers.pairs s r here)) (λ q y f h. kept.readers.pairs q y h);
        }) (at_session (λ q (y : Reader). is_stopped_under w.sessions w.past q ≡ false) w.reading s (fed r x) (kept.working.reads s r here) (λ q y f h. kept.working.reads q y h))

    pub node_given : (o : ReadOut) → r.parent ≡ None → r.step ≡ step.Done o → IsNodeOf (tree_at w.begin w.past r.pin.base) (path_read r) o
    node_given o kind ends = gives_node (origin w) (documents_in w.table.documents) w.past w.formers r o (kept.readers.reads s r here) kind ends

    pub children_given : (p : Path) (o : ReadOut) → r.parent ≡ Some p → r.step ≡ step.Done o → AreChildrenOf (tree_at w.begin w.past r.pin.base) p o
    children_given p o kind ends = gives_children (origin w) (documents_in w.table.documents) w.past w.formers r p o (kept.readers.reads s r here) kind ends

-- ---- readers of changes

module _ (starts : Starts) (says : Says) (proper : StartsProper starts) (w : State) (kept : AreSessionsKept starts says w) where
  with_observes : (observing : ℕ → Option ChangesReader) → AreObserving (origin w) w.sessions w.past w.table w.formers observing → AreSessionsKept starts says (record w { observing = observing })
  with_observes observing are = record { nodes = kept.nodes; run = kept.run; committing = kept.committing; working = kept.working; memories = kept.memories; readers = kept.readers; observers = are }

  set : (s : ℕ) (r : ChangesReader) → is_stopped_under w.sessions w.past s ≡ false → slice_get w.sessions (cursor_owner s) ≡ None → IsBetweenPins (origin w) w.past s r → IsObserving (origin w) (documents_in w.table.documents) w.past w.formers r → AreSessionsKept starts says (with_observer w s (Some r))
  set s r on few between tells = with_observes (with_session w.observing s (Some r)) (record {
    goes = at_session (λ q (y : ChangesReader). is_stopped_under w.sessions w.past q ≡ false) w.observing s r on (λ q y f h. kept.observers.goes q y h);
    apart = at_session (λ q (y : ChangesReader). slice_get w.sessions (cursor_owner q) ≡ None) w.observing s r few (λ q y f h. kept.observers.apart q y h);
    between = at_session (λ q (y : ChangesReader). IsBetweenPins (origin w) w.past q y) w.observing s r between (λ q y f h. kept.observers.between q y h);
    tells = at_session (λ q (y : ChangesReader). IsObserving (origin w) (documents_in w.table.documents) w.past w.formers y) w.observing s r tells (λ q y f h. kept.observers.tells q y h);
  })

  -- one begins
  pub notice_keeps : (s : ℕ) (a : Global) (from : RevVec) (pin : Pin) → is_stopped_under w.sessions w.past s ≡ false → slice_get w.sessions (cursor_owner s) ≡ None → IsBetweenPins (origin w) w.past s (changes_reader a from pin) → AreSessionsKept starts says (with_observer w s (Some (changes_reader a from pin)))
  notice_keeps s a from pin on few between = set s (changes_reader a from pin) on few between (observing_begins (origin w) (documents_in w.table.documents) w.past w.formers a from pin)

  -- one is taken away
  pub unnotice_keeps : (s : ℕ) → AreSessionsKept starts says (with_observer w s None)
  unnotice_keeps s = with_observes (with_session w.observing s None) (record {
    goes = at_others (λ q (y : ChangesReader). is_stopped_under w.sessions w.past q ≡ false) w.observing s (λ q y f h. kept.observers.goes q y h);
    apart = at_others (λ q (y : ChangesReader). slice_get w.sessions (cursor_owner q) ≡ None) w.observing s (λ q y f h. kept.observers.apart q y h);
    between = at_others (λ q (y : ChangesReader). IsBetweenPins (origin w) w.past q y) w.observing s (λ q y f h. kept.observers.between q y h);
    tells = at_others (λ q (y : ChangesReader). IsObserving (origin w) (documents_in w.table.documents) w.past w.formers y) w.observing s (λ q y f h. kept.observers.tells q y h);
  })

  -- one is fed, and gives what commits changed

  module _ (s : ℕ) (r : ChangesReader) (here : w.observing s ≡ Some r) where
    same_between : (q : ChangesReader) → q.from ≡ r.from → q.pin ≡ r.pin → IsBetweenPins (origin w) w.past s r → IsBetweenPins (origin w) w.past s q
    same_between q from pin is = record {
      cursor = is.cursor ∙ ap (λ v. Some v) (sym from);
      own = is.own ∙ ap (λ (p : Pin). Some p.base) (sym pin);
      pair = subst (λ (p : Pin). IsPair p.base p.sweep) (sym pin) is.pair;
      above = subst (λ (p : Pin). IsAboveBounds (origin w) w.past p) (sym pin) is.above;
      above_cursor = λ o h. subst (λ (v : RevVec). sees v o ≡ true) (sym from) (is.above_cursor o h);
    }

    pub feed_keeps : StartsWrite starts → IsTable w.table.documents → AreSessionsKept starts says (with_observer w s (Some (fed_changes r (answer w.table.documents (due_changes r)))))
    feed_keeps writes table =
        let x = answer w.table.documents (due_changes r) in
        let same = reply_keeps r x in
        set s (fed_changes r x) (kept.observers.goes s r here) (kept.observers.apart s r here) (same_between (fed_changes r x) same.0 same.1 (kept.observers.between s r here))
        (observing_feeds (origin w) w.table.documents w.past w.formers (λ q. has_written (kept.committing.writers q)) r table kept.committing.kept (observer_held starts says proper w kept s r here) kept.readers.told
        (are_writing starts says w.clusters w.sessions w.begin writes kept.nodes proper w.past kept.run r.from r.pin.base) (kept.observers.tells s r here))

    pub changes_given : (o : List CommitChanges) → r.step ≡ observed.Done o → o ≡ changes_between w.begin w.past r.from r.pin.base
    changes_given o ends = observing_gives (origin w) (documents_in w.table.documents) w.past w.formers r o (kept.observers.tells s r here) ends
