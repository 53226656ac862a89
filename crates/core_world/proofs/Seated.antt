-- Each reader reads at the pin of its session, after each step.
use Rattle.std.proofs.Common.{◌≡◌, ℕ, Bool, true, false, cond, Some, None, Option, List, ◌∷◌, is_some, refl, sym, ap, ◌∙◌, subst}
use Rattle.std.specs.Prelude.{◌≤◌, Err, Ok, Result, slice_get, ◌==◌}
use Rattle.std.specs.BTreeMap.{insert_entry, is_at}
use Rattle.std.specs.Map.{lookup, remove_entry}
use Rattle.std.specs.Option.{option_and_then, option_map_or, unwrap_or}
use Rattle.std.specs.Ordering.{nat_cmp}
use mathlib.Core.Bool.{false≢true}
use Rattle.jr_path.specs.Names.{name_cmp}
use Rattle.jr_path.specs.declared.path.DocId.TheVariants as id
use Rattle.jr_path.specs.declared.path.Path.{Path}
use Rattle.jr_path.specs.Lists.{Text}
use Rattle.jr_rev.specs.declared.vector.Pin.{Pin}
use Rattle.oak_clash.specs.Clashes.{commit_root}
use Rattle.oak_doc.specs.declared.document.Document.{Document}
use Rattle.oak_doc.specs.declared.update.Change.{Change}
use Rattle.oak_doc.specs.declared.update.Change.TheVariants as change
use Rattle.oak_doc.specs.declared.update.OpFault.{OpFault}
use Rattle.oak_doc.specs.declared.update.OpFault.TheVariants as fault
use Rattle.oak_doc.specs.declared.update.Kept.TheVariants as kept_as
use Rattle.oak_doc.specs.Updates.{after_changes, updated}
use Rattle.oak_machine.specs.declared.event.Event.TheVariants as event
use Rattle.oak_machine.specs.declared.event.StepKind.TheVariants as kind
use Rattle.oak_machine.specs.History.{Past}
use Rattle.oak_machine.specs.Laws.{Says, Starts, StartsProper}
use Rattle.oak_machine.specs.Sessions.{is_attached, kept_checkpoint}
use Rattle.oak_commit.specs.Clashing.{Met, mark_op}
use Rattle.oak_commit.specs.Writing.{last_op}
use Rattle.oak_node.specs.Heads.{finished, with_draw}
use Rattle.oak_node.specs.Memory.{NodeState, own_entry}
use Rattle.oak_node.specs.Pins.{pin_now, pin_of, with_pin}
use Rattle.oak_read.specs.declared.reader.Reader.{Reader}
use Rattle.oak_read.specs.Reading.{answer, due, fed}
use Rattle.oak_store.specs.Tables.{Table, next_number}
use Rattle.core_clash.specs.Core.{root_of}
use Rattle.core_clash.specs.Sessions.{Running}
use Rattle.core_nodes.specs.Nodes.{base_of_pin, cursor_owner, without_session}
use Rattle.core_nodes.proofs.Pins.{lookup_beside, lookup_left}
use Rattle.core_watch.proofs.Moments.{fed_keeps}
use Rattle.core_world.specs.Kept.{AreLayersKept, IsPinned}
use Rattle.core_world.specs.States.{State, actor_pin, memory_at, memory_of, node_of, nodes_in, reader_pin, origin}
use Rattle.core_world.specs.Steps.{after_attach, after_checkpoint, after_detach, after_finish, after_last, after_mark, after_notes, after_release, after_unfound, after_update, lasted_by, marked_by, memories_with, pinned as pinned_now, setting_op, with_reader, with_result, with_observer}
use Rattle.core_world.proofs.Checkpoints.{settings_there}
use Rattle.core_world.proofs.Committers.{at_others, at_session}
use Rattle.core_world.proofs.Flights.{same_number}
use Rattle.core_world.proofs.Held.{noted}
use Rattle.core_world.proofs.Lives.{its_node, reader_held, reader_login, session_there, observer_login}
use Rattle.core_world.proofs.Memories.{at_memory}
use Rattle.core_world.proofs.Readers.{apart_from}
use Rattle.core_world.proofs.Setting.{settings_of, update_apart}
use Rattle.oak_changes.specs.declared.changes.ChangesReader.{ChangesReader}
use Rattle.core_world.proofs.Observers.{apart_observing}

module _ (starts : Starts) (says : Says) (proper : StartsProper starts) (w : State) (kept : AreLayersKept starts says w) (pinned : IsPinned w) where
  -- where the pins of sessions that read are the same
  pub same_pinned : (u : State) → u.reading ≡ w.reading → u.observing ≡ w.observing → ((q : ℕ) (r : Reader) → w.reading q ≡ Some r → actor_pin u q ≡ actor_pin w q)
      → ((q : ℕ) (r : ChangesReader) → w.observing q ≡ Some r → pin_of (memory_of u q) q ≡ pin_of (memory_of w q) q) → IsPinned u
  same_pinned u reading observing same own = record {
    reads = λ q r h. let here : w.reading q ≡ Some r = sym (ap (λ (f : ℕ → Option Reader). f q) reading) ∙ h in same q r here ∙ pinned.reads q r here;
    observes = λ q r h. let here : w.observing q ≡ Some r = sym (ap (λ (f : ℕ → Option ChangesReader). f q) observing) ∙ h in own q r here ∙ pinned.observes q r here;
  }

  pub alike : (u : State) (q : ℕ) → is_attached u.past q ≡ is_attached w.past q → reader_pin u.table q ≡ reader_pin w.table q → pin_of (memory_of u q) q ≡ pin_of (memory_of w q) q → actor_pin u q ≡ actor_pin w q
  alike u q attached set pins =
      ap (λ b. cond b (reader_pin u.table q) (pin_of (memory_of u q) q)) attached
      ∙ (ap (λ (o : Option Pin). cond (is_attached w.past q) o (pin_of (memory_of u q) q)) set
      ∙ ap (λ (o : Option Pin). cond (is_attached w.past q) (reader_pin w.table q) o) pins)

  set_pin : (t : Table) → settings_of t ≡ settings_of w.table → (q : ℕ) → reader_pin t q ≡ reader_pin w.table q
  set_pin t same q = ap (λ (o : Option Document). option_and_then (λ d. lookup (is_at (nat_cmp q)) d.readers) o) same

  -- memories and settings are as they were
  pub quiet_pinned : (u : State) → u.reading ≡ w.reading → u.observing ≡ w.observing → u.sessions ≡ w.sessions → u.memories ≡ w.memories → ((q : ℕ) → is_attached u.past q ≡ is_attached w.past q) → settings_of u.table ≡ settings_of w.table → IsPinned u
  quiet_pinned u reading observing sessions memories attached set = same_pinned u reading observing (λ q r h. alike u q (attached q) (set_pin u.table set q) (own q)) (λ q r h. own q)
    where
      own : (q : ℕ) → pin_of (memory_of u q) q ≡ pin_of (memory_of w q) q
      own q = ap (λ ms. pin_of (memory_at ms (unwrap_or (slice_get u.sessions q) 0)) q) memories ∙ ap (λ ss. pin_of (memory_at w.memories (unwrap_or (slice_get ss q) 0)) q) sessions

  there_is : (q : ℕ) (r : Reader) → w.reading q ≡ Some r → is_some (slice_get w.sessions q) ≡ true
  there_is q r h = session_there starts says proper w kept.sessions q (reader_login starts says proper w kept.sessions q r h)

  there_observes : (q : ℕ) (r : ChangesReader) → w.observing q ≡ Some r → is_some (slice_get w.sessions q) ≡ true
  there_observes q r h = session_there starts says proper w kept.sessions q (observer_login starts says proper w kept.sessions q r h)

  apart : (s : ℕ) → w.reading s ≡ None → (q : ℕ) (r : Reader) → w.reading q ≡ Some r → (s == q) ≡ false
  apart s none = apart_from (origin w) w.past w.table w.formers w.reading kept.sessions.readers (reader_held starts says proper w kept.sessions) s none

  -- the memory of a session's node is another
  pub memory_pinned : (s : ℕ) → is_some (slice_get w.sessions s) ≡ true → (m : NodeState) (past : Past) (running : ℕ → Option Running) → ((q : ℕ) (r : Reader) → w.reading q ≡ Some r → is_attached past q ≡ is_attached w.past q)
      → ((q : ℕ) (r : Reader) → w.reading q ≡ Some r → pin_of m q ≡ pin_of (memory_of w s) q) → ((q : ℕ) (r : ChangesReader) → w.observing q ≡ Some r → pin_of m q ≡ pin_of (memory_of w s) q) → IsPinned (record w { past = past; memories = memories_with w s m; running = running })
  memory_pinned s there m past running attached pins owns = same_pinned (record w { past = past; memories = memories_with w s m; running = running }) refl refl
      (λ q r h. alike (record w { past = past; memories = memories_with w s m; running = running }) q (attached q r h) refl (own q (there_is q r h) (pins q r h)))
      (λ q r h. own q (there_observes q r h) (owns q r h))
    where
      own : (q : ℕ) → is_some (slice_get w.sessions q) ≡ true → pin_of m q ≡ pin_of (memory_of w s) q → pin_of (memory_at (memories_with w s m) (node_of w q)) q ≡ pin_of (memory_at w.memories (node_of w q)) q
      own q on same =
          let its = its_node starts says proper w kept.sessions s there in
          at_memory (λ (i : ℕ) (x : NodeState). pin_of x q ≡ pin_of (memory_at w.memories i) q) w.memories (node_of w s) m (node_of w q) its.0 (subst (λ (n : ℕ). node_of w s ≤ n) (sym kept.sessions.memories.counted) its.1)
          (its_node starts says proper w kept.sessions q on).0 same (λ f. refl)

  -- a session that reads nothing is pinned, or leaves
  pub moved_pinned : (s : ℕ) → is_some (slice_get w.sessions s) ≡ true → w.reading s ≡ None → w.observing s ≡ None → (past : Past) → ((q : ℕ) → (s == q) ≡ false → is_attached past q ≡ is_attached w.past q) → IsPinned (record w { past = past; memories = memories_with w s (pinned_now (memory_of w s) s) })
  moved_pinned s there none unobserved past attached = memory_pinned s there (pinned_now (memory_of w s) s) past w.running (λ q r h. attached q (apart s none q r h)) (λ q r h. lookup_beside s (pin_now (memory_of w s)) (memory_of w s).pins q (apart s none q r h))
      (λ q r h. lookup_beside s (pin_now (memory_of w s)) (memory_of w s).pins q (apart_observing w.observing s unobserved q r h))

  cursor_apart : (s : ℕ) → slice_get w.sessions (cursor_owner s) ≡ None → (q : ℕ) → is_some (slice_get w.sessions q) ≡ true → (cursor_owner s == q) ≡ false
  cursor_apart s few q there = by (cursor_owner s == q) refl
    where
      by : (b : Bool) → (cursor_owner s == q) ≡ b → b ≡ false
      by false e = refl
      by true e = absurd (false≢true (ap (λ (o : Option ℕ). is_some o) (sym few ∙ ap (slice_get w.sessions) (same_number (cursor_owner s) q e)) ∙ there))

  pub left_pinned : (s : ℕ) → is_some (slice_get w.sessions s) ≡ true → slice_get w.sessions (cursor_owner s) ≡ None → w.reading s ≡ None → w.observing s ≡ None → IsPinned (record w { past = event.Went s kind.End ∷ w.past; memories = memories_with w s (without_session (memory_of w s) s) })
  left_pinned s there few none unobserved = memory_pinned s there (without_session (memory_of w s) s) (event.Went s kind.End ∷ w.past) w.running (λ q r h. refl)
      (λ q r h. left q (there_is q r h) (apart s none q r h)) (λ q r h. left q (there_observes q r h) (apart_observing w.observing s unobserved q r h))
    where
      left : (q : ℕ) → is_some (slice_get w.sessions q) ≡ true → (s == q) ≡ false → pin_of (without_session (memory_of w s) s) q ≡ pin_of (memory_of w s) q
      left q on other = lookup_left (cursor_owner s) (remove_entry (is_at (nat_cmp s)) (memory_of w s).pins) q (cursor_apart s few q on) ∙ lookup_left s (memory_of w s).pins q other

  pub observed_pinned : (s : ℕ) → is_some (slice_get w.sessions s) ≡ true → slice_get w.sessions (cursor_owner s) ≡ None → (pin : Pin) → IsPinned (record w { past = event.Went s kind.Pin ∷ w.past; memories = memories_with w s (with_pin (memory_of w s) (cursor_owner s) pin) })
  observed_pinned s there few pin = memory_pinned s there (with_pin (memory_of w s) (cursor_owner s) pin) (event.Went s kind.Pin ∷ w.past) w.running (λ q r h. refl)
      (λ q r h. beside q (there_is q r h)) (λ q r h. beside q (there_observes q r h))
    where
      beside : (q : ℕ) → is_some (slice_get w.sessions q) ≡ true → pin_of (with_pin (memory_of w s) (cursor_owner s) pin) q ≡ pin_of (memory_of w s) q
      beside q on = lookup_beside (cursor_owner s) pin (memory_of w s).pins q (cursor_apart s few q on)

  -- ---- readers

  pub loaded_pinned : (s : ℕ) (r : Reader) → actor_pin w s ≡ Some r.pin → IsPinned (with_reader w s (Some r))
  loaded_pinned s r has = record { reads = at_session (λ q (y : Reader). actor_pin w q ≡ Some y.pin) w.reading s r has (λ q y f h. pinned.reads q y h); observes = pinned.observes }

  pub read_pinned : (s : ℕ) (r : Reader) → w.reading s ≡ Some r → IsPinned (with_reader w s (Some (fed r (answer w.table.documents (due r)))))
  read_pinned s r here = loaded_pinned s (fed r (answer w.table.documents (due r))) (pinned.reads s r here ∙ ap (λ (p : Pin). Some p) (sym (fed_keeps r (answer w.table.documents (due r))).same_pin))

  pub gone_pinned : (s : ℕ) → IsPinned (with_reader w s None)
  gone_pinned s = record { reads = at_others (λ q (y : Reader). actor_pin w q ≡ Some y.pin) w.reading s (λ q y f h. pinned.reads q y h); observes = pinned.observes }

  -- ---- readers of changes

  pub noticed_pinned : (s : ℕ) (r : ChangesReader) → pin_of (memory_of w s) s ≡ Some r.pin → IsPinned (with_observer w s (Some r))
  noticed_pinned s r has = record { reads = pinned.reads; observes = at_session (λ q (y : ChangesReader). pin_of (memory_of w q) q ≡ Some y.pin) w.observing s r has (λ q y f h. pinned.observes q y h) }

  pub unnoticed_pinned : (s : ℕ) → IsPinned (with_observer w s None)
  unnoticed_pinned s = record { reads = pinned.reads; observes = at_others (λ q (y : ChangesReader). pin_of (memory_of w q) q ≡ Some y.pin) w.observing s (λ q y f h. pinned.observes q y h) }

  -- ---- commits

  module _ (s : ℕ) (x : Running) where
    marked_pinned : (f : Met) (rest : List Met) (o : Result Document OpFault) → settings_of (with_result w.table (id.Node (root_of w.past f.other)) o) ≡ settings_of w.table → IsPinned (marked_by w s x f rest o)
    marked_pinned f rest (Ok d) h = quiet_pinned (marked_by w s x f rest (Ok d)) refl refl refl refl (λ q. refl) h
    marked_pinned f rest (Err g) h = quiet_pinned (marked_by w s x f rest (Err g)) refl refl refl refl (λ q. refl) refl

    pub mark_pinned : (f : Met) (rest : List Met) → IsPinned (after_mark w s x f rest)
    mark_pinned f rest =
        let op = mark_op (root_of w.past f.other) f.other x.draw.revision f.theirs in
        marked_pinned f rest (updated (nodes_in w.table (root_of w.past f.other)) op (next_number w.table)) (update_apart w.table (root_of w.past f.other) op refl)

    lasted_pinned : (o : Result Document OpFault) → settings_of (with_result w.table (id.Node (commit_root x.draw.marks)) o) ≡ settings_of w.table → IsPinned (lasted_by w s x o)
    lasted_pinned (Ok d) h = quiet_pinned (lasted_by w s x (Ok d)) refl refl refl refl (λ q. refl) h
    lasted_pinned (Err (fault.Unmet c (kept_as.Entry o item))) h = quiet_pinned (lasted_by w s x (Err (fault.Unmet c (kept_as.Entry o item)))) refl refl refl refl (λ q. refl) refl
    lasted_pinned (Err (fault.Unmet c (kept_as.Number n))) h = pinned
    lasted_pinned (Err (fault.Unmet c kept_as.Nothing)) h = pinned
    lasted_pinned (Err fault.Absent) h = pinned
    lasted_pinned (Err fault.Memory) h = pinned

    pub last_pinned : IsPinned (after_last w s x)
    last_pinned =
        let op = last_op x.draw.revision x.draw.marks in
        lasted_pinned (updated (nodes_in w.table (commit_root x.draw.marks)) op (next_number w.table)) (update_apart w.table (commit_root x.draw.marks) op refl)

    pub finish_pinned : is_some (slice_get w.sessions s) ≡ true → IsPinned (after_finish w s x)
    finish_pinned there = memory_pinned s there (finished (memory_of w s) x.draw.revision) (after_finish w s x).past (after_finish w s x).running (λ q r h. by q (Rattle.jr_rev.specs.Revisions.is_before (own_entry (memory_of w s)) (own_entry (finished (memory_of w s) x.draw.revision)))) (λ q r h. refl) (λ q r h. refl)
      where
        by : (q : ℕ) (b : Bool) → is_attached (cond b (event.Head (node_of w s) (finished (memory_of w s) x.draw.revision).head ∷ (event.End x.draw.revision ∷ w.past)) (event.End x.draw.revision ∷ w.past)) q ≡ is_attached w.past q
        by q true = refl
        by q false = refl

  pub drawn_pinned : (s : ℕ) → is_some (slice_get w.sessions s) ≡ true → (r : Rattle.jr_rev.specs.declared.revision.Revision.Revision) (paths : List Path) (past : Past) (running : ℕ → Option Running) → ((q : ℕ) → is_attached past q ≡ is_attached w.past q)
      → IsPinned (record w { past = past; memories = memories_with w s (after_notes r (with_draw (memory_of w s) r) paths); running = running })
  drawn_pinned s there r paths past running attached = memory_pinned s there (after_notes r (with_draw (memory_of w s) r) paths) past running (λ q y h. attached q) (λ q y h. ap (λ (ps : List (ℕ × Pin)). lookup (is_at (nat_cmp q)) ps) (noted r paths (with_draw (memory_of w s) r)).1)
      (λ q y h. ap (λ (ps : List (ℕ × Pin)). lookup (is_at (nat_cmp q)) ps) (noted r paths (with_draw (memory_of w s) r)).1)

  -- ---- the settings

  -- what they keep for sessions that read stays
  settled_pinned : (c : Change) (past : Past) → ((q : ℕ) (r : Reader) → w.reading q ≡ Some r → is_attached past q ≡ is_attached w.past q)
      → ((q : ℕ) (r : Reader) → w.reading q ≡ Some r → lookup (is_at (nat_cmp q)) (after_changes (Some kept.settings.document) (setting_op c) (next_number w.table)).readers ≡ lookup (is_at (nat_cmp q)) kept.settings.document.readers)
      → IsPinned (record w { past = past; table = after_update w.table (setting_op c) })
  settled_pinned c past attached same = same_pinned (record w { past = past; table = after_update w.table (setting_op c) }) refl refl (λ q r h. alike (record w { past = past; table = after_update w.table (setting_op c) }) q (attached q r h)
      (ap (λ (o : Option Document). option_and_then (λ d. lookup (is_at (nat_cmp q)) d.readers) o) (settings_there w.table kept.settings.document kept.settings.there c)
      ∙ (same q r h
      ∙ sym (ap (λ (o : Option Document). option_and_then (λ d. lookup (is_at (nat_cmp q)) d.readers) o) kept.settings.there)))
      refl) (λ q r h. refl)

  pub checkpoint_pinned : (s : ℕ) (i : Text) (pin : Pin) → IsPinned (after_checkpoint w s i pin)
  checkpoint_pinned s i pin = settled_pinned (change.Checkpoint i pin) (after_checkpoint w s i pin).past (λ q r h. refl) (λ q r h. refl)

  pub release_pinned : (i : Text) → IsPinned (after_release w i)
  release_pinned i = settled_pinned (change.Release i) (after_release w i).past (λ q r h. refl) (λ q r h. refl)

  pub release_unfound_pinned : (s : ℕ) (i : Text) → IsPinned (after_unfound w s (change.Release i))
  release_unfound_pinned s i = settled_pinned (change.Release i) (after_unfound w s (change.Release i)).past (λ q r h. refl) (λ q r h. refl)

  pub attach_pinned : (s : ℕ) (i : Text) → w.reading s ≡ None → IsPinned (after_attach w s i)
  attach_pinned s i none = settled_pinned (change.Attach s i) (after_attach w s i).past (λ q r h. ap (λ b. cond b true (is_attached w.past q)) (apart s none q r h)) (λ q r h. by q (apart s none q r h) (lookup (is_at (name_cmp i)) kept.settings.document.checkpoints))
    where
      by : (q : ℕ) → (s == q) ≡ false → (o : Option Pin) → lookup (is_at (nat_cmp q)) (option_map_or (λ pin. insert_entry nat_cmp kept.settings.document.readers s pin) o kept.settings.document.readers) ≡ lookup (is_at (nat_cmp q)) kept.settings.document.readers
      by q f None = refl
      by q f (Some pin) = lookup_beside s pin kept.settings.document.readers q f

  pub attach_unfound_pinned : (s : ℕ) (i : Text) → kept_checkpoint w.past i ≡ None → IsPinned (after_unfound w s (change.Attach s i))
  attach_unfound_pinned s i none = settled_pinned (change.Attach s i) (after_unfound w s (change.Attach s i)).past (λ q r h. refl) (λ q r h. ap (λ (o : Option Pin). lookup (is_at (nat_cmp q)) (option_map_or (λ pin. insert_entry nat_cmp kept.settings.document.readers s pin) o kept.settings.document.readers)) unfound)
    where
      is_missing : (o : Option Pin) → base_of_pin o ≡ None → o ≡ None
      is_missing None h = refl
      is_missing (Some pin) h = absurd (false≢true (sym (ap is_some h)))

      unfound : lookup (is_at (name_cmp i)) kept.settings.document.checkpoints ≡ None
      unfound = is_missing (lookup (is_at (name_cmp i)) kept.settings.document.checkpoints) (kept.settings.checkpoints i ∙ none)

  pub detach_pinned : (s : ℕ) → is_attached w.past s ≡ false → IsPinned (after_detach w s)
  detach_pinned s detached = same_pinned (after_detach w s) refl refl (λ q r h. by q (s == q) refl) (λ q r h. refl)
    where
      aside : (q : ℕ) → is_attached w.past q ≡ false → actor_pin (after_detach w s) q ≡ actor_pin w q
      aside q none = ap (λ b. cond b (reader_pin (after_detach w s).table q) (pin_of (memory_of w q) q)) none ∙ sym (ap (λ b. cond b (reader_pin w.table q) (pin_of (memory_of w q) q)) none)

      by : (q : ℕ) (b : Bool) → (s == q) ≡ b → actor_pin (after_detach w s) q ≡ actor_pin w q
      by q true e = aside q (ap (is_attached w.past) (sym (same_number s q e)) ∙ detached)
      by q false e = alike (after_detach w s) q refl
          (ap (λ (o : Option Document). option_and_then (λ d. lookup (is_at (nat_cmp q)) d.readers) o) (settings_there w.table kept.settings.document kept.settings.there (change.Detach s))
          ∙ (lookup_left s kept.settings.document.readers q e
          ∙ sym (ap (λ (o : Option Document). option_and_then (λ d. lookup (is_at (nat_cmp q)) d.readers) o) kept.settings.there)))
          refl
