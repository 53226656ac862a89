-- What each world may count on, and the steps that touch no document.
use Rattle.std.proofs.Common.{◌≡◌, ℕ, Bool, true, false, cond, not, ◌||◌, Some, None, Option, ◌∷◌, is_some, refl, sym, ap, ◌∙◌}
use Rattle.std.specs.Prelude.{◌==◌, slice_get}
use Rattle.std.specs.Option.{option_map_or}
use mathlib.Core.Bool.{false≢true}
use Rattle.jr_path.specs.Lists.{Text}
use Rattle.oak_machine.specs.declared.event.Event.{Event}
use Rattle.oak_machine.specs.declared.event.Event.TheVariants as event
use Rattle.oak_machine.specs.declared.event.StepKind.{StepKind}
use Rattle.oak_machine.specs.declared.event.StepKind.TheVariants as kind
use Rattle.oak_machine.specs.Heads.{head_of}
use Rattle.oak_machine.specs.Laws.{Says, Starts, StartsProper}
use Rattle.oak_machine.specs.Runs.{IsNode, IsRunOf, MayFollow, is_task_end}
use Rattle.oak_machine.specs.Sessions.{has_left, has_login, is_end_of_session, is_recovered, is_stopped, is_stopped_under, next_index, is_stop_of}
use Rattle.oak_machine.specs.Steps.{is_kind}
use Rattle.oak_read.specs.declared.reader.Reader.{Reader}
use Rattle.jr_rev.specs.declared.revision.Revision.{Revision}
use Rattle.oak_machine.specs.Commits.{is_commit_of}
use Rattle.jr_rev.specs.declared.vector.Pin.{Pin}
use Rattle.oak_node.specs.Pins.{pin_of}
use Rattle.core_heads.proofs.Runs.{held_in_use, sound_run}
use Rattle.core_clash.specs.Sessions.{Running}
use Rattle.core_nodes.specs.Nodes.{cursor_owner, moved_pin}
use Rattle.core_world.specs.States.{State, history_in, memory_of, node_of, origin}
use Rattle.core_world.specs.Steps.{after_leave, after_login, after_observe, after_refresh, after_said, after_task_end, after_went}
use Rattle.core_world.specs.Kept.{AreReading, AreSessionsKept, has_written, AreCommitting, AreObserving}
use Rattle.core_world.proofs.Letting.{is_bound, lets_calm}
use Rattle.core_world.proofs.Finishing.{quiet_commits}
use Rattle.core_nodes.proofs.Pasts.{running_alive}
use Rattle.core_world.proofs.Flights.{same_number, still_idle, was_drawing, work_quiet}
use Rattle.core_world.proofs.Logged.{login_node, some_number}
use Rattle.core_world.proofs.Memories.{aside, leave_memories, login_memories, observe_memories, refresh_memories}
use Rattle.core_world.proofs.Readers.{pin_reads, live_is, moved_base, moves_base_of, pair_held, quiet_reads, based_is}
use Rattle.oak_changes.specs.declared.changes.ChangesReader.{ChangesReader}
use Rattle.core_changes.specs.Instants.{AreHeld}
use Rattle.core_world.proofs.Observers.{between_are_held, event_observes, moves_apart, moves_none, moves_pin_of}
use Rattle.core_begun.specs.Kept.{IsHeldSince as IsHeldPair}
use Rattle.core_begun.proofs.Runs.{told_run}
use Rattle.core_begun.specs.Told.{IsToldSince, IsInUseSince}
use Rattle.core_read.specs.Told.{IsInUse}

pub chosen_false : (b c : Bool) → c ≡ false → cond b false c ≡ false
chosen_false true c h = refl
chosen_false false c h = h

-- a step of a kind other than End is no session's end
pub goes_not : (s : ℕ) (k : StepKind) → is_kind k kind.End ≡ false → (q : ℕ) → is_end_of_session q (event.Went s k) ≡ false
goes_not s kind.End h q = absurd (false≢true (sym h))
goes_not s k h q = refl

pub moves_no_pin : (s : ℕ) (k : StepKind) → is_kind k kind.End ≡ false → is_kind k kind.Pin ≡ false → moved_pin (event.Went s k) ≡ None
moves_no_pin s kind.End h i = absurd (false≢true (sym h))
moves_no_pin s kind.Pin h i = absurd (false≢true (sym i))
moves_no_pin s k h i = refl

module _ (starts : Starts) (says : Says) (proper : StartsProper starts) (w : State) (kept : AreSessionsKept starts says w) where
  pub told : IsToldSince (origin w) w.past
  told = told_run starts says proper w.clusters w.sessions kept.nodes w.begin w.past kept.run

  -- a session that is there, on its node
  module _ (s : ℕ) (there : is_some (slice_get w.sessions s) ≡ true) where
    pub on_node : slice_get w.sessions s ≡ Some (node_of w s)
    on_node = some_number (slice_get w.sessions s) there

    pub its_node : IsNode w.clusters (node_of w s)
    its_node = kept.nodes.node s (node_of w s) on_node

    -- the node of a session that wasn't stopped wasn't, nor was it recovered
    pub node_goes : is_stopped_under w.sessions w.past s ≡ false → is_stopped w.past (node_of w s) ≡ false
    node_goes on = sym (ap (λ o. option_map_or (is_stopped w.past) o false) on_node) ∙ on

    pub node_alive : is_stopped_under w.sessions w.past s ≡ false → is_recovered w.past (node_of w s) ≡ false
    node_alive on = running_alive w.begin starts says w.clusters w.sessions w.past kept.run (node_of w s) (node_goes on)

    pub its_head : (memory_of w s).head ≡ head_of w.clusters w.begin w.past (node_of w s)
    its_head = (kept.memories.memory (node_of w s) its_node).head

  pub session_there : (s : ℕ) → has_login w.past s ≡ true → is_some (slice_get w.sessions s) ≡ true
  session_there s login = login_node starts says w.clusters w.sessions w.begin w.past s kept.run login

  -- who reads has logged in and hasn't left
  pub reader_login : (s : ℕ) (r : Reader) → w.reading s ≡ Some r → has_login w.past s ≡ true
  reader_login s r h = (live_is w.past s r.pin.base (kept.readers.at_base s r h)).login

  -- the base of whoever reads is in use, and its pair is held
  pub reader_in_use : (s : ℕ) (r : Reader) → w.reading s ≡ Some r → IsInUse w.past r.pin.base
  reader_in_use s r h = held_in_use w.begin w.past r.pin.base ((sound_run w.clusters w.sessions kept.nodes w.begin starts says w.past kept.run).bases s r.pin.base (live_is w.past s r.pin.base (kept.readers.at_base s r h)).base)

  pub reader_held : (s : ℕ) (r : Reader) → w.reading s ≡ Some r → IsHeldPair (origin w) w.past r.pin.base r.pin.sweep
  reader_held s r h = pair_held (origin w) w.past r.pin (reader_in_use s r h) (kept.readers.pairs s r h) (kept.readers.above s r h)

  -- readers after an event that is no Commit and no Bound, where no document is changed
  pub reads_calm : (e : Event) → ((q : Revision) → is_commit_of q e ≡ false) → is_bound e ≡ false → ((s : ℕ) (r : Reader) → w.reading s ≡ Some r → moves_base_of s e ≡ false) → AreReading (origin w) (e ∷ w.past) w.table w.formers w.reading
  reads_calm = quiet_reads (origin w) w.past w.table w.formers w.reading kept.readers reader_held (λ r. has_written (kept.committing.writers r)) kept.committing.kept

  pub reads_pinned : (e : Event) (s : ℕ) → ((q : Revision) → is_commit_of q e ≡ false) → is_bound e ≡ false → moved_base e ≡ Some s → w.reading s ≡ None → AreReading (origin w) (e ∷ w.past) w.table w.formers w.reading
  reads_pinned = pin_reads (origin w) w.past w.table w.formers w.reading kept.readers reader_held (λ r. has_written (kept.committing.writers r)) kept.committing.kept

  -- readers of changes after an event that moves none of their pins, where no document is changed
  pub observes_calm : (e : Event) → IsRunOf starts says w.clusters w.sessions w.begin (e ∷ w.past) → ((k : ℕ) → is_stop_of k e ≡ false) → ((q : Revision) → is_commit_of q e ≡ false) → is_bound e ≡ false
      → ((s : ℕ) (r : ChangesReader) → w.observing s ≡ Some r → moves_pin_of s e ≡ false) → (running : ℕ → Option Running) → AreCommitting (origin w) (e ∷ w.past) w.table running → AreObserving (origin w) w.sessions (e ∷ w.past) w.table w.formers w.observing
  observes_calm e run on calm unbound stays running committing = event_observes starts says w.clusters w.sessions w.begin kept.nodes proper w.past e run w.table w.table w.formers w.observing kept.observers on stays
      (λ r. has_written (committing.writers r)) committing.kept (lets_calm (origin w) w.table w.past (λ r. has_written (kept.committing.writers r)) kept.committing.kept e calm unbound)

  -- who reads changes has logged in and hasn't left
  pub observer_login : (s : ℕ) (r : ChangesReader) → w.observing s ≡ Some r → has_login w.past s ≡ true
  observer_login s r h = (based_is w.past s r.pin.base (kept.observers.between s r h).own).login

  pub observer_held : (s : ℕ) (r : ChangesReader) → w.observing s ≡ Some r → AreHeld (origin w) w.past r.from r.pin
  observer_held s r h = between_are_held starts says w.clusters w.sessions w.begin kept.nodes w.past kept.run s r (kept.observers.between s r h)

  pub no_observer : (s : ℕ) → has_login w.past s ≡ false → w.observing s ≡ None
  no_observer s new = by (w.observing s) refl
    where
      by : (o : Option ChangesReader) → w.observing s ≡ o → o ≡ None
      by None h = refl
      by (Some r) h = absurd (false≢true (sym new ∙ observer_login s r h))

  pub no_reader : (s : ℕ) → has_login w.past s ≡ false → w.reading s ≡ None
  no_reader s new = by (w.reading s) refl
    where
      by : (o : Option Reader) → w.reading s ≡ o → o ≡ None
      by None h = refl
      by (Some r) h = absurd (false≢true (sym new ∙ reader_login s r h))

  -- ---- login and refresh

  pub login_keeps : (s : ℕ) → is_stopped_under w.sessions w.past s ≡ false → is_some (slice_get w.sessions s) ≡ true → has_login w.past s ≡ false → AreSessionsKept starts says (after_login w s)
  login_keeps s on there first =
      let e : Event = event.Login s (memory_of w s).head in
      let run : IsRunOf starts says w.clusters w.sessions w.begin (e ∷ w.past) = (record { running = on; first = first; head = (node_of w s, on_node s there, its_head s there) }, kept.run) in
      record {
        nodes = kept.nodes;
        run = run;
        committing = quiet_commits (origin w) w.past w.table w.running kept.committing told e refl (λ k. refl);
        working = work_quiet w.sessions w.past w.running w.reading kept.working e refl (λ q. refl) (λ k. refl);
        memories = login_memories starts says w.clusters w.sessions w.begin kept.nodes w.past w.memories kept.memories s (node_of w s) (on_node s there) (memory_of w s).head run;
        readers = reads_pinned e s (λ q. refl) refl refl (no_reader s first);
        observers = observes_calm e run (λ k. refl) (λ q. refl) refl (moves_apart w.observing s (no_observer s first) e refl) w.running (quiet_commits (origin w) w.past w.table w.running kept.committing told e refl (λ k. refl));
      }

  pub refresh_keeps : (s : ℕ) → is_stopped_under w.sessions w.past s ≡ false → has_login w.past s ≡ true → has_left w.past s ≡ false → w.running s ≡ None → w.reading s ≡ None → w.observing s ≡ None → AreSessionsKept starts says (after_refresh w s)
  refresh_keeps s on login stays none unread unobserved =
      let e : Event = event.Refresh s (memory_of w s).head in
      let there = session_there s login in
      let run : IsRunOf starts says w.clusters w.sessions w.begin (e ∷ w.past) = (record { running = on; login = login; idle = kept.working.idle s none on; head = (node_of w s, on_node s there, its_head s there) }, kept.run) in
      record {
        nodes = kept.nodes;
        run = run;
        committing = quiet_commits (origin w) w.past w.table w.running kept.committing told e refl (λ k. refl);
        working = work_quiet w.sessions w.past w.running w.reading kept.working e refl (λ q. refl) (λ k. refl);
        memories = refresh_memories starts says w.clusters w.sessions w.begin kept.nodes w.past w.memories kept.memories s (node_of w s) (on_node s there) (memory_of w s).head run stays;
        readers = reads_pinned e s (λ q. refl) refl refl unread;
        observers = observes_calm e run (λ k. refl) (λ q. refl) refl (moves_apart w.observing s unobserved e refl) w.running (quiet_commits (origin w) w.past w.table w.running kept.committing told e refl (λ k. refl));
      }

  -- ---- the end of a session, replies, and other steps

  -- a session at work is another than one that isn't
  apart_working : (s : ℕ) → w.running s ≡ None → (q : ℕ) (x : Running) → w.running q ≡ Some x → (s == q) ≡ false
  apart_working s none q x h = by (s == q) refl
    where
      by : (b : Bool) → (s == q) ≡ b → b ≡ false
      by false e = refl
      by true e = absurd (false≢true (ap (λ (o : Option Running). is_some o) (sym none ∙ (ap w.running (same_number s q e) ∙ h))))

  -- a session of a stopped node is another than one that goes on
  apart_stopped : (s : ℕ) → is_stopped_under w.sessions w.past s ≡ false → (q : ℕ) → is_stopped_under w.sessions w.past q ≡ true → (s == q) ≡ false
  apart_stopped s on q stopped = by (s == q) refl
    where
      by : (b : Bool) → (s == q) ≡ b → b ≡ false
      by false e = refl
      by true e = absurd (false≢true (sym on ∙ (ap (is_stopped_under w.sessions w.past) (same_number s q e) ∙ stopped)))

  pub leave_keeps : (s : ℕ) → is_stopped_under w.sessions w.past s ≡ false → slice_get w.sessions (cursor_owner s) ≡ None → has_login w.past s ≡ true → has_left w.past s ≡ false → w.running s ≡ None → w.reading s ≡ None → w.observing s ≡ None → AreSessionsKept starts says (after_leave w s)
  leave_keeps s on few login stays none unread unobserved =
      let e : Event = event.Went s kind.End in
      let there = session_there s login in
      let run : IsRunOf starts says w.clusters w.sessions w.begin (e ∷ w.past) = ((login, stays), kept.run) in
      record {
        nodes = kept.nodes;
        run = run;
        committing = quiet_commits (origin w) w.past w.table w.running kept.committing told e refl (λ k. refl);
        working = record {
          idle = λ q h goes. still_idle e w.past q refl (kept.working.idle q h goes);
          stays = λ q x h. ap (λ b. b || has_left w.past q) (apart_working s none q x h) ∙ kept.working.stays q x h;
          goes = kept.working.goes;
          reads = kept.working.reads;
          halted = λ q stopped drawing. ap (λ b. b || has_left w.past q) (apart_stopped s on q stopped) ∙ kept.working.halted q stopped (was_drawing e w.past q refl drawing);
        };
        memories = leave_memories starts says w.clusters w.sessions w.begin kept.nodes w.past w.memories kept.memories s (node_of w s) (on_node s there) few run;
        readers = reads_pinned e s (λ q. refl) refl refl unread;
        observers = observes_calm e run (λ k. refl) (λ q. refl) refl (moves_apart w.observing s unobserved e refl) w.running (quiet_commits (origin w) w.past w.table w.running kept.committing told e refl (λ k. refl));
      }

  pub observe_keeps : (s : ℕ) → slice_get w.sessions (cursor_owner s) ≡ None → has_login w.past s ≡ true → has_left w.past s ≡ false → w.reading s ≡ None → w.observing s ≡ None → (pin : Pin) → pin_of (memory_of w s) s ≡ Some pin → AreSessionsKept starts says (after_observe w s pin)
  observe_keeps s few login stays unread unobserved pin has =
      let e : Event = event.Went s kind.Pin in
      let there = session_there s login in
      let run : IsRunOf starts says w.clusters w.sessions w.begin (e ∷ w.past) = ((login, stays), kept.run) in
      record {
        nodes = kept.nodes;
        run = run;
        committing = quiet_commits (origin w) w.past w.table w.running kept.committing told e refl (λ k. refl);
        working = work_quiet w.sessions w.past w.running w.reading kept.working e refl (λ q. refl) (λ k. refl);
        memories = observe_memories starts says w.clusters w.sessions w.begin kept.nodes w.past w.memories kept.memories s (node_of w s) (on_node s there) few pin has run;
        readers = reads_pinned e s (λ q. refl) refl refl unread;
        observers = observes_calm e run (λ k. refl) (λ q. refl) refl (moves_apart w.observing s unobserved e refl) w.running (quiet_commits (origin w) w.past w.table w.running kept.committing told e refl (λ k. refl));
      }

  pub said_keeps : (s i : ℕ) (text : Text) → i ≡ next_index w.past s → says (history_in w) s i text → AreSessionsKept starts says (after_said w s i text)
  said_keeps s i text next lawful =
      let e : Event = event.Said s i text in
      let run : IsRunOf starts says w.clusters w.sessions w.begin (e ∷ w.past) = ((next, lawful), kept.run) in
      record {
        nodes = kept.nodes;
        run = run;
        committing = quiet_commits (origin w) w.past w.table w.running kept.committing told e refl (λ k. refl);
        working = work_quiet w.sessions w.past w.running w.reading kept.working e refl (λ q. refl) (λ k. refl);
        memories = aside starts says w.clusters w.sessions w.begin kept.nodes w.past w.memories kept.memories e run (λ j. refl) (λ j. refl);
        readers = reads_calm e (λ q. refl) refl (λ q r h. refl);
        observers = observes_calm e run (λ k. refl) (λ q. refl) refl (λ q r h. refl) w.running (quiet_commits (origin w) w.past w.table w.running kept.committing told e refl (λ k. refl));
      }

  -- how a split or a collection of s ended
  pub task_end_keeps : (s : ℕ) (e : Event) → is_task_end s e ≡ true → MayFollow starts says (history_in w) e → AreSessionsKept starts says (after_task_end w e)
  task_end_keeps s (event.Split t path end) own may =
      let e : Event = event.Split t path end in
      let run : IsRunOf starts says w.clusters w.sessions w.begin (e ∷ w.past) = (may, kept.run) in
      record {
        nodes = kept.nodes;
        run = run;
        committing = quiet_commits (origin w) w.past w.table w.running kept.committing told e refl (λ k. refl);
        working = work_quiet w.sessions w.past w.running w.reading kept.working e refl (λ q. refl) (λ k. refl);
        memories = aside starts says w.clusters w.sessions w.begin kept.nodes w.past w.memories kept.memories e run (λ j. refl) (λ j. refl);
        readers = reads_calm e (λ q. refl) refl (λ q r h. refl);
        observers = observes_calm e run (λ k. refl) (λ q. refl) refl (λ q r h. refl) w.running (quiet_commits (origin w) w.past w.table w.running kept.committing told e refl (λ k. refl));
      }
  task_end_keeps s (event.Collected t end) own may =
      let e : Event = event.Collected t end in
      let run : IsRunOf starts says w.clusters w.sessions w.begin (e ∷ w.past) = (may, kept.run) in
      record {
        nodes = kept.nodes;
        run = run;
        committing = quiet_commits (origin w) w.past w.table w.running kept.committing told e refl (λ k. refl);
        working = work_quiet w.sessions w.past w.running w.reading kept.working e refl (λ q. refl) (λ k. refl);
        memories = aside starts says w.clusters w.sessions w.begin kept.nodes w.past w.memories kept.memories e run (λ j. refl) (λ j. refl);
        readers = reads_calm e (λ q. refl) refl (λ q r h. refl);
        observers = observes_calm e run (λ k. refl) (λ q. refl) refl (λ q r h. refl) w.running (quiet_commits (origin w) w.past w.table w.running kept.committing told e refl (λ k. refl));
      }
  task_end_keeps s _ own may = absurd (false≢true own)

  pub went_keeps : (s : ℕ) (k : StepKind) → is_kind k kind.End ≡ false → is_kind k kind.Pin ≡ false → has_login w.past s ≡ true → has_left w.past s ≡ false → AreSessionsKept starts says (after_went w s k)
  went_keeps s k other apart login stays =
      let e : Event = event.Went s k in
      let run : IsRunOf starts says w.clusters w.sessions w.begin (e ∷ w.past) = ((login, stays), kept.run) in
      record {
        nodes = kept.nodes;
        run = run;
        committing = quiet_commits (origin w) w.past w.table w.running kept.committing told e refl (λ k. refl);
        working = work_quiet w.sessions w.past w.running w.reading kept.working e refl (goes_not s k other) (λ j. refl);
        memories = aside starts says w.clusters w.sessions w.begin kept.nodes w.past w.memories kept.memories e run (λ j. refl) (λ j. ap (λ o. option_map_or (λ n. not (Rattle.core_nodes.specs.Nodes.is_of_node w.sessions j n)) o true) (moves_no_pin s k other apart));
        readers = reads_calm e (λ q. refl) refl (λ q r h. ap (λ o. option_map_or (λ n. n == q) o false) (moves_no_pin s k other apart));
        observers = observes_calm e run (λ k. refl) (λ q. refl) refl (λ q r h. moves_none e (moves_no_pin s k other apart) q) w.running (quiet_commits (origin w) w.past w.table w.running kept.committing told e refl (λ k. refl));
      }
