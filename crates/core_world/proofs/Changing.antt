-- A step that changes documents of nodes and previous ones, without a commit, keeps the world where the committers stay sound and readers read on.
use Rattle.std.proofs.Common.{◌≡◌, ℕ, true, false, not, None, [], ◌∷◌, refl, ap, ◌∙◌}
use Rattle.std.specs.Option.{option_map_or}
use Rattle.std.specs.Prelude.{◌==◌}
use Rattle.jr_path.specs.declared.path.DocId.TheVariants as id
use Rattle.jr_rev.specs.declared.vector.Pin.{Pin}
use Rattle.oak_machine.specs.declared.event.Event.{Event}
use Rattle.oak_machine.specs.declared.event.Event.TheVariants as event
use Rattle.oak_machine.specs.declared.event.StepKind.{StepKind}
use Rattle.oak_machine.specs.declared.event.StepKind.TheVariants as kind
use Rattle.oak_machine.specs.Steps.{is_kind}
use Rattle.oak_machine.specs.Laws.{Says, Starts, StartsProper}
use Rattle.oak_machine.specs.Runs.{IsRunOf}
use Rattle.oak_machine.specs.Sessions.{has_left, has_login}
use Rattle.oak_read.specs.Meaning.{documents_in}
use Rattle.oak_store.specs.Tables.{Table}
use Rattle.core_clash.specs.Sound.{Sound}
use Rattle.core_keep.specs.Holding.{IsHoldingStep}
use Rattle.core_nodes.specs.Nodes.{is_of_node}
use Rattle.core_keep.specs.Formers.{AreFormers, Formers, FormersGrow}
use Rattle.core_watch.specs.Reading.{ReadsOn}
use Rattle.core_watch.proofs.GoingOn.{on_event}
use Rattle.core_watch.proofs.Lasting.{reading_lasts}
use Rattle.core_watch.proofs.StayingOn.{formers_event}
use Rattle.core_world.specs.Collecting.{after_change}
use Rattle.core_world.specs.Held.{holding_in}
use Rattle.core_world.specs.Kept.{AreCommitting, AreLayersKept, AreReading, IsRootKept, has_written, AreObserving}
use Rattle.core_world.specs.States.{State, core_in, origin}
use Rattle.core_world.proofs.Finishing.{quiet_commits}
use Rattle.core_world.proofs.Flights.{work_quiet}
use Rattle.core_world.proofs.Held.{all_still, holding, same_kept}
use Rattle.core_world.proofs.Lives.{goes_not, moves_no_pin, reader_held, told}
use Rattle.core_world.proofs.Memories.{aside}
use Rattle.core_world.proofs.Roots.{root_quiet}
use Rattle.core_world.proofs.Setting.{settings_quiet}
use Rattle.core_world.proofs.Letting.{lets_calm, observes_on}
use Rattle.core_world.proofs.Observers.{between_on, moves_none, observers_last}
use Rattle.core_begun.specs.Kept.{IsHeldSince, IsKeptSince}
use Rattle.core_keep.specs.From.{course_from}

module _ (starts : Starts) (says : Says) (proper : StartsProper starts) (w : State) (kept : AreLayersKept starts says w) (s : ℕ) (login : has_login w.past s ≡ true) (stays : has_left w.past s ≡ false) (k : StepKind) (other : is_kind k kind.End ≡ false) (apart : is_kind k kind.Pin ≡ false) where
  abbrev e : Event
  e = event.Went s k

  -- other documents, before the journal tells
  module _ (u : Table) (sound : Sound (core_in (origin w) w.past u kept.sessions.committing.writers)) (world : IsKeptSince (origin w) (documents_in u.documents) w.past (λ r. has_written (kept.sessions.committing.writers r)))
      (more : Formers) (grows : FormersGrow w.formers more) (formers : AreFormers (documents_in u.documents) (course_from (origin w) w.past) more)
      (on : (pin : Pin) → IsHeldSince (origin w) w.past pin.base pin.sweep → ReadsOn (origin w) pin (documents_in w.table.documents) (documents_in u.documents) w.past w.past)
      (root : IsRootKept w.begin w.clusters w.past u) (set : documents_in u.documents id.Settings ≡ documents_in w.table.documents id.Settings) where
    committing : AreCommitting (origin w) w.past u w.running
    committing = record {
      writers = kept.sessions.committing.writers;
      sound = sound;
      theirs = kept.sessions.committing.theirs;
      listed = kept.sessions.committing.listed;
      kept = world;
      unstopped = kept.sessions.committing.unstopped;
    }

    readers : AreReading (origin w) (e ∷ w.past) u more w.reading
    readers = record {
      told = formers_event (origin w) (documents_in u.documents) w.past (λ o. has_written (kept.sessions.committing.writers o)) world e (λ o. refl) more formers;
      reads = λ q r h. reading_lasts (origin w) more more (documents_in u.documents) (documents_in u.documents) w.past (e ∷ w.past) r
          (on_event (origin w) r.pin (documents_in u.documents) w.past (λ o. has_written (kept.sessions.committing.writers o)) world e (λ o. refl)) (λ p n f i. i)
          (reading_lasts (origin w) w.formers more (documents_in w.table.documents) (documents_in u.documents) w.past w.past r (on r.pin (reader_held starts says proper w kept.sessions q r h)) grows (kept.sessions.readers.reads q r h));
      above = λ q r h. let a = kept.sessions.readers.above q r h in record { base = a.base; sweep = a.sweep };
      at_base = λ q r h. Rattle.core_world.proofs.Readers.live_left w.past e q (ap (λ o. option_map_or (λ n. n == q) o false) (moves_no_pin s k other apart)) ∙ kept.sessions.readers.at_base q r h;
      pairs = kept.sessions.readers.pairs;
    }

    changed_run : IsRunOf starts says w.clusters w.sessions w.begin (e ∷ w.past)
    changed_run = ((login, stays), kept.sessions.run)

    -- readers of changes go on over the change of documents, and then over the event
    observers : AreObserving (origin w) w.sessions (e ∷ w.past) u more w.observing
    observers = observers_last starts says w.clusters w.sessions w.begin kept.sessions.nodes proper w.past e changed_run w.table u w.formers more w.observing kept.sessions.observers (λ j. refl)
        (λ q r h. between_on starts says w.clusters w.sessions w.begin kept.sessions.nodes w.past e q r (moves_none e (moves_no_pin s k other apart) q) (λ o. refl) (λ o. refl) (kept.sessions.observers.between q r h))
        _ (quiet_commits (origin w) w.past u w.running committing (told starts says proper w kept.sessions) e refl (λ j. refl)).kept
        (λ r can tells. (lets_calm (origin w) u w.past (λ o. has_written (kept.sessions.committing.writers o)) world e (λ o. refl) refl).observes more r can
        (observes_on (origin w) w.formers more (documents_in w.table.documents) u w.past w.past (told starts says proper w kept.sessions) grows r (λ q seen. refl) on
        (record { done = λ o. has_written (kept.sessions.committing.writers o); world = world; then = can.then; now = can.then; bases = λ q ws h o. refl }) tells))

    pub changed_keeps : AreLayersKept starts says (record (after_change w s k u) { formers = more })
    changed_keeps =
        let run : IsRunOf starts says w.clusters w.sessions w.begin (e ∷ w.past) = ((login, stays), kept.sessions.run) in
        record {
          sessions = record {
            nodes = kept.sessions.nodes;
            run = run;
            committing = quiet_commits (origin w) w.past u w.running committing (told starts says proper w kept.sessions) e refl (λ k. refl);
            working = work_quiet w.sessions w.past w.running w.reading kept.sessions.working e refl (goes_not s k other) (λ j. refl);
            memories = aside starts says w.clusters w.sessions w.begin kept.sessions.nodes w.past w.memories kept.sessions.memories e run (λ j. refl) (λ j. ap (λ o. option_map_or (λ n. not (is_of_node w.sessions j n)) o true) (moves_no_pin s k other apart));
            readers = readers;
            observers = observers;
          };
          root = root_quiet w.clusters w.begin w.past u e refl root;
          settings = settings_quiet w.sessions w.past w.table u e refl set kept.settings;
        }

    pub changed_rises : IsHoldingStep (holding_in w) (holding_in (record (after_change w s k u) { formers = more }))
    changed_rises = holding starts says proper w kept (record (after_change w s k u) { formers = more }) changed_keeps (e ∷ []) refl refl refl refl (all_still starts says proper w kept) (same_kept starts says proper w kept u set)
