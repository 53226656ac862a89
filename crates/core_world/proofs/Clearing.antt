-- A recovery undoes what is dead in a document.
use Rattle.std.proofs.Common.{◌≡◌, ℕ, Bool, true, false, [], ◌∷◌, refl}
use Rattle.jr_path.specs.declared.path.Path.{Path}
use Rattle.jr_path.specs.declared.path.DocId.TheVariants as id
use Rattle.oak_machine.specs.Commits.{is_ended}
use Rattle.oak_machine.specs.Laws.{Says, Starts, StartsProper}
use Rattle.oak_machine.specs.Sessions.{has_left, has_login}
use Rattle.oak_machine.specs.declared.event.Draw.{Draw}
use Rattle.oak_machine.specs.declared.event.Event.{Event}
use Rattle.oak_machine.specs.declared.event.Event.TheVariants as event
use Rattle.oak_machine.specs.declared.event.StepKind.TheVariants as kind
use Rattle.oak_store.specs.Tables.{Table, after_undo}
use Rattle.core_keep.specs.Holding.{IsHoldingStep}
use Rattle.core_clash.specs.Core.{IsDead}
use Rattle.core_nodes.proofs.Pins.{leaves_both}
use Rattle.core_world.specs.Held.{holding_in}
use Rattle.core_world.specs.Kept.{AreCommitting, AreLayersKept, AreSessionsKept, IsKept, IsPinned}
use Rattle.core_world.specs.States.{State, memory_at, origin}
use Rattle.core_world.specs.Steps.{after_clear}
use Rattle.core_world.proofs.Again.{IsAgain, again_commits, again_lets}
use Rattle.core_world.proofs.Flights.{work_quiet}
use Rattle.core_world.proofs.Held.{holding, memory_still, same_kept}
use Rattle.core_world.proofs.Letting.{LetsRead}
use Rattle.core_world.proofs.Lives.{reader_held, told}
use Rattle.core_world.proofs.Memories.{aside}
use Rattle.core_world.proofs.Readers.{event_reads}
use Rattle.core_world.proofs.Roots.{root_quiet, undo_root}
use Rattle.core_world.proofs.Seated.{quiet_pinned}
use Rattle.core_world.proofs.Setting.{settings_quiet, undo_apart}
use Rattle.core_world.proofs.Truths.{leaves_nothing}
use Rattle.core_world.proofs.Undoing.{clear_commits, clear_lets}
use Rattle.core_world.proofs.Whole.{goes, layers_of}
use Rattle.core_world.proofs.Observers.{event_observes}

module _ (starts : Starts) (says : Says) (proper : StartsProper starts) (w : State) (s : ℕ) (login : has_login w.past s ≡ true) (stays : has_left w.past s ≡ false)
    (d : Draw) (dead : IsDead w.past d) (p : Path) where
  abbrev e : Event
  e = event.Went s kind.Undo

  abbrev u : State
  u = after_clear w s p d.revision

  module _ (kept : AreSessionsKept starts says w) where
    abbrev then : Table
    then = after_undo w.table (id.Node p) d.revision

    again : is_ended w.past d.revision ≡ true → IsAgain w d p
    again ended = record {
      dead = dead;
      ended = ended;
      free = leaves_nothing starts says proper w kept d.revision ended dead.uncommitted p;
    }

    -- whether it is in flight still, or has ended already and the document has nothing of it
    commits : (b : Bool) → is_ended w.past d.revision ≡ b → AreCommitting (origin w) (e ∷ w.past) then w.running
    commits false open_ = clear_commits (origin w) w.past w.table w.running kept.committing (told starts says proper w kept) d dead open_ p s
    commits true ended = again_commits w kept.committing d p (again ended) s

    lets : (b : Bool) → is_ended w.past d.revision ≡ b → LetsRead (origin w) w.table then w.past (e ∷ w.past)
    lets false open_ = clear_lets (origin w) w.past w.table w.running kept.committing (told starts says proper w kept) d dead open_ p s
    lets true ended = again_lets w kept.committing d p (again ended) s

    pub clear_sessions : AreSessionsKept starts says (after_clear w s p d.revision)
    clear_sessions = record {
      nodes = kept.nodes;
      run = ((login, stays), kept.run);
      committing = commits (is_ended w.past d.revision) refl;
      working = work_quiet w.sessions w.past w.running w.reading kept.working e refl (λ q. refl) (λ k. refl);
      memories = aside starts says w.clusters w.sessions w.begin kept.nodes w.past w.memories kept.memories e ((login, stays), kept.run) (λ j. refl) (λ j. leaves_both w.sessions j e refl refl);
      readers = event_reads (origin w) w.past w.table w.formers w.reading kept.readers (reader_held starts says proper w kept) e (after_undo w.table (id.Node p) d.revision)
          (lets (is_ended w.past d.revision) refl) (λ q r h. refl);
      observers = event_observes starts says w.clusters w.sessions w.begin kept.nodes proper w.past e ((login, stays), kept.run) w.table then w.formers w.observing kept.observers (λ k. refl) (λ q r h. refl)
          _ (commits (is_ended w.past d.revision) refl).kept (lets (is_ended w.past d.revision) refl);
    }

  module _ (kept : AreLayersKept starts says w) where
    pub clear_layers : AreLayersKept starts says (after_clear w s p d.revision)
    clear_layers = record {
      sessions = clear_sessions kept.sessions;
      root = root_quiet w.clusters w.begin w.past (after_undo w.table (id.Node p) d.revision) e refl (undo_root w.clusters w.begin w.past w.table kept.root p d.revision);
      settings = settings_quiet w.sessions w.past w.table (after_undo w.table (id.Node p) d.revision) e refl (undo_apart w.table p d.revision) kept.settings;
    }

    pub clear_rises : IsHoldingStep (holding_in w) (holding_in (after_clear w s p d.revision))
    clear_rises = holding starts says proper w kept u clear_layers (e ∷ []) refl refl refl refl
        (λ k on. memory_still (memory_at w.memories k) (memory_at w.memories k) refl refl)
        (same_kept starts says proper w kept (after_undo w.table (id.Node p) d.revision) (undo_apart w.table p d.revision))

    pub clear_pinned : IsPinned w → IsPinned (after_clear w s p d.revision)
    clear_pinned pinned = quiet_pinned starts says proper w kept pinned u refl refl refl refl (λ q. refl) (undo_apart w.table p d.revision)

  -- what is dead is undone, also where it has ended
  pub clear_whole : IsKept starts says w → IsKept starts says (after_clear w s p d.revision)
  clear_whole kept =
      let layers = layers_of starts says w kept in
      goes starts says proper w kept u refl refl (clear_layers layers) (λ r. refl) (λ r. refl) (clear_rises layers) (clear_pinned layers kept.pinned)
