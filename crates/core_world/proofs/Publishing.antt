-- The root is told what is published of a cluster node, and that it is swept.
use Rattle.std.proofs.Common.{◌≡◌, ℕ, true, None, [], ◌∷◌, refl}
use Rattle.jr_rev.specs.declared.revision.Revision.{Revision}
use Rattle.jr_rev.specs.Revisions.{is_at_most}
use Rattle.jr_rev.specs.Vectors.{raised}
use Rattle.oak_machine.specs.Heads.{local, published}
use Rattle.oak_machine.specs.Laws.{Says, Starts, StartsProper}
use Rattle.oak_machine.specs.Runs.{IsNode}
use Rattle.oak_machine.specs.declared.event.Event.TheVariants as event
use Rattle.oak_store.specs.Tables.{Table, next_number}
use Rattle.core_keep.specs.Holding.{IsHoldingStep}
use Rattle.core_world.specs.Held.{holding_in}
use Rattle.core_world.specs.Kept.{AreLayersKept, AreSessionsKept, IsKept, IsPinned}
use Rattle.core_world.specs.States.{State, memory_at, origin}
use Rattle.core_world.specs.Steps.{after_publish, after_update}
use Rattle.oak_recover.specs.Recovering.{publish_op}
use Rattle.core_world.proofs.Backs.{told_root, with_table, with_vectors}
use Rattle.core_world.proofs.Held.{holding, memory_still, same_kept}
use Rattle.core_world.proofs.Letting.{lets_still}
use Rattle.core_world.proofs.Roots.{out_now, root_out, root_quiet, root_swept, starts_raised}
use Rattle.core_world.proofs.Seated.{quiet_pinned}
use Rattle.core_world.proofs.Setting.{settings_quiet, update_apart}
use Rattle.core_world.proofs.Telling.{revectored}
use Rattle.core_world.proofs.Whole.{goes, layers_of}

module _ (starts : Starts) (says : Says) (proper : StartsProper starts) (w : State) (k : ℕ) (node : IsNode w.clusters k) (r : Revision) (of : r.cluster ≡ k) (low : is_at_most r (local w.begin w.past k) ≡ true) where
  abbrev told_table : Table
  told_table = after_update w.table (publish_op r)

  abbrev out_state : State
  out_state = record w { past = event.Out k r ∷ w.past; table = told_table }

  abbrev u : State
  u = after_publish w k r

  module _ (kept : AreLayersKept starts says w) where
    out_sessions : AreSessionsKept starts says out_state
    out_sessions = with_vectors starts says proper w kept.sessions (event.Out k r) (of, low) refl (λ j. refl) (λ q. refl) refl refl (λ q. refl) refl (λ j. refl) refl [] (publish_op r) refl refl refl refl
        (λ d. raised d.last_rev r) (λ d. raised d.sweep_rev r) (λ d n. refl)

    public : is_at_most r (published w.begin (event.Out k r ∷ w.past) k) ≡ true
    public = out_now w.clusters w.begin kept.sessions.nodes.eight w.past kept.root.document.last_rev kept.root.document.sweep_rev kept.root.tells k node r of

    pub publish_sessions : AreSessionsKept starts says (after_publish w k r)
    publish_sessions = with_table starts says proper out_state out_sessions (event.Sweep k r) (of, public) refl (λ j. refl) (λ q. refl) refl refl (λ q. refl) refl (λ j. refl) refl told_table out_sessions.committing (lets_still (origin w) told_table out_state.past)

    pub publish_layers : AreLayersKept starts says (after_publish w k r)
    publish_layers = record {
      sessions = publish_sessions;
      root = root_quiet w.clusters w.begin (event.Out k r ∷ w.past) told_table (event.Sweep k r) refl (record {
        document = revectored kept.root.document (raised kept.root.document.last_rev r) (raised kept.root.document.sweep_rev r) (next_number w.table);
        there = told_root w.table kept.root.document (publish_op r) refl refl refl kept.root.there;
        tells = root_swept w.clusters w.begin kept.sessions.nodes.eight (event.Out k r ∷ w.past) (raised kept.root.document.last_rev r) kept.root.document.sweep_rev
            (root_out w.clusters w.begin kept.sessions.nodes.eight w.past kept.root.document.last_rev kept.root.document.sweep_rev kept.root.tells k node r of) k node r of public;
        begun = starts_raised w.clusters w.begin kept.root.document.sweep_rev r kept.root.begun;
      });
      settings = settings_quiet w.sessions (event.Out k r ∷ w.past) told_table told_table (event.Sweep k r) refl refl
          (settings_quiet w.sessions w.past w.table told_table (event.Out k r) refl (update_apart w.table [] (publish_op r) refl) kept.settings);
    }

    pub publish_rises : IsHoldingStep (holding_in w) (holding_in (after_publish w k r))
    publish_rises = holding starts says proper w kept u publish_layers (event.Sweep k r ∷ event.Out k r ∷ []) refl refl refl refl
        (λ j on. memory_still (memory_at w.memories j) (memory_at w.memories j) refl refl)
        (same_kept starts says proper w kept told_table (update_apart w.table [] (publish_op r) refl))

    pub publish_pinned : IsPinned w → IsPinned (after_publish w k r)
    publish_pinned pinned = quiet_pinned starts says proper w kept pinned u refl refl refl refl (λ q. refl) (update_apart w.table [] (publish_op r) refl)

  -- what a node's draws make public, by whichever session it is told
  pub publish_whole : IsKept starts says w → IsKept starts says (after_publish w k r)
  publish_whole kept =
      let layers = layers_of starts says w kept in
      goes starts says proper w kept u refl refl (publish_layers layers) (λ q. refl) (λ q. refl) (publish_rises layers) (publish_pinned layers kept.pinned)
