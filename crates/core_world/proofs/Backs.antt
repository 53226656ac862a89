-- Background work and sweeps keep the world.
use Rattle.std.proofs.Common.{◌≡◌, ℕ, ◌≤◌, true, false, cond, not, ◌&&◌, Option, Some, None, [], ◌∷◌, is_some, is_none, refl, sym, ap, subst, ◌∙◌}
use Rattle.std.specs.Prelude.{◌==◌, Err, Ok, drop, slice_get}
use Rattle.std.specs.List.{list_all}
use Rattle.std.specs.Option.{option_map_or}
use Rattle.std.specs.Ordering.{eq_by_cmp}
use Rattle.jr_path.specs.Names.{path_cmp}
use Rattle.jr_path.specs.declared.path.Path.{Path}
use Rattle.jr_path.specs.declared.path.DocId.{DocId}
use Rattle.jr_path.specs.declared.path.DocId.TheVariants as id
use Rattle.jr_rev.specs.declared.revision.Revision.{Revision}
use Rattle.jr_rev.specs.declared.vector.RevVec.{RevVec}
use Rattle.jr_rev.specs.Revisions.{is_at_most}
use Rattle.oak_doc.specs.declared.document.Document.{Document}
use Rattle.oak_doc.specs.declared.update.UpdateOp.{UpdateOp}
use Rattle.oak_doc.specs.declared.update.OpFault.TheVariants as fault
use Rattle.oak_doc.specs.Updates.{after_changes, is_met, update_refusal, updated}
use Rattle.oak_machine.specs.declared.event.Event.{Event}
use Rattle.oak_machine.specs.declared.event.Event.TheVariants as event
use Rattle.oak_machine.specs.declared.event.StepKind.TheVariants as kind
use Rattle.oak_machine.specs.History.{Past, Begin}
use Rattle.oak_machine.specs.Commits.{is_commit_of}
use Rattle.oak_machine.specs.Heads.{local, published}
use Rattle.oak_machine.specs.Laws.{Says, Starts, StartsProper}
use Rattle.oak_machine.specs.Runs.{IsNode, IsRunOf, MayFollow}
use Rattle.oak_machine.specs.Sessions.{has_left, has_login, is_end_of_session, is_stop_of, is_stopped_under}
use Rattle.oak_node.specs.Heads.{learned}
use Rattle.oak_node.specs.Memory.{own_entry}
use Rattle.oak_store.specs.Tables.{Table, found, next_number, with_document}
use Rattle.core_read.specs.Committing.{is_marking}
use Rattle.core_read.proofs.Latest.{at_most_trans}
use Rattle.core_heads.specs.Sound.{Public}
use Rattle.core_heads.proofs.Entries.{still_seen}
use Rattle.core_heads.proofs.Later.{published_is}
use Rattle.core_heads.proofs.Runs.{moments_run, sound_run}
use Rattle.core_nodes.proofs.Vectors.{right_seen}
use Rattle.jr_rev.specs.Vectors.{greatest, sees, raised}
use Rattle.core_clash.specs.Core.{is_quiet}
use Rattle.core_nodes.proofs.Memories.{own_is}
use Rattle.core_nodes.proofs.Pins.{leaves_both}
use Rattle.core_nodes.specs.Nodes.{IsMemoryOf, IsOnRoot, is_of_node, leaves_memory, moved_pin}
use Rattle.core_world.specs.States.{State, history_in, memory_of, node_of, nodes_in, origin}
use Rattle.core_world.specs.Steps.{after_back, after_learn, after_learn_swept, after_out, after_pending, after_sweep, after_update, with_result}
use Rattle.oak_sync.specs.Publishing.{back_op}
use Rattle.oak_sweep.specs.Sweeping.{sweep_op}
use Rattle.core_world.specs.Kept.{has_written, AreCommitting, AreSessionsKept, AreLayersKept, IsRootKept, WereOnRoot}
use Rattle.core_world.proofs.Finishing.{quiet_commits}
use Rattle.core_world.proofs.Flights.{draws_nothing, work_quiet}
use Rattle.core_world.proofs.Lives.{its_node, node_goes, reader_held, reads_calm, session_there, told, observes_calm}
use Rattle.core_world.proofs.Letting.{is_bound, LetsRead, lets_calm, lets_still, lets_then}
use Rattle.core_world.proofs.Memories.{aside, learn_memories, pending_memories, swept_memories}
use Rattle.core_world.proofs.Readers.{event_reads, moved_base}
use Rattle.core_world.proofs.Roots.{root_out, root_quiet, root_swept, update_elsewhere, starts_raised}
use Rattle.core_world.proofs.Setting.{settings_quiet, update_apart}
use Rattle.core_world.proofs.Tables.{put_write}
use Rattle.core_world.proofs.Telling.{revectored, vectors_commit, vectors_let}
use Rattle.core_world.proofs.Observers.{event_observes, moves_none}

-- an update that makes no document and has no condition
abbrev pub done_at : Table → DocId → UpdateOp → Option Document → Table
done_at t x op o = with_result t x (cond (is_none o && not false) (Err fault.Absent) (Ok (after_changes o op (next_number t))))

pub update_is : (t : Table) (x : DocId) (op : UpdateOp) → op.id ≡ x → op.create ≡ false → op.cond ≡ None → after_update t op ≡ done_at t x op (found t x)
update_is t x op at create met =
    ap (λ i. with_result t i (updated (found t i) op (next_number t))) at
    ∙ (ap (λ b. with_result t x (cond (is_none (found t x) && not b) (Err fault.Absent) (cond (is_met (found t x) op.cond) (Ok (after_changes (found t x) op (next_number t))) (Err (update_refusal (found t x) op.cond))))) create
    ∙ ap (λ c. with_result t x (cond (is_none (found t x) && not false) (Err fault.Absent) (cond (is_met (found t x) c) (Ok (after_changes (found t x) op (next_number t))) (Err (update_refusal (found t x) c))))) met)

-- the root after an update of it alone
pub told_root : (t : Table) (d : Document) (op : UpdateOp) → op.id ≡ id.Node [] → op.create ≡ false → op.cond ≡ None → nodes_in t [] ≡ Some d → nodes_in (after_update t op) [] ≡ Some (after_changes (Some d) op (next_number t))
told_root t d op at create met there =
    ap (λ (u : Table). nodes_in u []) (update_is t (id.Node []) op at create met ∙ ap (done_at t (id.Node []) op) there)
    ∙ (put_write t [] (after_changes (Some d) op (next_number t)) (next_number t)).at

module _ (starts : Starts) (says : Says) (proper : StartsProper starts) (w : State) (kept : AreSessionsKept starts says w) where
  -- an event that touches no committer, no memory and no pin, with a document whose vectors are raised
  module _ (e : Event) (may : MayFollow starts says (history_in w) e) (quiet : is_quiet e ≡ true) (on : (k : ℕ) → is_stop_of k e ≡ false) (calm : (r : Revision) → is_commit_of r e ≡ false) (unbound : is_bound e ≡ false) (draws : draws_nothing e ≡ true) (ends : (q : ℕ) → is_end_of_session q e ≡ false) (unbased : moved_base e ≡ None)
      (leaves : (j : ℕ) → leaves_memory j e ≡ true) (unmoved : moved_pin e ≡ None) where
    -- with other documents
    pub with_table : (u : Table) → AreCommitting (origin w) w.past u w.running → LetsRead (origin w) w.table u w.past w.past → AreSessionsKept starts says (record w { past = e ∷ w.past; table = u })
    with_table u committing lets = record {
      nodes = kept.nodes;
      run = (may, kept.run);
      committing = quiet_commits (origin w) w.past u w.running committing (told starts says proper w kept) e quiet on;
      working = work_quiet w.sessions w.past w.running w.reading kept.working e draws ends on;
      memories = aside starts says w.clusters w.sessions w.begin kept.nodes w.past w.memories kept.memories e (may, kept.run) leaves (λ j. leaves_both w.sessions j e (leaves j) (ap (λ o. option_map_or (λ n. not (is_of_node w.sessions j n)) o true) unmoved));
      readers = event_reads (origin w) w.past w.table w.formers w.reading kept.readers (reader_held starts says proper w kept) e u
          (lets_then (origin w) w.table u u w.past (e ∷ w.past) (λ r. has_written (committing.writers r)) committing.kept lets (lets_calm (origin w) u w.past (λ r. has_written (committing.writers r)) committing.kept e calm unbound))
          (λ q r h. ap (λ o. option_map_or (λ n. n == q) o false) unbased);
      observers = event_observes starts says w.clusters w.sessions w.begin kept.nodes proper w.past e (may, kept.run) w.table u w.formers w.observing kept.observers on (λ q r h. moves_none e unmoved q)
          _ (quiet_commits (origin w) w.past u w.running committing (told starts says proper w kept) e quiet on).kept
          (lets_then (origin w) w.table u u w.past (e ∷ w.past) (λ r. has_written (committing.writers r)) committing.kept lets (lets_calm (origin w) u w.past (λ r. has_written (committing.writers r)) committing.kept e calm unbound));
    }

    -- an update that raises the vectors of a document, where it is there
    pub with_vectors : (p : Path) (op : UpdateOp) → op.id ≡ id.Node p → op.create ≡ false → op.cond ≡ None → list_all is_marking op.changes ≡ true
        → (l v : Document → RevVec) → ((d : Document) (n : ℕ) → after_changes (Some d) op n ≡ revectored d (l d) (v d) n) → AreSessionsKept starts says (record w { past = e ∷ w.past; table = after_update w.table op })
    with_vectors p op at create met all l v is = by (found w.table (id.Node p)) refl
      where
        by : (o : Option Document) → found w.table (id.Node p) ≡ o → AreSessionsKept starts says (record w { past = e ∷ w.past; table = after_update w.table op })
        by None there = subst (λ (u : Table). AreSessionsKept starts says (record w { past = e ∷ w.past; table = u })) (sym (update_is w.table (id.Node p) op at create met ∙ ap (done_at w.table (id.Node p) op) there))
            (with_table w.table kept.committing (lets_still (origin w) w.table w.past))
        by (Some d) there = subst (λ (u : Table). AreSessionsKept starts says (record w { past = e ∷ w.past; table = u })) (sym (update_is w.table (id.Node p) op at create met ∙ (ap (done_at w.table (id.Node p) op) there ∙ ap (λ (x : Document). with_document w.table (id.Node p) x (next_number w.table)) (is d (next_number w.table)))))
            (with_table (with_document w.table (id.Node p) (revectored d (l d) (v d) (next_number w.table)) (next_number w.table))
            (vectors_commit (origin w) w.past w.table w.running kept.committing (told starts says proper w kept) p d there op at all (l d) (v d) (is d (next_number w.table)))
            (vectors_let (origin w) w.past w.table w.running kept.committing (told starts says proper w kept) p d there op at all (l d) (v d) (is d (next_number w.table))))

  -- ---- each step

  module _ (s : ℕ) (login : has_login w.past s ≡ true) where
    there : is_some (slice_get w.sessions s) ≡ true
    there = session_there starts says proper w kept s login

    node : IsNode w.clusters (node_of w s)
    node = its_node starts says proper w kept s there

    pub back_sessions : has_left w.past s ≡ false → (p : Path) (r : Revision) → AreSessionsKept starts says (after_back w s p r)
    back_sessions stays p r = with_vectors (event.Went s kind.Back) (login, stays) refl (λ k. refl) (λ q. refl) refl refl (λ q. refl) refl (λ j. refl) refl p (back_op p r) refl refl refl refl (λ d. raised d.last_rev r) (λ d. d.sweep_rev) (λ d n. refl)

    pub out_sessions : (r : Revision) → r.cluster ≡ node_of w s → is_at_most r (local w.begin w.past (node_of w s)) ≡ true → AreSessionsKept starts says (after_out w s r)
    out_sessions r of low = with_vectors (event.Out (node_of w s) r) (of, low) refl (λ k. refl) (λ q. refl) refl refl (λ q. refl) refl (λ j. refl) refl [] (back_op [] r) refl refl refl refl (λ d. raised d.last_rev r) (λ d. d.sweep_rev) (λ d n. refl)

    pub sweep_sessions : (r : Revision) → r.cluster ≡ node_of w s → is_at_most r (published w.begin w.past (node_of w s)) ≡ true → AreSessionsKept starts says (after_sweep w s r)
    sweep_sessions r of low = with_vectors (event.Sweep (node_of w s) r) (of, low) refl (λ k. refl) (λ q. refl) refl refl (λ q. refl) refl (λ j. refl) refl [] (sweep_op r) refl refl refl refl (λ d. d.last_rev) (λ d. raised d.sweep_rev r) (λ d n. refl)

    pub learn_sessions : is_stopped_under w.sessions w.past s ≡ false → (n : ℕ) (last sweep : RevVec) → IsOnRoot w.begin w.clusters (drop n w.past) last sweep → AreSessionsKept starts says (after_learn w s last sweep)
    learn_sessions on n last sweep root =
        let e : Event = event.In (node_of w s) (learned (memory_of w s) last sweep).head in
        let learns = learn_memories starts says w.clusters w.sessions w.begin kept.nodes w.past w.memories kept.memories (node_of w s) node (node_goes starts says proper w kept s there on) n last sweep root kept.run in
        record {
          nodes = kept.nodes;
          run = learns.0;
          committing = quiet_commits (origin w) w.past w.table w.running kept.committing (told starts says proper w kept) e refl (λ k. refl);
          working = work_quiet w.sessions w.past w.running w.reading kept.working e refl (λ q. refl) (λ k. refl);
          memories = learns.1;
          readers = reads_calm starts says proper w kept e (λ q. refl) refl (λ q r h. refl);
          observers = observes_calm starts says proper w kept e learns.0 (λ k. refl) (λ q. refl) refl (λ q r h. refl) w.running (quiet_commits (origin w) w.past w.table w.running kept.committing (told starts says proper w kept) e refl (λ k. refl));
        }

    pub pending_sessions : has_left w.past s ≡ false → AreSessionsKept starts says (after_pending w s)
    pending_sessions stays =
        let e : Event = event.Went s kind.Back in
        let run : IsRunOf starts says w.clusters w.sessions w.begin (e ∷ w.past) = ((login, stays), kept.run) in
        record {
          nodes = kept.nodes;
          run = run;
          committing = quiet_commits (origin w) w.past w.table w.running kept.committing (told starts says proper w kept) e refl (λ k. refl);
          working = work_quiet w.sessions w.past w.running w.reading kept.working e refl (λ q. refl) (λ k. refl);
          memories = pending_memories starts says w.clusters w.sessions w.begin kept.nodes w.past w.memories kept.memories s (node_of w s) node run;
          readers = reads_calm starts says proper w kept e (λ q. refl) refl (λ q r h. refl);
          observers = observes_calm starts says proper w kept e run (λ k. refl) (λ q. refl) refl (λ q r h. refl) w.running (quiet_commits (origin w) w.past w.table w.running kept.committing (told starts says proper w kept) e refl (λ k. refl));
        }

    pub learn_swept_sessions : has_left w.past s ≡ false → (r : Revision) → r.cluster ≡ node_of w s → is_at_most r (local w.begin w.past (node_of w s)) ≡ true → AreSessionsKept starts says (after_learn_swept w s r)
    learn_swept_sessions stays r of low =
        let e : Event = event.Went s kind.Learn in
        let run : IsRunOf starts says w.clusters w.sessions w.begin (e ∷ w.past) = ((login, stays), kept.run) in
        record {
          nodes = kept.nodes;
          run = run;
          committing = quiet_commits (origin w) w.past w.table w.running kept.committing (told starts says proper w kept) e refl (λ k. refl);
          working = work_quiet w.sessions w.past w.running w.reading kept.working e refl (λ q. refl) (λ k. refl);
          memories = swept_memories starts says w.clusters w.sessions w.begin kept.nodes w.past w.memories kept.memories s (node_of w s) node r of low run;
          readers = reads_calm starts says proper w kept e (λ q. refl) refl (λ q r h. refl);
          observers = observes_calm starts says proper w kept e run (λ k. refl) (λ q. refl) refl (λ q r h. refl) w.running (quiet_commits (origin w) w.past w.table w.running kept.committing (told starts says proper w kept) e refl (λ k. refl));
        }

-- ---- with the root

module _ (starts : Starts) (says : Says) (proper : StartsProper starts) (w : State) (kept : AreLayersKept starts says w) (s : ℕ) (login : has_login w.past s ≡ true) where
  on : IsNode w.clusters (node_of w s)
  on = its_node starts says proper w kept.sessions s (session_there starts says proper w kept.sessions s login)

  pub back_keeps : has_left w.past s ≡ false → (p : Path) (r : Revision) → eq_by_cmp path_cmp [] p ≡ false → AreLayersKept starts says (after_back w s p r)
  back_keeps stays p r other = record {
    sessions = back_sessions starts says proper w kept.sessions s login stays p r;
    root = root_quiet w.clusters w.begin w.past (after_update w.table (back_op p r)) (event.Went s kind.Back) refl (update_elsewhere w.clusters w.begin w.past w.table kept.root p (back_op p r) refl other);
    settings = settings_quiet w.sessions w.past w.table (after_update w.table (back_op p r)) (event.Went s kind.Back) refl (update_apart w.table p (back_op p r) refl) kept.settings;
  }

  pub out_keeps : (r : Revision) → r.cluster ≡ node_of w s → is_at_most r (local w.begin w.past (node_of w s)) ≡ true → AreLayersKept starts says (after_out w s r)
  out_keeps r of low = record {
    sessions = out_sessions starts says proper w kept.sessions s login r of low;
    root = record {
      document = revectored kept.root.document (raised kept.root.document.last_rev r) kept.root.document.sweep_rev (next_number w.table);
      there = told_root w.table kept.root.document (back_op [] r) refl refl refl kept.root.there;
      tells = root_out w.clusters w.begin kept.sessions.nodes.eight w.past kept.root.document.last_rev kept.root.document.sweep_rev kept.root.tells (node_of w s) on r of;
      begun = kept.root.begun;
    };
    settings = settings_quiet w.sessions w.past w.table (after_update w.table (back_op [] r)) (event.Out (node_of w s) r) refl (update_apart w.table [] (back_op [] r) refl) kept.settings;
  }

  pub sweep_keeps : (r : Revision) → r.cluster ≡ node_of w s → is_at_most r (published w.begin w.past (node_of w s)) ≡ true → AreLayersKept starts says (after_sweep w s r)
  sweep_keeps r of low = record {
    sessions = sweep_sessions starts says proper w kept.sessions s login r of low;
    root = root_quiet w.clusters w.begin w.past (after_update w.table (sweep_op r)) (event.Sweep (node_of w s) r) refl (record {
      document = revectored kept.root.document kept.root.document.last_rev (raised kept.root.document.sweep_rev r) (next_number w.table);
      there = told_root w.table kept.root.document (sweep_op r) refl refl refl kept.root.there;
      tells = root_swept w.clusters w.begin kept.sessions.nodes.eight w.past kept.root.document.last_rev kept.root.document.sweep_rev kept.root.tells (node_of w s) on r of low;
      begun = starts_raised w.clusters w.begin kept.root.document.sweep_rev r kept.root.begun;
    });
    settings = settings_quiet w.sessions w.past w.table (after_update w.table (sweep_op r)) (event.Sweep (node_of w s) r) refl (update_apart w.table [] (sweep_op r) refl) kept.settings;
  }

  pub learn_keeps : is_stopped_under w.sessions w.past s ≡ false → (last sweep : RevVec) → WereOnRoot w.begin w.clusters w.past last sweep → AreLayersKept starts says (after_learn w s last sweep)
  learn_keeps running last sweep were = record {
    sessions = learn_sessions starts says proper w kept.sessions s login running were.0 last sweep were.1;
    root = root_quiet w.clusters w.begin w.past w.table (event.In (node_of w s) (learned (memory_of w s) last sweep).head) refl kept.root;
    settings = settings_quiet w.sessions w.past w.table w.table (event.In (node_of w s) (learned (memory_of w s) last sweep).head) refl refl kept.settings;
  }

  pub pending_keeps : has_left w.past s ≡ false → AreLayersKept starts says (after_pending w s)
  pending_keeps stays = record {
    sessions = pending_sessions starts says proper w kept.sessions s login stays;
    root = root_quiet w.clusters w.begin w.past w.table (event.Went s kind.Back) refl kept.root;
    settings = settings_quiet w.sessions w.past w.table w.table (event.Went s kind.Back) refl refl kept.settings;
  }

  pub learn_swept_keeps : has_left w.past s ≡ false → (r : Revision) → r.cluster ≡ node_of w s → is_at_most r (local w.begin w.past (node_of w s)) ≡ true → AreLayersKept starts says (after_learn_swept w s r)
  learn_swept_keeps stays r of low = record {
    sessions = learn_swept_sessions starts says proper w kept.sessions s login stays r of low;
    root = root_quiet w.clusters w.begin w.past w.table (event.Went s kind.Learn) refl kept.root;
    settings = settings_quiet w.sessions w.past w.table w.table (event.Went s kind.Learn) refl refl kept.settings;
  }

  pub own_entry_is : own_entry (memory_of w s) ≡ local w.begin w.past (node_of w s)
  own_entry_is = own_is w.begin w.clusters w.sessions kept.sessions.nodes w.past (sound_run w.clusters w.sessions kept.sessions.nodes w.begin starts says w.past kept.sessions.run) (node_of w s) on (memory_of w s) (kept.sessions.memories.memory (node_of w s) on)

  -- what was public when the root was read, the head sees once it is learned
  pub heard : (last sweep : RevVec) → WereOnRoot w.begin w.clusters w.past last sweep → (r : Revision) → sees last r ≡ true → sees (learned (memory_of w s) last sweep).head r ≡ true
  heard last sweep were r h = still_seen (greatest (memory_of w s).head last) (own_entry (memory_of w s)) r low (right_seen (memory_of w s).head last r h) at_own
    where
      is : IsMemoryOf w.begin w.clusters w.past (node_of w s) (memory_of w s)
      is = kept.sessions.memories.memory (node_of w s) on

      own_cluster : (own_entry (memory_of w s)).cluster ≡ node_of w s
      own_cluster = is.memory.own_node ∙ is.cluster

      low : 1 ≤ (own_entry (memory_of w s)).cluster
      low = subst (λ (j : ℕ). 1 ≤ j) (sym own_cluster) on.0

      public : Public w.clusters w.begin w.past r
      public = (moments_run w.clusters w.sessions kept.sessions.nodes w.begin starts says w.past kept.sessions.run were.0).public r ((were.1.public r).0 h)

      at_own : r.cluster ≡ (own_entry (memory_of w s)).cluster → is_at_most r (own_entry (memory_of w s)) ≡ true
      at_own same = subst (λ (e : Revision). is_at_most r e ≡ true) (sym own_entry_is)
          (at_most_trans r (published w.begin w.past (node_of w s)) (local w.begin w.past (node_of w s))
          (subst (λ (j : ℕ). is_at_most r (published w.begin w.past j) ≡ true) (same ∙ own_cluster) public.1)
          (published_is w.clusters w.sessions kept.sessions.nodes w.begin w.past (sound_run w.clusters w.sessions kept.sessions.nodes w.begin starts says w.past kept.sessions.run) (node_of w s)).1)

-- what is read of the root now
pub told_now : (clusters : ℕ) (begin : Begin) (past : Past) (t : Table) → IsRootKept begin clusters past t → (d : Document) → nodes_in t [] ≡ Some d → IsOnRoot begin clusters past d.last_rev d.sweep_rev
told_now clusters begin past t root d there = subst (λ (e : Document). IsOnRoot begin clusters past e.last_rev e.sweep_rev) (ap (λ (o : Option Document). option_map_or (λ e. e) o d) (sym root.there ∙ there)) root.tells
